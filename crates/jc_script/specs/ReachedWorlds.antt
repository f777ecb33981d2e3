-- The worlds of a transcript are among those that runs of events reach, so the laws over runs speak of each of them.
--     IsReachedBy          a world is open, and these events, which showed this, have led to it from a start with nothing cached;
--                          or it isn't open yet, and there are none
--     IsBeside             what a line prints that is no event's: nothing, that a world is open, an audit of the world that it
--                          leaves, its untold keys, or that a load failed
--     LeadsOn              more events, each of which fits, lead on to this world; they and what they show are appended. What is
--                          printed is what is printed of them, and what is beside them
--     LinesStayReached     a line without a fault leads on so from each world that is reached
--     LeadThrough          lines one after another, none of which has a fault: each leads on so, from the world that those before
--                          it leave
--     EndsAtLine           how a script ends at a line: it has a fault, or it is the last piece
--     LeadsToEnd           pieces of a script: the lines before that at which it ends lead on so, and the others aren't played
--     TranscriptsStayReached      so it is with each transcript
use Rattle.std.specs.Prelude.{◌≡◌, ◌⊎◌, ◌+◌, ℕ, List, [], ◌∷◌, ◌++◌, length, codes, true, None, Some}
use Rattle.jc_types.specs.declared.config.Config.{Config}
use Rattle.jc_model.specs.Cache.{Bytes}
use Rattle.jc_world.specs.declared.event.Shown.{Shown}
use Rattle.jc_world.specs.declared.event.WorldEvent.{WorldEvent}
use Rattle.jc_world.specs.Runs.{all_fit}
use Rattle.jc_world.specs.Headline.{Reaches, start_with}
use Rattle.jc_world.specs.World.{WorldState, start}
use Rattle.jc_text.specs.declared.fault.Fault.{Fault}
use Rattle.jc_text.specs.Printing.{texts, fails_line, fault_line}
use Rattle.jc_text.specs.Pieces.{pieces_of}
use Rattle.jc_script.specs.declared.run.RunEnd.{RunEnd}
use Rattle.jc_script.specs.declared.run.RunEnd.TheVariants.{LineFault}
use Rattle.jc_script.specs.Transcript.{Audited, untold_text, OpenedWorld, Prints, fault_of, EndsScript, IsTranscript}

-- 1. Lines.

-- as the laws over runs have it
abbrev pub IsReachedBy : List WorldEvent → List Shown → OpenedWorld → Type 0
IsReachedBy events seen None = (events ≡ []) × (seen ≡ [])
IsReachedBy events seen (Some w) =
    (config : Config) × (stored : List (Bytes × Bytes)) × Reaches (start_with config stored) events seen w

-- by the world that the line leaves
abbrev pub IsBeside : OpenedWorld → List ℕ → Type 0
IsBeside new text =
    (text ≡ [])
    ⊎ (((config : Config) × (new ≡ Some (start config)) × (text ≡ codes "open\n"))
    ⊎ (((w : WorldState) × (new ≡ Some w) × Audited w text)
    ⊎ (((w : WorldState) × (new ≡ Some w) × (text ≡ untold_text w))
    ⊎ ((call : ℕ) × (code : ℕ) × (text ≡ fails_line call code)))))

pub record LeadsOn (events : List WorldEvent) (seen : List Shown) (text : List ℕ) (new : OpenedWorld) : Type 0 where
  pub more : List WorldEvent
  pub shown : List Shown
  pub beside : List ℕ
  pub reached : IsReachedBy (events ++ more) (seen ++ shown) new
  pub fit : all_fit shown ≡ true
  pub text_is : text ≡ texts more shown ++ beside
  pub is_beside : IsBeside new beside

abbrev pub LinesStayReached : Type 0
LinesStayReached =
    (events : List WorldEvent) (seen : List Shown) (old new : OpenedWorld) (line text : List ℕ)
    → IsReachedBy events seen old → Prints old line text new → LeadsOn events seen text new

-- 2. Transcripts.

-- each by its own events, behind those of the lines before it
abbrev pub LeadThrough : List WorldEvent → List Shown → OpenedWorld → List (List ℕ) → List ℕ → OpenedWorld → Type 0
LeadThrough events seen old [] out new = (out ≡ []) × (new ≡ old)
LeadThrough events seen old (line ∷ lines) out new =
    (text : List ℕ) × (rest : List ℕ) × (mid : OpenedWorld) × Prints old line text mid
    × (on : LeadsOn events seen text mid)
    × LeadThrough (events ++ on.more) (seen ++ on.shown) mid lines rest new
    × (out ≡ text ++ rest)

-- at the first of these pieces, whose line has this number
abbrev pub EndsAtLine : OpenedWorld → ℕ → List (List ℕ) → List ℕ → RunEnd → Type 0
EndsAtLine w n [] out end = ⊥
EndsAtLine w n (last ∷ []) out end = EndsScript n last out end
EndsAtLine w n (line ∷ next ∷ more) out end =
    (fault : Fault) × (fault_of w line ≡ Some fault) × (out ≡ fault_line n fault) × (end ≡ LineFault n)

-- from a world that these events have reached, and the line with this number
pub record LeadsToEnd (events : List WorldEvent) (seen : List Shown) (old : OpenedWorld) (n : ℕ) (pieces : List (List ℕ))
    (out : List ℕ) (end : RunEnd) : Type 0 where
  pub lines : List (List ℕ)
  pub others : List (List ℕ)
  pub printed : List ℕ
  pub last : List ℕ
  pub new : OpenedWorld
  pub pieces_are : pieces ≡ lines ++ others
  pub leads : LeadThrough events seen old lines printed new
  pub ends : EndsAtLine new (n + length lines) others last end
  pub out_is : out ≡ printed ++ last

abbrev pub TranscriptsStayReached : Type 0
TranscriptsStayReached =
    (input out : List ℕ) (end : RunEnd)
    → IsTranscript input out end → LeadsToEnd [] [] None 1 (pieces_of input) out end
