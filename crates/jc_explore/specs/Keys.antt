-- The key under which a search knows a scene: what decides what may still happen.
--     ScenesAlike             the worlds of two scenes have one essence, and all else of the scenes is equal
--     IsKeyOf                 a key is that of a scene, by these tables of what snapshots have met
--     KeyValue                a snapshot, the positions of the threads, and their replies
--     key_value               the value of a key
--     HaveOneKey              two keys are the same
--     key_print_with          a fingerprint with one more number, as in FNV-1a
--     print_with_position     a fingerprint with the position of a thread
--     print_with_fault        a fingerprint with a refusal
--     print_with_answer       a fingerprint with a reply
--     print_with_reply        a fingerprint with a reply to a thread
--     fingerprint_of_value    the fingerprint of a key's value: of its snapshot, the positions of the threads, and the replies
--     fingerprint_of_key      the fingerprint of a key
--     HasPlace                a fingerprint was noted
use Rattle.std.specs.Prelude.{◌≡◌, ℕ, List, ◌*◌, ◌%◌, ◌^◌, bit_xor, nat_eq, None, Some, IsSome, true, false}
use Rattle.std.specs.HashMap.{get}
use Rattle.std.specs.List.{fold}
use Rattle.jc_types.specs.declared.refusal.Refusal.{Refusal}
use Rattle.jc_types.specs.declared.refusal.Refusal.TheVariants as refusal
use Rattle.jc_model.specs.declared.event.Reply.{Reply}
use Rattle.jc_model.specs.declared.event.Reply.TheVariants as reply
use Rattle.jc_world.specs.Essence.{essence_of_world}
use Rattle.jc_snapshot.specs.declared.seen.Seen.{Seen}
use Rattle.jc_snapshot.specs.Fingerprint.{fingerprint_of}
use Rattle.jc_snapshot.specs.Snapshot.{IsSnapshot}
use Rattle.jc_explore.specs.declared.key.StateKey.{StateKey}
use Rattle.jc_explore.specs.declared.key.TheConstants.{PRINT_FACTOR}
use Rattle.jc_explore.specs.declared.places.Places.{Places}
use Rattle.jc_explore.specs.declared.replies.ThreadReply.{ThreadReply}
use Rattle.jc_explore.specs.declared.scene.Position.{Position}
use Rattle.jc_explore.specs.Schedule.{SceneState}

pub record ScenesAlike (a b : SceneState) : Type 0 where
  pub world : essence_of_world a.world ≡ essence_of_world b.world
  pub positions : a.positions ≡ b.positions
  pub replies : a.replies ≡ b.replies

pub record IsKeyOf (seen : Seen) (key : StateKey) (s : SceneState) : Type 0 where
  pub world : IsSnapshot (essence_of_world s.world) seen key.snapshot
  pub positions : key.positions.items ≡ s.positions
  pub replies : key.replies.items ≡ s.replies

pub record KeyValue : Type 0 where
  pub snapshot : List ℕ
  pub positions : List Position
  pub replies : List ThreadReply

abbrev pub key_value : StateKey → KeyValue
key_value key = record { snapshot = key.snapshot; positions = key.positions.items; replies = key.replies.items }

abbrev pub HaveOneKey : StateKey → StateKey → Type 0
HaveOneKey a b = key_value a ≡ key_value b

abbrev pub key_print_with : ℕ → ℕ → ℕ
key_print_with print word = (bit_xor print word * PRINT_FACTOR) % 2 ^ 64

abbrev pub print_with_position : ℕ → Position → ℕ
print_with_position print position = key_print_with print position.begun

abbrev pub print_with_fault : ℕ → Refusal → ℕ
print_with_fault print (refusal.LoaderFailed code) = key_print_with (key_print_with print 5) code
print_with_fault print (refusal.WriterFailed code) = key_print_with (key_print_with print 6) code
print_with_fault print (refusal.ProcessorFailed code) = key_print_with (key_print_with print 7) code
print_with_fault print other = key_print_with print 8

abbrev pub print_with_answer : ℕ → Reply → ℕ
print_with_answer print reply.Unit = key_print_with print 0
print_with_answer print (reply.Flag true) = key_print_with print 1
print_with_answer print (reply.Flag false) = key_print_with print 2
print_with_answer print (reply.Value None) = key_print_with print 3
print_with_answer print (reply.Value (Some value)) = fold key_print_with (key_print_with print 4) value
print_with_answer print (reply.Fault refusal) = print_with_fault print refusal

abbrev pub print_with_reply : ℕ → ThreadReply → ℕ
print_with_reply print r = print_with_answer (key_print_with print r.thread) r.reply

abbrev pub fingerprint_of_value : KeyValue → ℕ
fingerprint_of_value v =
    fold print_with_reply (fold print_with_position (fingerprint_of v.snapshot) v.positions) v.replies

abbrev pub fingerprint_of_key : StateKey → ℕ
fingerprint_of_key key = fingerprint_of_value (key_value key)

abbrev pub HasPlace : Places → ℕ → Type 0
HasPlace places n = IsSome (get nat_eq places.by_print n)
