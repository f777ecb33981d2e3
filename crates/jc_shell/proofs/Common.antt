-- The names that most pages of this crate cite, passed on from one place. Declares nothing.
pub use Rattle.std.proofs.Common.{Bool, Err, IfErr, List, None, Ok, OnOk, Option, Result, Some, [], ap, append-nil, append_assoc, arith, cond, drop, false, inl, inr, length, refl, rules, subst, sym, take, true, ℕ, ◌++◌, ◌+◌, ◌-◌, ◌<◌, ◌==◌, ◌||◌, ◌∙◌, ◌∷◌, ◌≡◌, ◌≤◌, ◌⊎◌}
pub use Rattle.std.proofs.Math.Seq.{drop-append_seam, take-append-add, take-append_seam, take-length}
pub use Rattle.std.proofs.lemmas.Grind.{flat_map-append}
pub use Rattle.std.proofs.lemmas.List.{length-append, take-append-le, take_rest}
pub use Rattle.std.specs.Io.KnownBytes.{Appends, Consumes, IsAtEnd}
pub use Rattle.std.specs.Prelude.{codes}
pub use Rattle.jc_text.proofs.CallerLemmas.{appends-then, pieces_some}
pub use Rattle.jc_text.specs.Places.{complaint}
pub use Rattle.jc_text.specs.Printing.{fault_line}
pub use Rattle.jc_text.specs.Pieces.{pieces_of}
pub use Rattle.jc_text.specs.declared.fault.Fault.{Fault}
pub use Rattle.jc_script.specs.Transcript.{IsTranscript, OpenedWorld, Prints, Transcript, fault_of, opened_world}
pub use Rattle.jc_script.specs.declared.run.RunEnd.TheVariants.{Clean, LineFault}
pub use Rattle.jc_shell.specs.Holding.{Holds, PlaysOn}
pub use Rattle.jc_shell.specs.Running.{BeginsWithQuit, LateCalls}
pub use Rattle.jc_shell.specs.Saving.{Calls, SaveCall, SavesNothing}
pub use Rattle.jc_shell.specs.Sessions.{Accepted, AnswersLine, AnswersWord, AreAnswered, HasFaultNow, IsFront, IsLineAccepted, IsLineRejected, IsUndone, has_feed, next_line_number, nobody, script_of, with_accepted}
pub use Rattle.jc_shell.specs.ShellWords.{help_text, line_help, name_in, no_undo_text, not_saved_text, not_undone_text, undone_text, word_of}
pub use Rattle.jc_shell.specs.declared.run.ShellFault.TheVariants.{OutOfMemory, Read, TooLong, Write}
pub use Rattle.jc_shell.specs.declared.words.Word.TheVariants.{Help, HelpOn, Line, Quit, Save, Undo}
