-- The names that most pages of this crate cite, passed on from one place. Declares nothing.
pub use Rattle.std.proofs.Common.{Bool, Err, List, None, Ok, Option, Result, Some, [], ap, append-nil, append_assoc, arith, cond, drop, false, get_or, inl, inr, length, map, not, refl, slice_get, subst, subst₂, suc, sym, take, true, ℕ, ◌%◌, ◌++◌, ◌+◌, ◌<◌, ◌==◌, ◌^◌, ◌∙◌, ◌∷◌, ◌≡◌, ◌≤◌}
pub use Rattle.std.proofs.lemmas.Bool.{and_from, and_left, and_parts, cond-false, cond-true, not_from_false}
pub use Rattle.std.proofs.lemmas.Grind.{common_steps, flat_map-append}
pub use Rattle.std.proofs.lemmas.List.{map-append, take_at}
pub use Rattle.std.specs.List.{Any, flat_map, join_with_byte, list_all, list_any, position_or_len}
pub use Rattle.std.specs.Prelude.{IfOk, codes, decimal, is_none, is_some, nat_le, nat_lt, position, ◌&&◌}
pub use Rattle.std.specs.Str.{bytes_eq}
pub use Rattle.jc_litmus.specs.Atoms.{atoms_from, is_atom}
pub use Rattle.jc_litmus.specs.Judging.{decides, end_of, first_deciding, is_failure, reply_of, value_of_key, verdict_from, verdict_on}
pub use Rattle.jc_litmus.specs.Outcomes.{counts_text, item_text, outcome_if, text_up_to, thread_at, verdict_line}
pub use Rattle.jc_litmus.specs.Explanations.{ExplainsLines, ExplainsProgram, IsExplained, explanation, explanation_at_end, explanation_from, explanation_if_open, explanation_of, explanation_or}
pub use Rattle.jc_litmus.specs.FaultWords.{bad_from}
pub use Rattle.jc_litmus.specs.UnknownValues.{expectation_warnings, item_warning, thread_warnings, warning_of, warnings_text}
pub use Rattle.jc_text.specs.Places.{start_from}
pub use Rattle.jc_litmus.specs.Program.{ReadSoFar, ReadsLines, after_line, ended, is_blank, onto_last, program_from, program_of, then_on, value_of_program}
pub use Rattle.jc_litmus.specs.ReplyTexts.{HasRefusal, HasReply, RepliesAreOfKind, RepliesAreTold, RepliesOfTable, RepliesReadBack, SilenceIsTold, colon_for_space, reply_word}
pub use Rattle.jc_litmus.specs.ReplyWords.{failure_with, plain_reply, plain_value, refusal_of, reply_from, reply_kind, reply_said, two_words}
pub use Rattle.jc_litmus.specs.Spaced.{lone_text, open_text, spaced}
pub use Rattle.jc_litmus.specs.Witness.{set_text, steps_text}
pub use Rattle.jc_litmus.specs.WordParts.{halves_of}
pub use Rattle.jc_litmus.specs.declared.program.LineFault.{LineFault}
pub use Rattle.jc_litmus.specs.declared.program.LineFault.TheVariants.{BadReply}
pub use Rattle.jc_litmus.specs.declared.reply_words.ReplyKind.{ReplyKind}
pub use Rattle.jc_model.specs.Cache.{Bytes}
pub use Rattle.jc_model.specs.declared.event.Reply.{Reply}
pub use Rattle.jc_text.proofs.CallerLemmas.{no_dash, pieces_some, text_shown}
pub use Rattle.jc_text.specs.ProcessWords.{call_text, fail_words, source_words}
pub use Rattle.jc_text.specs.Spelled.{IsNumber, IsValue, NumbersReadBack, ValuesReadBack, flag_words, spelling}
pub use Rattle.jc_text.specs.Pieces.{pieces_of}
pub use Rattle.jc_text.specs.Words.{is_letter, number_of, some_value, value_or_none_of}
pub use Rattle.jc_text.specs.declared.fault.Fault.{Fault}
pub use Rattle.jc_types.specs.declared.refusal.Refusal.TheVariants.{BadConfig, Busy, HistoryFull, LoaderFailed, NoLoader, NoWriter, OutOfMemory, ProcessorFailed, RepeatedKey, StillReserved, TooManyInFlight, TooManyJoiners, TooManyKeys, TooManySessions, WriterFailed}
