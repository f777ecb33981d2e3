-- The names that most pages of this crate cite, passed on from one place. Declares nothing.
pub use Rattle.std.proofs.Common.{Bool, Bor, Err, IfOk, IfSome, List, None, Ok, Option, Result, Some, [], ap, append-nil, append_assoc, arith, cond, drop, false, get_or, inl, inr, length, ltb, map, not, refl, rules, subst, suc, sym, take, true, vec_len, zero, ℕ, ◌%◌, ◌*◌, ◌++◌, ◌+◌, ◌-◌, ◌/◌, ◌<◌, ◌==◌, ◌^◌, ◌||◌, ◌∙◌, ◌∷◌, ◌≡◌, ◌≤◌}
pub use Rattle.std.proofs.Math.Seq.{drop-append-add, drop-cons, take-add}
pub use Rattle.std.proofs.lemmas.Bool.{and_from, and_left, and_parts, cases_lt, cond-false, cond-true, eqb-true, le-leb, le-ltb, leb-true, lt-ltb, ltb-false, ltb-true, not_from_false, not_from_true, or_parts}
pub use Rattle.std.proofs.lemmas.Cmp.{nat_list_eq_equiv}
pub use Rattle.std.proofs.lemmas.Fmt.{decimal-digits_value, decimal_by_steps, decimal_digit, decimal_nonempty, first_decimal}
pub use Rattle.std.proofs.lemmas.Grind.{common_steps}
pub use Rattle.std.proofs.lemmas.List.{drop-map, drop_all, length-drop, length-map, map-append, take_at, take_rest}
pub use Rattle.std.proofs.lemmas.List.Elements.{All-cons, All-head, All-nil, All-same, All-tail}
pub use Rattle.std.proofs.lemmas.List.Folds.{list_all-append}
pub use Rattle.std.proofs.lemmas.List.Splits.{join_with_byte-slice_split, slice_split_at, slice_split_first, slice_split_none}
pub use Rattle.std.proofs.lemmas.List.Sums.{AllPass-from_list_all, position_or_len_is}
pub use Rattle.std.proofs.lemmas.Map.Made.{is_some-lookup}
pub use Rattle.std.proofs.lemmas.Slice.Eq.{bytes_eq-Decides}
pub use Rattle.std.specs.Cmp.Lexicographic.{pointwise}
pub use Rattle.std.specs.Io.KnownBytes.{Appends, Consumes}
pub use Rattle.std.specs.List.{All, flat_map, join_with_byte, list_all, onto_first, position, position_or_len}
pub use Rattle.std.specs.Prelude.{codes, decimal, min, nat_le, nat_lt, ◌&&◌, ◌⊎◌}
pub use Rattle.std.specs.Str.{bytes_eq}
pub use Rattle.jc_model.specs.Batches.{is_among}
pub use Rattle.jc_model.specs.Cache.{Bytes}
pub use Rattle.jc_model.specs.declared.event.Op.{Op}
pub use Rattle.jc_model.specs.declared.processor.EntryCall.{EntryCall}
pub use Rattle.jc_text.specs.Lines.{are_words, is_plain}
pub use Rattle.jc_text.specs.Pieces.{pieces_of}
pub use Rattle.jc_text.specs.Places.{bad_from, repeat_from, start_from}
pub use Rattle.jc_text.specs.Printing.{answer_text, answers_text, entry_text, key_text, piece_text, reported_line, texts, value_or_none_text, value_text}
pub use Rattle.jc_text.specs.ProcessWords.{Calls, are_calls, are_calls_from, begins_with, call_of, call_text, calls_from, calls_of, fail_words, has_process_shape, is_call_word, is_fail, source_of, source_words, without_load}
pub use Rattle.jc_text.specs.Spelled.{AreDistinctPairs, AreKeyWords, AreLeftKeys, HasKeys, IsAct, IsEntryCall, IsKey, IsNumber, IsOperation, IsOptionalCode, IsPair, IsSession, IsShape, IsSource, IsSpellable, IsValue, IsValueOrNone, LinesAreSpelled, LinesReadBack, SaysWords, act_words, bulk_words, flag_words, left_words, line_words, load_word, operation_words, pair_text, session_text, shape_words, spelling}
pub use Rattle.jc_text.specs.Words.{Pairs, caller_of, digits_from, distinct_keys_of, distinct_pairs_from, distinct_pairs_of, is_digit, is_letter, is_text, key_of, keys_from, names_key, number_of, pairs_from, pairs_of, said, said_after, some_value, value_of, value_or_none_of, words_of, ◌>>=◌}
pub use Rattle.jc_text.specs.declared.read.commands.Form.{Form}
pub use Rattle.jc_text.specs.declared.fault.Fault.{Fault}
pub use Rattle.jc_text.specs.declared.fault.Fault.TheVariants.{BadByte, BadCaller, BadKey, BadLine, BadNumber, BadValue, LineTooLong, RepeatedKey}
pub use Rattle.jc_text.specs.declared.read.line.ScriptAct.{ScriptAct}
pub use Rattle.jc_text.specs.declared.read.line.ScriptAct.TheVariants.{Apply, ApplyFail, ApplyLie, Drop, End, More, Process, Read, ReadFail, Say, Take}
pub use Rattle.jc_text.specs.declared.read.line.BulkLine.{BulkLine}
pub use Rattle.jc_text.specs.declared.read.line.Line.{Line}
pub use Rattle.jc_text.specs.declared.read.line.Line.TheVariants.{Audit, Begin, BeginBulk, Foreign, Invalidate, OfCall, Open, Reopen, Set, Untold}
pub use Rattle.jc_types.specs.Limits.{is_session}
pub use Rattle.jc_types.specs.declared.config.Config.{Config}
pub use Rattle.jc_types.specs.declared.limits.TheConstants.{KEY_MAX, SESSIONS_MAX, VALUE_MAX}
pub use Rattle.jc_world.specs.declared.event.Shown.{Shown}
pub use Rattle.jc_world.specs.declared.event.WorldEvent.{WorldEvent}
pub use Rattle.jc_world.specs.declared.process.LoadSource.{LoadSource}
pub use Rattle.jc_world.specs.declared.process.LoadSource.TheVariants.{Failing, Stated, Store}
