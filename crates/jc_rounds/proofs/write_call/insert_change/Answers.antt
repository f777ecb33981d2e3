use Rattle.jc_rounds.proofs.Common.{map, sym, ap, ◌∙◌, is_among, changes_of}
use Rattle.jc_rounds.proofs.OutsideCalls.{write_keys, delete_keys}
use Rattle.jc_rounds.proofs.write_call.insert_change.Goals as goal

pub insert-requires-clause-new : goal.insert-requires-clause-new
insert-requires-clause-new c =
    ap (λ ks. is_among ks c.args.key) (sym (ap (λ b. map (λ x. x.0) (changes_of b)) c.in-Writes.is ∙ write_keys c.in-Writes.batch.items)) ∙ c.requires.new

pub insert-requires-in-Delete-change-clause-new : goal.insert-requires-in-Delete-change-clause-new
insert-requires-in-Delete-change-clause-new c =
    ap (λ ks. is_among ks c.args.key) (sym (ap (λ b. map (λ x. x.0) (changes_of b)) c.in-Deletes.is ∙ delete_keys c.in-Deletes.batch.items)) ∙ c.requires.new
