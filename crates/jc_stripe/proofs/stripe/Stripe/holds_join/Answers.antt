use Rattle.std.proofs.Common.{◌≡◌, ◌∙◌, sym, ap, ℕ, List, find, option_map, eq-eqb, nat_eq, true, false}
use Rattle.jc_types.specs.declared.caller.Caller.{Caller}
use Rattle.jc_model.specs.Cache.{Bytes}
use Rattle.jc_inflight.specs.declared.joiner.Joiner.{Joiner}
use Rattle.jc_inflight.specs.Joining.{belongs_to}
use Rattle.jc_stripe.specs.State.{State}
use Rattle.jc_stripe.proofs.Testing.{load_then, load_back, no_load}
use Rattle.jc_stripe.proofs.stripe.Stripe.holds_join.Goals as goal

-- what was found at the join's caller and key, in the stripe's own joiners
here : (js ks : List Joiner) (c d : Caller) (k l : Bytes) → js ≡ ks → c ≡ d → k ≡ l → option_map {T = Joiner} {U = ℕ} (λ j. j.load) (find (belongs_to c k) js) ≡ option_map {T = Joiner} {U = ℕ} (λ j. j.load) (find (belongs_to d l) ks)
here js ks c d k l p q r = λ i. option_map {T = Joiner} {U = ℕ} (λ j. j.load) (find (belongs_to (q i) (r i)) (p i))

pub returns-in-Some : goal.returns-in-Some
returns-in-Some c =
    let joiners = c.list.ensures.joiners ∙ ap (λ (s : State). s.joiners) c.self.view_is in
    let found = sym (here _ _ _ _ _ _ joiners c.caller.ensures c.key.ensures) ∙ sym c.load_joined.ensures ∙ c.in-Some.is in (
      λ t. load_then _ c.in-Some.load c.args.join.now.load found (ap (λ n. nat_eq c.in-Some.load n) (sym c.load.ensures) ∙ t),
      λ joined. eq-eqb _ _ (load_back _ c.in-Some.load c.args.join.now.load found joined ∙ sym c.load.ensures),
    )

no_false : false ≡ true → ⊥
no_false t = cc

pub returns-in-None : goal.returns-in-None
returns-in-None c =
    let joiners = c.list.ensures.joiners ∙ ap (λ (s : State). s.joiners) c.self.view_is in
    let found = sym (here _ _ _ _ _ _ joiners c.caller.ensures c.key.ensures) ∙ sym c.load_joined.ensures ∙ c.in-None.is in
    (λ t. absurd (no_false t), λ joined. absurd (no_load _ c.args.join.now.load found joined))
