-- Openings: worlds in which nothing has happened yet.
--     no_part, no_join     nothing is reserved or joined in an opening
--     sound_opening        an opening is sound
--     sound_start          and so is a world at its start
--     starts_open          a world at its start is an opening, with any values in its store
use Rattle.jc_world.proofs.Common.{◌≡◌, ℕ, zero, suc, ◌+◌, true, ◌&&◌, List, [], ◌∷◌, slice_get, Some, None, Ok, Option, IfSome, sym, refl, ap, ◌∙◌, subst, list_all, get, get-empty, check, Config, Bytes, key_cmp, in_order, of_stripe, IsOpeningStripe, IsOpeningWorld, start_with, Each, number_up_to, CallsFit, AllDue, AllOwned, AllCalled, Sweeps, IsSoundWorld, JoinKey, join_cmp, WorldState, home, entry_in, cached_entry, fresh_stripes, start, has_progress, has_changed, with_stored, has_any}
use Rattle.jc_world.proofs.Halves.{HasOrder, HasParts, HasJoins, sound}
use Rattle.jc_world.proofs.Lemmas.{empty_count, opened_empty, start_is}
use Rattle.jc_stripe.proofs.CallerLemmas.{reached_start}

-- 1. An opening is sound.

pub no_part : (w : WorldState) → IsOpeningWorld w → (key : Bytes) → get w.parts key ≡ None
no_part w h key = ap (λ parts. get parts key) h.parts ∙ get-empty key_cmp key

pub no_join : (w : WorldState) → IsOpeningWorld w → (at : JoinKey) → get w.joins at ≡ None
no_join w h at = ap (λ joins. get joins at) h.joins ∙ get-empty join_cmp at

opening_order : (w : WorldState) → IsOpeningWorld w → HasOrder w
opening_order w h = record {
  shape = record {
    config_fits = h.config_fits;
    count = h.count;
    each = λ n s here.
        let o = h.each n s here in record {
          config_is = o.config_is;
          number_is = o.number_is;
          origin_is = o.origin_is;
          ended_is = o.opened.ended;
          reached = reached_start s o.opened;
          share = ap (of_stripe w.config.stripes n) h.order ∙ sym o.opened.history;
        };
  };
  order = ap in_order h.order;
  numbers = ap (list_all (number_up_to w.last)) h.order;
  calls = subst (CallsFit w) (sym h.calls) tt;
  owned = λ n s here. subst (AllOwned w) (sym (h.each n s here).opened.reservations) tt;
}

opening_parts : (w : WorldState) → IsOpeningWorld w → HasParts w
opening_parts w h = record {
  held = λ key part there. absurd (let e : Some part ≡ None = sym there ∙ no_part w h key in cc);
  told = λ hold key f. rw (no_part w h key) (h.coherent hold key (ap (λ b. b && has_any w key) f) (ap (has_progress has_changed) (no_part w h key)));
  cold = h.cold;
  idle = λ fresh. h.calls;
}

opening_dues : (w : WorldState) → IsOpeningWorld w → AllDue w.config w.parts
opening_dues w h = λ key part there. absurd (let e : Some part ≡ None = sym there ∙ no_part w h key in cc)

opening_joins : (w : WorldState) → IsOpeningWorld w → HasJoins w
opening_joins w h = record {
  joins = λ at j there. absurd (let e : Some j ≡ None = sym there ∙ no_join w h at in cc);
  called = λ n s here. subst (AllCalled w n) (sym (h.each n s here).opened.joiners) tt;
}

pub sound_opening : (w : WorldState) → IsOpeningWorld w → IsSoundWorld w
sound_opening w h =
    sound w (opening_order w h) (opening_parts w h) (opening_dues w h) (opening_joins w h) (subst (Each (Sweeps w.config)) (sym h.calls) tt)

-- 2. The start is an opening.

-- nothing is cached by empty stripes
cached_none : (config : Config) (first count number : ℕ) (key : Bytes) → entry_in (slice_get (fresh_stripes config first count) number) key ≡ None
cached_none config first zero number key = refl
cached_none config first (suc count) zero key = get-empty key_cmp key
cached_none config first (suc count) (suc number) key = cached_none config (first + 1) count number key

-- what isn't there is as it may be
if_none : (o : Option Bytes) (P : Bytes → Type 0) → o ≡ None → IfSome o P
if_none None P h = tt
if_none (Some x) P h = cc

opens_start : (config : Config) → check config ≡ Ok tt → IsOpeningWorld (start config)
opens_start config fits =
    let w = start config in
    let none : (key : Bytes) → cached_entry w key ≡ None = λ key. cached_none config 0 config.stripes (home w key) key in
    record {
      config_fits = fits;
      count = empty_count config 0 config.stripes;
      each = λ n s here.
          subst (IsOpeningStripe config n) (sym (start_is config n s here))
          (record { config_is = refl; number_is = refl; origin_is = refl; opened = opened_empty config n fits });
      order = refl;
      calls = refl;
      parts = refl;
      joins = refl;
      cold = λ fresh. none;
      coherent = λ hold key told unchanged. if_none (cached_entry w key) _ (none key);
    }

pub sound_start : (config : Config) → check config ≡ Ok tt → IsSoundWorld (start config)
sound_start config fits = sound_opening (start config) (opens_start config fits)

-- a fresh one stays so with a value more in its store
opens_stored : (w : WorldState) (key value : Bytes) → w.is_fresh ≡ true → IsOpeningWorld w → IsOpeningWorld (with_stored w key value)
opens_stored w key value fresh h =
    record { config_fits = h.config_fits; count = h.count; each = h.each; order = h.order; calls = h.calls; parts = h.parts; joins = h.joins; cold = h.cold; coherent = λ hold q told unchanged. if_none (cached_entry w q) _ (h.cold fresh q) }

stays_fresh : (config : Config) (stored : List (Bytes × Bytes)) → (start_with config stored).is_fresh ≡ true
stays_fresh config [] = refl
stays_fresh config (e ∷ es) = stays_fresh config es

pub starts_open : (config : Config) (stored : List (Bytes × Bytes)) → check config ≡ Ok tt → IsOpeningWorld (start_with config stored)
starts_open config [] fits = opens_start config fits
starts_open config (e ∷ es) fits = opens_stored (start_with config es) e.0 e.1 (stays_fresh config es) (starts_open config es fits)
