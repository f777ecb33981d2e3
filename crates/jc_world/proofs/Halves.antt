-- What is true of a world, in three parts: what its order and its calls say, what its parts and its store say, and what its joins say.
use Rattle.jc_world.proofs.Common.{◌≡◌, ℕ, true, false, [], IsSomeAnd, slice_get, Some, None, get, list_all, Bytes, entry_at, in_order, State, Part, all_hold, IsWorldShaped, number_up_to, CallsFit, Each, AllDue, IsHeld, AllOwned, AllWaitedFor, AllCalled, KeyAgrees, Sweeps, IsSoundWorld, WorldState, stripe_for, cached_entry, is_foreign}

pub record HasOrder (w : WorldState) : Type 0 where
  pub shape : IsWorldShaped w
  pub order : in_order w.order ≡ true
  pub numbers : list_all (number_up_to w.last) w.order ≡ true
  pub calls : CallsFit w w.calls
  pub owned : (number : ℕ) (s : State) → slice_get w.stripes number ≡ Some s → AllOwned w s.reservations

pub record HasParts (w : WorldState) : Type 0 where
  pub held : (key : Bytes) (part : Part) → get w.parts key ≡ Some part → IsSomeAnd (stripe_for w key) (λ s. IsHeld s key part)
  pub told : all_hold w ≡ true → (key : Bytes) → is_foreign w key ≡ false → KeyAgrees (get w.parts key) (entry_at w.store key) (cached_entry w key)
  pub cold : w.is_fresh ≡ true → (key : Bytes) → cached_entry w key ≡ None
  pub idle : w.is_fresh ≡ true → w.calls ≡ []

pub record HasJoins (w : WorldState) : Type 0 where
  pub joins : AllWaitedFor w w.joins
  pub called : (number : ℕ) (s : State) → slice_get w.stripes number ≡ Some s → AllCalled w number s.joiners

pub sound : (w : WorldState) → HasOrder w → HasParts w → AllDue w.config w.parts → HasJoins w → Each (Sweeps w.config) w.calls → IsSoundWorld w
sound w o p d j s =
    record { shape = o.shape; order = o.order; numbers = o.numbers; calls = o.calls; owned = o.owned; held = p.held; told = p.told; cold = p.cold; idle = p.idle; due = d; joins = j.joins; called = j.called; sweeps = s }

pub order_half : (w : WorldState) → IsSoundWorld w → HasOrder w
order_half w h = record { shape = h.shape; order = h.order; numbers = h.numbers; calls = h.calls; owned = h.owned }

pub joins_half : (w : WorldState) → IsSoundWorld w → HasJoins w
joins_half w h = record { joins = h.joins; called = h.called }
