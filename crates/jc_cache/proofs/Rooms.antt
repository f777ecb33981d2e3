-- What a get returns by value, of what was written to a room.
--     got_value      a value was written there
--     got_nothing    there is none
--     got_error      the call has failed
use Rattle.jc_cache.proofs.Common.{◌≡◌, true, false, None, Some, Result, Ok, Err, ap, refl, Refusal, Bytes, Reply}
use Rattle.jc_model.specs.declared.event.Reply.TheVariants as reply
use Rattle.jc_engine.specs.Values.{value_in, value_into}

pub got_value : (room value : Bytes) (ended : Result Reply Refusal) → (Ok true, value) ≡ value_into room ended → Ok (Some value) ≡ value_in ended
got_value room value (Err refusal) e = let first = ap (λ p. p.0) e in cc
got_value room value (Ok (reply.Fault fault)) e = let first = ap (λ p. p.0) e in cc
got_value room value (Ok (reply.Value (Some v))) e = ap (λ p. Ok (Some p.1)) e
got_value room value (Ok (reply.Value None)) e = let first = ap (λ p. p.0) e in cc
got_value room value (Ok (reply.Flag flag)) e = let first = ap (λ p. p.0) e in cc
got_value room value (Ok reply.Unit) e = let first = ap (λ p. p.0) e in cc

pub got_nothing : (room value : Bytes) (ended : Result Reply Refusal) → (Ok false, value) ≡ value_into room ended → Ok None ≡ value_in ended
got_nothing room value (Err refusal) e = let first = ap (λ p. p.0) e in cc
got_nothing room value (Ok (reply.Fault fault)) e = let first = ap (λ p. p.0) e in cc
got_nothing room value (Ok (reply.Value (Some v))) e = let first = ap (λ p. p.0) e in cc
got_nothing room value (Ok (reply.Value None)) e = refl
got_nothing room value (Ok (reply.Flag flag)) e = refl
got_nothing room value (Ok reply.Unit) e = refl

pub got_error : (room value : Bytes) (fault : Refusal) (ended : Result Reply Refusal) → (Err fault, value) ≡ value_into room ended → Err fault ≡ value_in ended
got_error room value fault (Err refusal) e = let first = ap (λ p. p.0) e in cc
got_error room value fault (Ok (reply.Fault other)) e = let first = ap (λ p. p.0) e in cc
got_error room value fault (Ok (reply.Value (Some v))) e = let first = ap (λ p. p.0) e in cc
got_error room value fault (Ok (reply.Value None)) e = let first = ap (λ p. p.0) e in cc
got_error room value fault (Ok (reply.Flag flag)) e = let first = ap (λ p. p.0) e in cc
got_error room value fault (Ok reply.Unit) e = let first = ap (λ p. p.0) e in cc
