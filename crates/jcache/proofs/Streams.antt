-- What a failed read says of standard output.
use Rattle.std.proofs.Common.{◌≡◌, ◌⊎◌, ℕ, List, Bool, Option, codes, inl, inr, subst}
use Rattle.clap.specs.Walk.{Row, Text}
use Rattle.jc_commands.specs.CommandLine.{IsAsked, Names}
use Rattle.jc_commands.specs.declared.commands.Task.{Task}
use Rattle.jc_commands.specs.declared.commands.Task.TheVariants as task
use Rattle.jcache.specs.Exit.{FailsByStreams}

three_as : {P Q A B : Type 0} → (A → B) → P ⊎ (Q ⊎ A) → P ⊎ (Q ⊎ B)
three_as long (inl read) = inl read
three_as long (inr (inl wrote)) = inr (inl wrote)
three_as long (inr (inr is)) = inr (inr (long is))

pub fails_as : {A B C D : Type 0} (status : ℕ) (read write : Bool) → (A → B) → (C → D)
    → FailsByStreams status read write A C → FailsByStreams status read write B D
fails_as status read write long gives (read_failed, write_failed, three) =
    ((λ failed. let r = read_failed failed in (r.0, gives r.1)), write_failed, λ is. three_as long (three is))

-- the words of a task that is a shell name one
pub by_words : {Same : Type 0} (found : Option (Text × List Row)) (t : Task) → IsAsked found t
    → (t ≡ task.Shell) ⊎ Same → Names found (codes "shell") ⊎ Same
by_words found t asked (inl is) = inl (subst (IsAsked found) is asked)
by_words found t asked (inr same) = inr same
