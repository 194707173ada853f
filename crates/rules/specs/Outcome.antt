-- An outcome is what is decided of an event: what is done, or why the event is refused.
use Rattle.std.specs.Prelude.{ℕ, Result, Ok}
use Rattle.rules.specs.declared.outcome.Act.{Act}
use Rattle.rules.specs.declared.outcome.Deed.{Deed}
use Rattle.rules.specs.declared.outcome.Deed.TheVariants.{Do}
use Rattle.rules.specs.declared.outcome.Refusal.{Refusal}

abbrev pub Outcome : Type 0
Outcome = Result Deed Refusal

abbrev pub does : Act → ℕ → Outcome  -- act a is done on circuit i
does a i = Ok (Do a i)
