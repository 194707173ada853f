-- An outcome may count on this: the circuit that it acts on is there, and its record has flags of 0 or 1 and zeros where they must be.
use Rattle.std.specs.Prelude.{◌≡◌, ℕ, ◌<◌, true, List, Ok, Err}
use Rattle.rules.specs.Outcome.{Outcome}
use Rattle.rules.specs.declared.outcome.Deed.TheVariants.{Do, Clock}
use Rattle.rules.specs.Records.{flags_at, blank_at, circuits}

abbrev pub Ready : List ℕ → Outcome → Type 0
Ready t (Err r) = Unit {0}
Ready t (Ok (Do a i)) = (i < circuits t) × (flags_at t i ≡ true) × (blank_at t i ≡ true)
Ready t (Ok Clock) = Unit {0}
