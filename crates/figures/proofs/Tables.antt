-- A table that the check took is 1 to 256 circuits.
use Prim.Native.Nat.{ℕ}
use mathlib.Core.Path.{◌≡◌}
use mathlib.Core.List.{List}
use lib.ListN.{length}
use Rattle.rules.specs.Numbers.{done}
use Rattle.rules.specs.Records.{check_number}
use Rattle.rules.proofs.Check.{length_facts, check_done}
use Rattle.figures.specs.Output.{Sized}

pub sized : (table : List ℕ) → check_number table ≡ done → Sized (length table)
sized table e = length_facts (length table) (check_done table e).0
