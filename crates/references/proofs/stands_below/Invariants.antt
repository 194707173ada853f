-- The call stands on no circuit that the loop passed.
use Rattle.std.proofs.Common.{◌≡◌, ◌*◌, false}
use Rattle.rules.specs.Records.{circuit_at}
use Rattle.references.specs.Filter.{stands_to}
use Rattle.references.proofs.stands_below.Given as goal

abbrev pub invariant-loop-number : goal.invariant-loop-number
invariant-loop-number l = stands_to (circuit_at l.t) l.r (2 * l.number) ≡ false
