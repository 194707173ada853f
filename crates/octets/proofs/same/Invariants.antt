-- The octets that the loop passed are alike.
use Rattle.std.proofs.Common.{◌*◌}
use Rattle.octets.proofs.Parts.{Alike}
use Rattle.octets.proofs.same.Given as goal

abbrev pub invariant-loop-k : goal.invariant-loop-k
invariant-loop-k g l = Alike l.a l.b (4 * l.k)
