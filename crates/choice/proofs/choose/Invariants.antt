-- The circuits that were passed are not free, and the best of them is carried.
use Rattle.rules.specs.Records.{circuit_at}
use Rattle.choice.proofs.Carried.{Passing}
use Rattle.choice.proofs.choose.Given as goal

abbrev pub invariant-loop-number : goal.invariant-loop-number
invariant-loop-number l = Passing (circuit_at l.t) l.by l.best l.greatest l.number
