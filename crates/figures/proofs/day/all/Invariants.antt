-- A turn takes a pair.
use Rattle.std.proofs.Common.{◌≡◌}
use Rattle.figures.proofs.day.all.Given as goal

abbrev pub invariant-loop : goal.invariant-loop
invariant-loop l = l.day.pairs ≡ l.counter
