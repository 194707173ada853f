-- The table is swept as far as the loop has come.
use Rattle.std.proofs.Common.{◌≡◌}
use Rattle.rules.specs.Run.{sweep_to}
use Rattle.rules.specs.Records.{records}
use Rattle.effect.proofs.sweep.Given as goal

abbrev pub invariant-loop-i : goal.invariant-loop-i
invariant-loop-i l = l.t ≡ sweep_to records l.fn.t l.e l.i
