-- The loop has written the rows of the first takers.
use Rattle.std.proofs.Common.{◌≡◌}
use Rattle.lines.specs.Extended.{extended}
use Rattle.lines.proofs.Takers.{rows_to}
use Rattle.lines.proofs.figures.rows.Given as goal

abbrev pub invariant-loop-taker : goal.invariant-loop-taker
invariant-loop-taker l = l.text ≡ extended l.fn.text (rows_to l.totals l.taker)
