-- The loop has written the first cells.
use Rattle.std.proofs.Common.{◌≡◌}
use Rattle.lines.specs.Extended.{extended}
use Rattle.lines.specs.Figures.{cells_to}
use Rattle.lines.proofs.figures.cells.Given as goal

abbrev pub invariant-loop-loser : goal.invariant-loop-loser
invariant-loop-loser l = l.text ≡ extended l.fn.text (cells_to l.totals l.taker l.loser)
