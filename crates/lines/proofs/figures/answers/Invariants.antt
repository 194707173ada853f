-- The loop has written the lines of the first k numbers.
use Rattle.std.proofs.Common.{◌≡◌}
use Rattle.lines.specs.Extended.{extended}
use Rattle.lines.specs.Figures.{answers_to}
use Rattle.lines.proofs.figures.answers.Given as goal

abbrev pub invariant-loop-k : goal.invariant-loop-k
invariant-loop-k l = l.text ≡ extended l.fn.text (answers_to l.totals l.k)
