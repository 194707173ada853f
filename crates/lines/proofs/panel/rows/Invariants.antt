-- The loop has written the rows of the first words.
use Rattle.std.proofs.Common.{◌≡◌}
use Rattle.lines.specs.Extended.{extended}
use Rattle.lines.specs.Panel.{rows_to}
use Rattle.lines.proofs.panel.rows.Given as goal

abbrev pub invariant-loop-word : goal.invariant-loop-word
invariant-loop-word l = l.text ≡ extended l.fn.text (rows_to l.fn.words l.word-index)
