-- The loop has written the first i lamps.
use Rattle.std.proofs.Common.{◌≡◌}
use Rattle.lines.specs.Extended.{extended}
use Rattle.lines.specs.Panel.{lamps_to}
use Rattle.lines.proofs.panel.row.Given as goal

abbrev pub invariant-loop-i : goal.invariant-loop-i
invariant-loop-i l = l.text ≡ extended l.fn.text (lamps_to l.w l.i)
