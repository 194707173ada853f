-- The rows, and the line under them.
use Rattle.std.proofs.Common.{◌≡◌, rules, arith}
use Rattle.lines.specs.Extended.{extended}
use Rattle.lines.specs.Panel.{drawing}
use Rattle.lines.proofs.Extended.{parts, begun}
use Rattle.lines.proofs.Lengths.{drawing-length}
use Rattle.lines.proofs.panel.draw.Goals as goal

pub returns : goal.returns
unfolding drawing
returns c =
    let a = c.args in
    let text = drawing a.words a.lit a.first in
    let short = drawing-length a.words a.lit a.first in
    let all : c.last_line.new.text ≡ extended c.new-text.result text = grind (arith, parts) in
    let whole = begun c.new-text.result c.last_line.new.text text all c.new-text.ensures.at (omega (arith, short)) in
    record { text = search rules; within = omega (arith, short) }
