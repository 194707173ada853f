-- The line ends after the last lamp.
use Rattle.std.proofs.Common.{◌≡◌, ℕ, ap, arith}
use Rattle.lines.specs.Text.{letters}
use Rattle.lines.specs.Extended.{extended}
use Rattle.lines.specs.Panel.{row, lamps_to}
use Rattle.lines.proofs.Extended.{twice}
use Rattle.lines.proofs.panel.row.Goals as goal

pub returns : goal.returns
unfolding row
returns c =
    let text = c.args.text.now in
    let lamps = lamps_to c.args.w in
    let done : c.loop-i.i ≡ 64 = omega arith in
    cc (twice text (lamps 64) (letters "\n"), ap (λ (n : ℕ). extended text (lamps n)) done)
