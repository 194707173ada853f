-- One line is the whole text.
use Rattle.std.proofs.Common.{length-append, rules, arith}
use Rattle.lines.specs.Text.{letters, decimal}
use Rattle.lines.specs.Event.{short}
use Rattle.lines.proofs.Extended.{begun}
use Rattle.lines.proofs.Lengths.{number-length}
use Rattle.lines.proofs.event.short.Goals as goal

pub returns : goal.returns
returns c =
    let n = number-length c.args.n in
    let whole = begun c.new-text.result c.numbered.new.self (short c.args.n) c.numbered.ensures c.new-text.ensures.at (omega (arith, n, length-append (decimal c.args.n) (letters "\n"))) in
    record { text = search rules; end = omega (arith, n, length-append (decimal c.args.n) (letters "\n")) }
