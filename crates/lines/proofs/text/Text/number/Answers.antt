-- The fewest digits are the decimal.
use Rattle.std.proofs.Common.{◌∙◌, ap, arith}
use Rattle.lines.specs.Extended.{extended}
use Rattle.lines.proofs.Decimals.{fewest}
use Rattle.lines.proofs.text.Text.number.Goals as goal

pub returns : goal.returns
returns c =
    let d = c.decimal-k in
    c.put.ensures ∙ ap (extended c.args.self.now) (d.ensures.digits ∙ fewest 19 d.result c.args.n (omega arith) d.ensures.len)
