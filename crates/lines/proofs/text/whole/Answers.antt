-- One part is the whole text.
use Rattle.std.proofs.Common.{rules, arith}
use Rattle.lines.proofs.Extended.{begun}
use Rattle.lines.proofs.text.whole.Goals as goal

pub returns : goal.returns
returns c = let h = begun c.new-text.result c.put.new.self c.args.line.now c.put.ensures c.new-text.ensures.at (omega arith) in search rules
