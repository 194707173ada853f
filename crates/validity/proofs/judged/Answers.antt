-- In order, so with no fault.
use Rattle.std.proofs.Common.{sym, ◌∙◌}
use Rattle.validity.proofs.Orders.{in_order_lem}
use Rattle.validity.proofs.judged.Goals as goal

pub returns-then-in_order : goal.returns-then-in_order
returns-then-in_order c = sym (in_order_lem c.args.r.table.now c.args.r.number (sym c.in_order.ensures ∙ c.if-in_order.true))
