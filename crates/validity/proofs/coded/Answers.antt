-- The record of the first fault is one of the table's, so its code has room.
use Rattle.std.proofs.Common.{ℕ, ◌+◌, ◌*◌, sym, ap, ◌∙◌, arith}
use Rattle.rules.specs.Records.{records}
use Rattle.rules.proofs.FirstFault.{fault-there}
use Rattle.rules.proofs.Numbers.{reason-within}
use Rattle.validity.specs.Code.{code_of}
use Rattle.validity.proofs.coded.Goals as goal

pub overflow_mul-result : goal.overflow_mul-result
unfolding records
overflow_mul-result c =
    let flaw = c.in-Err.fault in
    let there = fault-there records c.args.t.now flaw.reason flaw.at (sym c.first_fault.ensures ∙ c.in-Err.is) in
    record { fits = omega arith }

pub overflow_add-result : goal.overflow_add-result
unfolding records
overflow_add-result c =
    let flaw = c.in-Err.fault in
    let there = fault-there records c.args.t.now flaw.reason flaw.at (sym c.first_fault.ensures ∙ c.in-Err.is) in
    let digit = c.digit.ensures in
    let within = reason-within flaw.reason in
    record { fits = omega arith }

pub returns-in-Ok : goal.returns-in-Ok
unfolding code_of
returns-in-Ok c = ap code_of (sym c.in-Ok.is ∙ c.first_fault.ensures)

pub returns-in-Err : goal.returns-in-Err
unfolding code_of
returns-in-Err c = ap (λ (d : ℕ). 8 * c.in-Err.fault.at + d) c.digit.ensures ∙ ap code_of (sym c.in-Err.is ∙ c.first_fault.ensures)
