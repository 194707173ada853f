-- The first record that has a fault.
use Rattle.std.proofs.Common.{◌≡◌, rules, sym, ◌∙◌}
use Rattle.std.specs.Prelude.{Err}
use Rattle.validity.proofs.Firsts.{first-fault}
use Rattle.validity.proofs.each_record.Goals as goal

pub returns-in_err-judged : goal.returns-in_err-judged
returns-in_err-judged c =
    let flaw = c.in_err-judged.field-0.0 in
    let given : c.from_residual.result ≡ Err flaw = search rules in
    given
    ∙ first-fault c.args.t.now c.loop-number.number c.loop-number.invariant flaw (sym c.in_err-judged.was ∙ c.judged.ensures) c.loop-number-test.true
    c.count-number-end.ensures
