-- The length, then the verdict.
use Rattle.std.proofs.Common.{◌≤◌, sym, ap, subst, ◌∙◌, arith}
use Rattle.octets.proofs.Tests.{ways, if_true}
use Rattle.rules.specs.Verdict.{Verdict}
use Rattle.rules.specs.Answer.{no_detail}
use Rattle.rules.specs.Valid.{check_of}
use Rattle.rules.specs.Records.{checked}
use Rattle.rules.proofs.Check.{length_facts, detail-fits}
use Rattle.validity.proofs.Codes.{decoded-back}
use Rattle.validity.proofs.check.Goals as goal

pub returns-then-not-right_length : goal.returns-then-not-right_length
unfolding checked
returns-then-not-right_length c = record { reading = search ways }

-- the first fault names a record of the table
pub overflow_cast-result : goal.overflow_cast-result
overflow_cast-result c =
    let right = sym c.right_length.ensures ∙ c.if-not-right_length.false in
    let room =
    subst (λ (v : Verdict). (check_of v).detail ≤ no_detail) (sym (decoded-back c.coded.ensures c.decoded.ensures) ∙ c.in-Err.is)
    (detail-fits c.args.t.now (length_facts _ right).2)
    in
    record { fits = omega arith }

pub returns-in-Ok : goal.returns-in-Ok
unfolding checked
returns-in-Ok c =
    record { reading = if_true _ _ _ c.right_length.ensures c.if-not-right_length.false (ap check_of (sym c.in-Ok.is ∙ decoded-back c.coded.ensures c.decoded.ensures)) }

pub returns-in-Err : goal.returns-in-Err
unfolding checked
returns-in-Err c =
    record {
      reading =
          if_true _ _ _ c.right_length.ensures c.if-not-right_length.false
          ((λ i. record { number = c.from.ensures i; detail = c.in-Err.fault.at }) ∙ ap check_of (sym c.in-Err.is ∙ decoded-back c.coded.ensures c.decoded.ensures));
    }
