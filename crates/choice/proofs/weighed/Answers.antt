-- By level, by worth, then by domain.
use Rattle.std.proofs.Common.{arith, sym, ap, ◌∙◌, ltb}
use Rattle.rules.specs.declared.level.Level.{Level}
use Rattle.table.specs.Record.{circuit_in}
use Rattle.choice.proofs.Ranked.{worth-read, takeable-read, taken, not_taken, not_lower, not_worth}
use Rattle.choice.proofs.weighed.Goals as goal

pub returns-then-not-higher : goal.returns-then-not-higher
returns-then-not-higher c =
    let a = c.args in
    not_lower a.by (circuit_in a.circuit) a.top
    (ap (λ (l : Level). ltb a.by.level.0 l.0) (sym c.level-level.ensures) ∙ sym c.higher.ensures ∙ c.if-not-higher.true)

pub returns-then-worth-top : goal.returns-then-worth-top
returns-then-worth-top c =
    let a = c.args in
    let x = circuit_in a.circuit in
    let e = worth-read x c.level-level.ensures c.present.ensures c.worth-worth.ensures in
    not_worth a.by x a.top (omega arith)

pub returns-then-takeable : goal.returns-then-takeable
returns-then-takeable c =
    let a = c.args in
    let x = circuit_in a.circuit in
    taken a.by x a.top (worth-read x c.level-level.ensures c.present.ensures c.worth-worth.ensures)
    c.if-worth-top.false (sym (takeable-read a.by x c.standing.ensures c.takeable.ensures) ∙ c.if-takeable.true)

pub returns-else-takeable : goal.returns-else-takeable
returns-else-takeable c =
    let a = c.args in
    let x = circuit_in a.circuit in
    not_taken a.by x a.top (sym (takeable-read a.by x c.standing.ensures c.takeable.ensures) ∙ c.if-takeable.false)
