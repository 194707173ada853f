-- Read, decided, answered, done, written.
use Rattle.std.proofs.Common.{◌*◌, ap}
use Rattle.rules.specs.Records.{answer_size, event_in}
use Rattle.rules.specs.declared.answer.Answer.{Answer}
use Rattle.route.proofs.Applied.{applied_answer, applied_table, applied_octets}
use Rattle.route.proofs.apply.Goals as goal

pub returns-clause-loser : goal.returns-clause-loser
returns-clause-loser c =
    let a = c.args in
    ap (λ (r : Answer). r.call.mark.level) (applied_answer a.t.now (event_in a.es.now a.k) c.read-e.ensures c.outcome_of-outcome.ensures.outcome c.answered-answer.ensures)

pub returns-clause-table : goal.returns-clause-table
returns-clause-table c =
    let a = c.args in
    applied_table a.t.now (event_in a.es.now a.k) c.read-e.ensures c.outcome_of-outcome.ensures.outcome c.effect.ensures

pub returns-clause-answers : goal.returns-clause-answers
returns-clause-answers c =
    let a = c.args in
    applied_octets a.t.now (event_in a.es.now a.k) c.read-e.ensures c.outcome_of-outcome.ensures.outcome c.answered-answer.ensures a.answers.now (answer_size * a.k) c.write.ensures
