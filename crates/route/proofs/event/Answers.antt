-- By the lengths.
use Rattle.std.proofs.Common.{sym, ◌∙◌, arith}
use Rattle.rules.specs.Records.{event_in}
use Rattle.route.specs.Entries.{event_lengths}
use Rattle.route.proofs.Reread.{number_read}
use Rattle.route.proofs.Whole.{no_event, event_facts, an_event}
use Rattle.route.proofs.event.Goals as goal

pub returns-then-not-event_lengths : goal.returns-then-not-event_lengths
unfolding event_lengths
returns-then-not-event_lengths c =
    let a = c.args in
    let wrong = sym c.event_lengths.ensures ∙ c.if-not-event_lengths.true in
    let none = no_event a.t.now a.e.now a.a.now wrong in
    record { number = none.0; lengths = sym wrong; table = none.1.0; answer = none.1.1 }

pub apply-requires-clause-t_bound : goal.apply-requires-clause-t_bound
unfolding event_lengths
apply-requires-clause-t_bound c =
    let a = c.args in
    (event_facts a.t.now a.e.now a.a.now (sym c.event_lengths.ensures ∙ c.if-not-event_lengths.false)).0

pub returns : goal.returns
unfolding event_lengths
returns c =
    let a = c.args in
    let right = sym c.event_lengths.ensures ∙ c.if-not-event_lengths.false in
    let facts = event_facts a.t.now a.e.now a.a.now right in
    let one =
    an_event a.t.now a.e.now a.a.now right (number_read a.t.now (event_in a.e.now 0) a.a.now 0 (omega (arith, facts.2)) c.apply.ensures.answers c.answer_at.ensures c.number.ensures) c.apply.ensures.table c.apply.ensures.answers
    in
    record { number = one.0; lengths = sym right; table = one.1.0; answer = one.1.1 }
