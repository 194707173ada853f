-- The event is applied, and counted by the loser's level and by its answer.
use Rattle.rules.specs.Records.{event_in}
use Rattle.route.proofs.Reread.{reread, number_read}
use Rattle.tally.proofs.Told.{told-lost, counted-number, counted-place, counted}
use Rattle.tally.proofs.step.Goals as goal

pub count-requires : goal.count-requires
count-requires c =
    let a = c.args in
    let t = a.t.now in
    let o = event_in a.es.now a.k in
    let read = reread t o a.places.now a.k c.requires.answer_size_in_bounds c.apply-loser.ensures.answers c.answer_at-answer.ensures in
    let number = number_read t o a.places.now a.k c.requires.answer_size_in_bounds c.apply-loser.ensures.answers c.answer_at-answer.ensures c.number.ensures in
    let loses = told-lost t o read c.lost_call.ensures c.is_lost.ensures c.apply-loser.ensures.loser c.then_some-lost.ensures in
    record {
      has_room_for = c.requires.has_room_for;
      number_bound = counted-number t o c.read-e.ensures number loses;
      loser_bound = counted-place t o c.read-e.ensures number loses;
    }

pub returns-clause-totals : goal.returns-clause-totals
returns-clause-totals c =
    let a = c.args in
    let t = a.t.now in
    let o = event_in a.es.now a.k in
    let read = reread t o a.places.now a.k c.requires.answer_size_in_bounds c.apply-loser.ensures.answers c.answer_at-answer.ensures in
    let number = number_read t o a.places.now a.k c.requires.answer_size_in_bounds c.apply-loser.ensures.answers c.answer_at-answer.ensures c.number.ensures in
    let loses = told-lost t o read c.lost_call.ensures c.is_lost.ensures c.apply-loser.ensures.loser c.then_some-lost.ensures in
    counted t o c.read-e.ensures number loses a.totals.now c.count.ensures
