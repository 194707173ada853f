-- The holders, the events, the holders again.
use Rattle.std.proofs.Common.{arith}
use Rattle.rules.specs.Records.{records}
use Rattle.route.specs.Entries.{events_to}
use Rattle.tally.specs.Places as place
use Rattle.tally.proofs.Lists.{none-lists, none-start, none_end}
use Rattle.tally.proofs.Rooms.{place_less}
use Rattle.tally.proofs.Tallied.{list-place, list_gained}
use Rattle.tally.proofs.carry_out.Goals as goal

pub add_list-requires-clause-lists_place : goal.add_list-requires-clause-lists_place
add_list-requires-clause-lists_place c =
    let a = c.args in
    list-place a.t.now a.es.now a.totals.now a.n c.each.ensures.totals 1 place.lists (none-lists records a.t.now (events_to a.es.now a.n)) (place_less place.lists (omega arith) (omega arith) c.requires.has_room_for)

pub add_list-requires-clause-start_place : goal.add_list-requires-clause-start_place
add_list-requires-clause-start_place c =
    let a = c.args in
    let most = c.holders-start.ensures.most in
    list-place a.t.now a.es.now a.totals.now a.n c.each.ensures.totals c.holders-start.result place.start (none-start records a.t.now (events_to a.es.now a.n)) (place_less place.start (omega arith) (omega arith) c.requires.has_room_for)

pub add_list-requires-clause-end_place : goal.add_list-requires-clause-end_place
add_list-requires-clause-end_place c =
    let a = c.args in
    let most = c.holders.ensures.most in
    list-place a.t.now a.es.now a.totals.now a.n c.each.ensures.totals c.holders.result place.end (none_end records a.t.now (events_to a.es.now a.n)) (place_less place.end (omega arith) (omega arith) c.requires.has_room_for)

pub returns-clause-totals : goal.returns-clause-totals
returns-clause-totals c =
    let a = c.args in
    list_gained a.t.now a.es.now a.totals.now a.n c.each.ensures.table c.each.ensures.totals c.holders-start.ensures.count c.holders.ensures.count c.add_list.ensures
