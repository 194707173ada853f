-- The list has as many places as events.
use Rattle.std.proofs.Common.{length, arith}
use Rattle.std.proofs.Math.Seq.{length-take-le}
use Rattle.figures.proofs.Refused.{listed}
use Rattle.figures.proofs.lists.Sheet.add.Goals as goal

pub returns : goal.returns
returns c =
    let room = c.list_room-places in
    let each = length-take-le (length c.args.events.now) room.result (omega (arith, room.ensures)) in
    let p = c.requires in
    let all = listed _ _ _ _ c.args.self.now.sized p.event_size_len p.events_len_bound each (omega arith) _ c.list.ensures.number c.list.ensures.table c.list.ensures.totals in
    record { added = all.0; table = all.1.0; totals = all.1.1 }
