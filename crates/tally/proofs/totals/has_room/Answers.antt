-- Where there are few enough lists, every total tells.
use Rattle.tally.proofs.Rooms.{by_each}
use Rattle.tally.proofs.totals.has_room.Goals as goal

pub returns-then-totals-lt-MOST_LISTS : goal.returns-then-totals-lt-MOST_LISTS
returns-then-totals-lt-MOST_LISTS c =
    by_each c.args.totals.now c.none_full.result c.told-totals c.if-totals-lt-MOST_LISTS.true c.none_full.ensures
