-- Three places, one after the other.
use Rattle.tally.specs.Places as place
use Rattle.tally.proofs.Counted.{added_if, place_if, released-place, lost-place, low_added}
use Rattle.tally.proofs.totals.count_as.Goals as goal

pub add-requires-2 : goal.add-requires-2
add-requires-2 c =
    let a = c.args in
    let seized = added_if a.seizure c.from.ensures place.seized a.totals.now c.add.ensures in
    place_if a.release c.from-2.ensures place.released c.add.new.totals (released-place a.totals.now c.requires a.seizure a.release a.lost seized)

pub add-requires-3 : goal.add-requires-3
add-requires-3 c =
    let a = c.args in
    let seized = added_if a.seizure c.from.ensures place.seized a.totals.now c.add.ensures in
    let released = added_if a.release c.from-2.ensures place.released c.add.new.totals c.add-2.ensures in
    place_if a.lost c.from-3.ensures place.lost c.add-2.new.totals (lost-place a.totals.now c.requires a.seizure a.release a.lost seized released)

pub returns : goal.returns
returns c =
    let a = c.args in
    let seized = added_if a.seizure c.from.ensures place.seized a.totals.now c.add.ensures in
    let released = added_if a.release c.from-2.ensures place.released c.add.new.totals c.add-2.ensures in
    low_added a.totals.now c.requires a.seizure a.release a.lost seized released (added_if a.lost c.from-3.ensures place.lost c.add-2.new.totals c.add-3.ensures)
