-- What the event is, then its levels, then its number.
use Rattle.std.proofs.Common.{Bool, ◌+◌, ap, ◌∙◌, arith}
use Rattle.std.specs.Prelude.{is_some}
use Rattle.tally.specs.Places as place
use Rattle.tally.specs.Shares.{at, one, is_release, adds, level_lost}
use Rattle.tally.specs.Entry.{added}
use Rattle.tally.proofs.Counted.{levels-place, number-place, all_added}
use Rattle.tally.proofs.Losses.{lost-below, lost-room}
use Rattle.tally.proofs.totals.count.Goals as goal

pub count_lost-requires : goal.count_lost-requires
count_lost-requires c =
    let a = c.args in
    let f = a.totals.now in
    let s = c.is_seizure.result in
    let r = is_release a.number in
    let low = c.count_as.ensures ∙ ap (λ (b : Bool). added (λ j. at 2 (one s) j + at 3 (one r) j + at 4 (one b) j) f) c.is_some.ensures in
    let levels = place.lost_by_level a.taker.0 (level_lost a.lost) in
    lost-room a.taker.0 a.lost c.count_as.new.totals (levels-place f c.requires.has_room_for s r (is_some a.lost) low levels a.number (omega arith) (lost-below a.taker.0 a.lost c.requires.loser_bound))

pub add-requires : goal.add-requires
add-requires c =
    let a = c.args in
    let f = a.totals.now in
    let s = c.is_seizure.result in
    let r = is_release a.number in
    let low = c.count_as.ensures ∙ ap (λ (b : Bool). added (λ j. at 2 (one s) j + at 3 (one r) j + at 4 (one b) j) f) c.is_some.ensures in
    let levels = place.lost_by_level a.taker.0 (level_lost a.lost) in
    number-place f c.requires.has_room_for s r (is_some a.lost) low levels c.from.result (omega arith) (lost-below a.taker.0 a.lost c.requires.loser_bound) (omega arith) c.count_lost.ensures

pub returns : goal.returns
unfolding adds
returns c =
    let a = c.args in
    let f = a.totals.now in
    let s = c.is_seizure.result in
    let r = is_release a.number in
    let low = c.count_as.ensures ∙ ap (λ (b : Bool). added (λ j. at 2 (one s) j + at 3 (one r) j + at 4 (one b) j) f) c.is_some.ensures in
    let lost = is_some a.lost in
    let levels = place.lost_by_level a.taker.0 (level_lost a.lost) in
    all_added f c.requires.has_room_for s r lost low levels c.from.result (omega arith) (lost-below a.taker.0 a.lost c.requires.loser_bound) c.count_lost.ensures c.add.ensures
    ∙ (λ i. added (λ j. at 2 (one (c.is_seizure.ensures i)) j + at 3 (one r) j + at 4 (one lost) j + at levels (one lost) j + at (31 + c.from.ensures i) 1 j) f)
