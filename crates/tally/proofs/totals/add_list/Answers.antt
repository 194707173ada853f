-- Three places, one after the other.
use Rattle.std.proofs.Common.{◌+◌}
use Rattle.tally.specs.Shares.{at}
use Rattle.tally.proofs.Counted.{and_then}
use Rattle.tally.proofs.totals.add_list.Goals as goal

pub returns : goal.returns
returns c =
    let a = c.args in
    let f = a.totals.now in
    and_then f (λ j. at 0 1 j + at 1 a.start j) (and_then f (at 0 1) c.add.ensures (at 1 a.start) c.add-2.ensures) (at 5 a.end) c.add-3.ensures
