-- The total is written with n more.
use Rattle.tally.proofs.Added.{set-added}
use Rattle.tally.proofs.totals.add.Goals as goal

pub returns : goal.returns
returns c = let a = c.args in set-added a.totals.now a.place a.n
