-- Each turn comes nearer to the last number.
use Rattle.std.proofs.Common.{◌-◌}
use Rattle.decide.specs.Listing.{last_number}
use Rattle.decide.proofs.lists.Given as goal

abbrev pub decreases-loop-before : goal.decreases-loop-before
decreases-loop-before l = last_number - l.before
