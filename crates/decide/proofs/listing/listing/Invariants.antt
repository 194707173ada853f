-- The loop has written the lines of the first k answers.
use Rattle.std.proofs.Common.{◌*◌, ◌≤◌}
use Rattle.lines.specs.Text.{Written}
use Rattle.lines.specs.Event.{most_letters}
use Rattle.decide.specs.Listing.{listing_to}
use Rattle.decide.proofs.listing.listing.Given as goal

abbrev pub invariant-loop-k : goal.invariant-loop-k
invariant-loop-k l = record {
  text : Written l.fn.text 0 (listing_to l.before l.answers l.k) l.text l.at;
  within : l.at ≤ most_letters * l.k;
}
