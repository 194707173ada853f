-- What is left of the walk gives what the whole gives. A turn goes on by two octets or more.
use Rattle.std.proofs.Common.{◌≡◌, ℕ, ◌-◌, length}
use Rattle.optional.specs.Search.{had}
use Rattle.optional.proofs.Walk.{Stands}
use Rattle.optional.proofs.search.find.Given as goal

abbrev pub invariant-loop-parameter : goal.invariant-loop-parameter
invariant-loop-parameter l =
    (l.reader.part.now ≡ l.part) × ((m : ℕ) × Stands l.part m l.reader.place (had l.precedence))

abbrev pub decreases-loop-parameter : goal.decreases-loop-parameter
decreases-loop-parameter l = length l.part - l.reader.place
