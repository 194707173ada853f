-- The loop has counted the words that it passed.
use Rattle.std.proofs.Common.{◌≡◌, ◌*◌}
use Rattle.rules.specs.Search.{count_to}
use Rattle.lamps.specs.Lamps.{lamp_in}
use Rattle.lamps.proofs.number_in.Given as goal

abbrev pub invariant-loop-word : goal.invariant-loop-word
invariant-loop-word l = l.n ≡ count_to (lamp_in l.fn.words) (64 * l.word-index)
