-- The loop has built the lamps from i on.
use Rattle.std.proofs.Common.{◌≡◌, ◌+◌, ◌-◌}
use Rattle.lamps.specs.Lamps.{lit_at, word_from}
use Rattle.lamps.proofs.word.Given as goal

abbrev pub invariant-loop-i : goal.invariant-loop-i
invariant-loop-i l = l.w ≡ word_from (lit_at l.t) (l.base + l.i) (64 - l.i)
