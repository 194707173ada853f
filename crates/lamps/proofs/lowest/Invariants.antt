-- The words before j are dark.
use Rattle.std.proofs.Common.{◌≡◌, ℕ, ◌*◌, ◌<◌, false}
use Rattle.lamps.specs.Lamps.{lamp_in}
use Rattle.lamps.proofs.lowest.Given as goal

abbrev pub invariant-loop-j : goal.invariant-loop-j
invariant-loop-j l = (c : ℕ) → c < 64 * l.j → lamp_in l.fn.words c ≡ false
