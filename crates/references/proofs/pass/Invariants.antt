-- No part that the loop passed is in range and repeated, and the filter has seen those in range.
use Rattle.std.proofs.Common.{◌≡◌, ℕ, ◌+◌, ◌*◌, ◌<◌, false}
use Rattle.rules.specs.Records.{circuit_at}
use Rattle.references.specs.Filter.{repeated_in, Seen}
use Rattle.references.proofs.pass.Given as goal

abbrev pub invariant-loop-number : goal.invariant-loop-number
invariant-loop-number l = ((j : ℕ) → j < 2 * l.number → repeated_in l.stems.start l.stems.end (circuit_at l.t) j ≡ false) × Seen (circuit_at l.t) l.stems.start l.stems.end l.w (2 * l.number + 0)
