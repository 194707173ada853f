-- The lowest of the passes made is kept, until every stem has had its pass.
use Rattle.std.proofs.Common.{◌+◌, ◌*◌, ◌-◌, ◌<◌, ◌≤◌}
use Rattle.rules.specs.Records.{circuit_at, circuits}
use Rattle.references.specs.Filter.{stems}
use Rattle.references.proofs.Passes.{Sifted}
use Rattle.references.proofs.first_repeated.Given as goal

abbrev pub invariant-loop-stems : goal.invariant-loop-stems
invariant-loop-stems l =
    (l.stems.start < l.stems.end) × (l.stems.end ≤ l.stems.start + stems) × Sifted (circuit_at l.t) (2 * circuits l.t) l.stems.start l.first

abbrev pub decreases-loop-stems : goal.decreases-loop-stems
decreases-loop-stems l = stems - l.stems.start
