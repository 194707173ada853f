-- The loop has counted the circuits before i that have a holder.
use Rattle.std.proofs.Common.{◌≡◌, ◌≤◌}
use Rattle.rules.specs.Search.{count_to}
use Rattle.rules.specs.Records.{circuit_at}
use Rattle.tally.proofs.holders.Given as goal

abbrev pub invariant-loop-number : goal.invariant-loop-number
invariant-loop-number l = (l.k ≤ l.number) × (l.k ≡ count_to (λ i. (circuit_at l.t i).holder.present) l.number)
