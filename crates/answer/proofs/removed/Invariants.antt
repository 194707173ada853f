-- The count is of the reservations that are overdue among the circuits passed.
use Rattle.std.proofs.Common.{◌≡◌, ◌≤◌}
use Rattle.rules.specs.Search.{count_to}
use Rattle.rules.specs.Circuit.{overdue}
use Rattle.rules.specs.Records.{circuit_at}
use Rattle.answer.proofs.removed.Given as goal

abbrev pub invariant-loop-number : goal.invariant-loop-number
invariant-loop-number l = (l.k ≤ l.number) × (l.k ≡ count_to (λ i. overdue l.clock (circuit_at l.t i)) l.number)
