-- No more are counted than were passed.
use Rattle.std.proofs.Common.{◌+◌, ◌≤◌}
use Rattle.rules.specs.Records.{circuits}
use Rattle.references.proofs.reserved.Given as goal

abbrev pub invariant-loop-number : goal.invariant-loop-number
invariant-loop-number l = l.count + l.number ≤ circuits l.t
