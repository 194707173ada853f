-- The loop has written the first k octets.
use Rattle.std.proofs.Common.{◌≡◌}
use Rattle.octets.specs.Span.{put_to}
use Rattle.octets.proofs.write.Given as goal

abbrev pub invariant-loop-k : goal.invariant-loop-k
invariant-loop-k l = l.s ≡ put_to l.fn.s l.at l.v l.k
