-- Table, answers and totals after k events are what the first k events make of them.
use Rattle.std.proofs.Common.{◌≡◌}
use Rattle.octets.specs.Span.{put}
use Rattle.route.proofs.Listed.{ran, given}
use Rattle.tally.proofs.Tallied.{gained}
use Rattle.tally.proofs.each.Given as goal

abbrev pub invariant-loop-k : goal.invariant-loop-k
invariant-loop-k l =
    record {
      table : l.t ≡ ran l.fn.t l.es l.k;
      answers : l.places ≡ put l.fn.places 0 (given l.fn.t l.es l.k);
      totals : l.totals ≡ gained l.fn.t l.es l.fn.totals l.k;
    }
