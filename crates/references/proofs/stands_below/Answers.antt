-- The call stands on the circuit that tells.
use Rattle.std.proofs.Common.{sym, ◌∙◌}
use Rattle.rules.specs.Records.{circuit_at}
use Rattle.references.proofs.Filters.{stands_there}
use Rattle.references.proofs.stands_below.Goals as goal

pub returns-then-stands_on : goal.returns-then-stands_on
returns-then-stands_on c =
    stands_there (circuit_at c.args.t.now) c.args.r c.loop-number.number c.args.i c.loop-number-test.true (sym c.stands_on.ensures ∙ c.if-stands_on.true)
