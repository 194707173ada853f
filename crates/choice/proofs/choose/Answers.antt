-- The loop returns at the first free circuit, and carries the best of those that it passed.
use Rattle.std.proofs.Common.{sym, ◌∙◌}
use Rattle.rules.specs.Records.{circuit_at}
use Rattle.choice.proofs.Carried.{told, pass-better, pass-same, free-chosen, best_chosen}
use Rattle.choice.proofs.choose.Goals as goal
use Rattle.choice.proofs.choose.Goals.{in-Better, in-NoBetter}

pub returns-in-Free : goal.returns-in-Free
returns-in-Free c =
    free-chosen (circuit_at c.args.t.now) c.args.by c.loop-number.invariant c.count-number-end.ensures c.loop-number-test.true (told _ _ _ (sym c.in-Free.is ∙ c.look.ensures))

pub loop-number-preserved : goal.loop-number-preserved
loop-number-preserved c =
    let before = c.loop-number.invariant in
    elim c.match-look.branch [
      | in-Better w ↦ pass-better (circuit_at c.args.t.now) c.args.by before w.best-is w.greatest-is (told _ _ _ (sym w.in-Better.is ∙ c.look.ensures))
      | in-NoBetter w ↦ pass-same (circuit_at c.args.t.now) c.args.by before w.best-is w.greatest-is (told _ _ _ (sym w.in-NoBetter.is ∙ c.look.ensures))
    ]

pub returns : goal.returns
returns c =
    let at = c.loop-number in
    best_chosen (circuit_at c.args.t.now) c.args.by at.invariant c.count-number-end.ensures at.auto.number-end c.loop-number-test.false
