-- Where nobody was lost, adding 0 leaves the totals.
use Rattle.std.proofs.Common.{sym, ap, ◌∙◌}
use Rattle.std.specs.Prelude.{Option, is_some}
use Rattle.rules.specs.declared.level.Level.{Level}
use Rattle.tally.specs.Places as place
use Rattle.tally.specs.Shares.{at, one, level_lost}
use Rattle.tally.specs.Entry.{added}
use Rattle.tally.proofs.Added.{added_none, at_nothing}
use Rattle.tally.proofs.totals.count_lost.Goals as goal

pub returns-in_default : goal.returns-in_default
returns-in_default c =
    let a = c.args in
    let p = place.lost_by_level a.taker.0 0 in
    sym (added_none (at p 0) a.totals.now (at_nothing p))
    ∙ ap (λ (lost : Option Level). added (at (place.lost_by_level a.taker.0 (level_lost lost)) (one (is_some lost))) a.totals.now) (sym c.in_default.is)
