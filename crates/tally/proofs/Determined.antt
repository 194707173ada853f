-- Any two results that the entry's contract allows coincide, and so does what they leave in the table, in the answers and in the totals.
use mathlib.Core.Path.{sym, ◌∙◌}
use Rattle.octets.proofs.Determined.{OneResult, OneExit}
use Rattle.tally.proofs.Results.{one-list}
use Rattle.tally.proofs.list.Kinds as kinds
use Rattle.tally.proofs.list.Reads as list

pub list-result : OneResult 4 kinds.ps kinds.r list.Post
list-result κs a x y e f p q = one-list x y (p.0 ∙ sym q.0)

pub list-table : OneExit 4 kinds.ps kinds.r list.Post (λ κs e. e.0.now)
list-table κs a x y e f p q = p.1.0 ∙ sym q.1.0

pub list-answers : OneExit 4 kinds.ps kinds.r list.Post (λ κs e. e.1.1.0.now)
list-answers κs a x y e f p q = p.1.1.0 ∙ sym q.1.1.0

pub list-totals : OneExit 4 kinds.ps kinds.r list.Post (λ κs e. e.1.1.1.0.now)
list-totals κs a x y e f p q = p.1.1.1 ∙ sym q.1.1.1
