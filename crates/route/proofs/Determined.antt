-- For each entry any two results that its contract allows coincide, and so does what they leave in the table and in the answers.
use mathlib.Core.Path.{sym, ◌∙◌}
use Rattle.octets.proofs.Determined.{OneResult, OneExit}
use Rattle.route.proofs.Results.{one-event, one-list}
use Rattle.route.proofs.event.Kinds as event-kinds
use Rattle.route.proofs.event.Reads as event
use Rattle.route.proofs.list.Kinds as list-kinds
use Rattle.route.proofs.list.Reads as list

pub event-result : OneResult 3 event-kinds.ps event-kinds.r event.Post
event-result κs a x y e f p q = one-event x y (p.0 ∙ sym q.0) (p.1.0 ∙ sym q.1.0)

pub event-table : OneExit 3 event-kinds.ps event-kinds.r event.Post (λ κs e. e.0.now)
event-table κs a x y e f p q = p.1.1.0 ∙ sym q.1.1.0

pub event-answer : OneExit 3 event-kinds.ps event-kinds.r event.Post (λ κs e. e.1.1.0.now)
event-answer κs a x y e f p q = p.1.1.1 ∙ sym q.1.1.1

pub list-result : OneResult 3 list-kinds.ps list-kinds.r list.Post
list-result κs a x y e f p q = one-list x y (p.0 ∙ sym q.0)

pub list-table : OneExit 3 list-kinds.ps list-kinds.r list.Post (λ κs e. e.0.now)
list-table κs a x y e f p q = p.1.0 ∙ sym q.1.0

pub list-answers : OneExit 3 list-kinds.ps list-kinds.r list.Post (λ κs e. e.1.1.0.now)
list-answers κs a x y e f p q = p.1.1 ∙ sym q.1.1
