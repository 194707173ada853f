-- For each function of the library, which naustvri_c exports with the same contract, any two results that the contract allows coincide, and so does
-- what they leave in the buffers.
use mathlib.Core.Path.{sym, ◌∙◌}
use Rattle.octets.proofs.Determined.{OneResult, OneExit}
use Rattle.naustvri.proofs.naustvri_version.Kinds as version-kinds
use Rattle.naustvri.proofs.naustvri_version.Reads as version
use Rattle.naustvri.proofs.naustvri_read_precedence.Kinds as read-precedence-kinds
use Rattle.naustvri.proofs.naustvri_read_precedence.Reads as read-precedence
use Rattle.naustvri.proofs.naustvri_write_precedence.Kinds as write-precedence-kinds
use Rattle.naustvri.proofs.naustvri_write_precedence.Reads as write-precedence
use Rattle.naustvri.proofs.naustvri_read_reference.Kinds as read-reference-kinds
use Rattle.naustvri.proofs.naustvri_read_reference.Reads as read-reference
use Rattle.naustvri.proofs.naustvri_write_reference.Kinds as write-reference-kinds
use Rattle.naustvri.proofs.naustvri_write_reference.Reads as write-reference
use Rattle.naustvri.proofs.naustvri_next_parameter.Kinds as next-parameter-kinds
use Rattle.naustvri.proofs.naustvri_next_parameter.Reads as next-parameter
use Rattle.naustvri.proofs.naustvri_find_precedence.Kinds as find-precedence-kinds
use Rattle.naustvri.proofs.naustvri_find_precedence.Reads as find-precedence
use Rattle.naustvri.proofs.naustvri_write_optional.Kinds as write-optional-kinds
use Rattle.naustvri.proofs.naustvri_write_optional.Reads as write_optional
use Rattle.naustvri.proofs.naustvri_check.Kinds as check-kinds
use Rattle.naustvri.proofs.naustvri_check.Reads as check
use Rattle.naustvri.proofs.naustvri_event.Kinds as event-kinds
use Rattle.naustvri.proofs.naustvri_event.Reads as event
use Rattle.naustvri.proofs.naustvri_list.Kinds as list-kinds
use Rattle.naustvri.proofs.naustvri_list.Reads as list
use Rattle.naustvri.proofs.naustvri_figures.Kinds as figures-kinds
use Rattle.naustvri.proofs.naustvri_figures.Reads as figures
use Rattle.naustvri.proofs.naustvri_lamps.Kinds as lamps-kinds
use Rattle.naustvri.proofs.naustvri_lamps.Reads as lamps

pub version-result : OneResult 0 version-kinds.ps version-kinds.r version.Post
version-result κs a x y e f p q = p ∙ sym q

pub read-precedence-result : OneResult 1 read-precedence-kinds.ps read-precedence-kinds.r read-precedence.Post
read-precedence-result κs a x y e f p q = p ∙ sym q

pub write-precedence-result : OneResult 1 write-precedence-kinds.ps write-precedence-kinds.r write-precedence.Post
write-precedence-result κs a x y e f p q = p.0 ∙ sym q.0

pub write_precedence_buffer : OneExit 1 write-precedence-kinds.ps write-precedence-kinds.r write-precedence.Post (λ κs e. e.0.now)
write_precedence_buffer κs a x y e f p q = p.1 ∙ sym q.1

pub read-reference-result : OneResult 1 read-reference-kinds.ps read-reference-kinds.r read-reference.Post
read-reference-result κs a x y e f p q = p ∙ sym q

pub write-reference-result : OneResult 1 write-reference-kinds.ps write-reference-kinds.r write-reference.Post
write-reference-result κs a x y e f p q = p.0 ∙ sym q.0

pub write_reference_buffer : OneExit 1 write-reference-kinds.ps write-reference-kinds.r write-reference.Post (λ κs e. e.0.now)
write_reference_buffer κs a x y e f p q = p.1 ∙ sym q.1

pub next-parameter-result : OneResult 1 next-parameter-kinds.ps next-parameter-kinds.r next-parameter.Post
next-parameter-result κs a x y e f p q = p ∙ sym q

pub find-precedence-result : OneResult 1 find-precedence-kinds.ps find-precedence-kinds.r find-precedence.Post
find-precedence-result κs a x y e f p q = p ∙ sym q

pub write_optional_result : OneResult 2 write-optional-kinds.ps write-optional-kinds.r write_optional.Post
write_optional_result κs a x y e f p q = p.0 ∙ sym q.0

pub write_optional_buffer : OneExit 2 write-optional-kinds.ps write-optional-kinds.r write_optional.Post (λ κs e. e.0.now)
write_optional_buffer κs a x y e f p q = p.1 ∙ sym q.1

pub check-result : OneResult 1 check-kinds.ps check-kinds.r check.Post
check-result κs a x y e f p q = p ∙ sym q

pub event-result : OneResult 3 event-kinds.ps event-kinds.r event.Post
event-result κs a x y e f p q = p.0 ∙ sym q.0

pub event-table : OneExit 3 event-kinds.ps event-kinds.r event.Post (λ κs e. e.0.now)
event-table κs a x y e f p q = p.1.0 ∙ sym q.1.0

pub event-answer : OneExit 3 event-kinds.ps event-kinds.r event.Post (λ κs e. e.1.1.0.now)
event-answer κs a x y e f p q = p.1.1 ∙ sym q.1.1

pub list-result : OneResult 3 list-kinds.ps list-kinds.r list.Post
list-result κs a x y e f p q = p.0 ∙ sym q.0

pub list-table : OneExit 3 list-kinds.ps list-kinds.r list.Post (λ κs e. e.0.now)
list-table κs a x y e f p q = p.1.0 ∙ sym q.1.0

pub list-answers : OneExit 3 list-kinds.ps list-kinds.r list.Post (λ κs e. e.1.1.0.now)
list-answers κs a x y e f p q = p.1.1 ∙ sym q.1.1

pub figures-result : OneResult 4 figures-kinds.ps figures-kinds.r figures.Post
figures-result κs a x y e f p q = p.0 ∙ sym q.0

pub figures-table : OneExit 4 figures-kinds.ps figures-kinds.r figures.Post (λ κs e. e.0.now)
figures-table κs a x y e f p q = p.1.0 ∙ sym q.1.0

pub figures-answers : OneExit 4 figures-kinds.ps figures-kinds.r figures.Post (λ κs e. e.1.1.0.now)
figures-answers κs a x y e f p q = p.1.1.0 ∙ sym q.1.1.0

pub figures-totals : OneExit 4 figures-kinds.ps figures-kinds.r figures.Post (λ κs e. e.1.1.1.0.now)
figures-totals κs a x y e f p q = p.1.1.1 ∙ sym q.1.1.1

pub lamps-result : OneResult 1 lamps-kinds.ps lamps-kinds.r lamps.Post
lamps-result κs a x y e f p q = p ∙ sym q
