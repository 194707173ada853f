-- Any two results that the contract of the check allows coincide.
use mathlib.Core.Path.{sym, ◌∙◌}
use Rattle.octets.proofs.Determined.{OneResult}
use Rattle.validity.proofs.check.Kinds as check-kinds
use Rattle.validity.proofs.check.Reads as check

pub check-result : OneResult 1 check-kinds.ps check-kinds.r check.Post
check-result κs a x y e f p q = p ∙ sym q
