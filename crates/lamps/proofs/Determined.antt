-- Any two results that the contract of the lamp map allows coincide, and any two lowest lamps.
use mathlib.Core.Path.{sym, ◌∙◌}
use Rattle.octets.proofs.Determined.{OneResult}
use Rattle.lamps.proofs.lowest.Kinds as lowest-kinds
use Rattle.lamps.proofs.lowest.Reads as lowest
use Rattle.lamps.proofs.map.Kinds as map-kinds
use Rattle.lamps.proofs.map.Reads as map

pub map-result : OneResult 1 map-kinds.ps map-kinds.r map.Post
map-result κs a x y e f p q = p ∙ sym q

pub lowest-result : OneResult 0 lowest-kinds.ps lowest-kinds.r lowest.Post
lowest-result κs a x y e f p q = p ∙ sym q
