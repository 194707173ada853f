-- A record is in order, part by part, by tests that are quick: each party stands under a precedence, and no reason applies.
use Rattle.std.specs.Prelude.{ℕ, Bool, true, cond, ◌&&◌, List, ◌∷◌}
use Rattle.octets.specs.Span.{zeros}
use Rattle.octets.specs.Same.{same}
use Rattle.rules.specs.declared.part.Part.{Part}
use Rattle.rules.specs.declared.circuit.Circuit.{Circuit}
use Rattle.rules.specs.Fields.{level_ok, decimal, point_code_ok}
use Rattle.rules.specs.Circuit.{outranks}
use Rattle.rules.specs.Valid.{if_present}
use Rattle.rules.specs.Records.{circuit_at, first_octets, reservation_octets, tail_octets, state_octets}

abbrev pub fields_fit : Part → Bool  -- the digits and the spare bits of a part are right
fields_fit p = decimal p.mark.domain && point_code_ok p.reference

abbrev pub fit : Part → Bool  -- a part that is present is fit by itself: its level, its digits and its spare bits are right
fit p = level_ok p.mark.level.0 && fields_fit p

abbrev pub part_in_order : Part → List ℕ → Bool  -- a part is present and fit, or its octets are zero
part_in_order p octets = cond p.present (fit p) (zeros octets)

abbrev pub above : Circuit → Bool  -- the reservation outranks the holder, if there is one
above c = if_present c.holder (outranks c.reservation.mark c.holder.mark)

-- record i has a holder that rings, and no reservation: the reservation's part is zero, and of the last four octets the others
abbrev pub rings_in_order : List ℕ → ℕ → Bool
rings_in_order t i =
    (circuit_at t i).holder.present && (same (tail_octets t i) (0 ∷ 0 ∷ state_octets true) && zeros (reservation_octets t i))

-- in record i the last four octets are zero, and the reservation's part is zero, or fit and above its holder; or the holder rings
abbrev pub after_holder : List ℕ → ℕ → Bool
after_holder t i =
    cond (zeros (tail_octets t i))
    (cond (circuit_at t i).reservation.present (fit (circuit_at t i).reservation && above (circuit_at t i)) (zeros (reservation_octets t i)))
    (rings_in_order t i)

unfoldable pub in_order : List ℕ → ℕ → Bool  -- in record i the first of the holder's part is in order, and so is the rest
in_order t i = part_in_order (circuit_at t i).holder (first_octets t i) && after_holder t i
