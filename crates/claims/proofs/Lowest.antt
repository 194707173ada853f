-- ROUTINE is the lowest level that a circuit can be taken from on a valid table, so nothing stands below it.
use Prim.Native.Nat.{◌≤◌}
use mathlib.Core.Path.{◌≡◌, refl, ap}
use mathlib.Core.Bool.{Bool, true, false, cond}
use native.Mathlib.Omega.{arith}
use borrow.Author.Tests.{eqb-true, leb-true}
use Rattle.octets.proofs.Tests.{and_right}
use Rattle.rules.specs.declared.mark.Mark.{Mark}
use Rattle.rules.specs.declared.circuit.Circuit.{Circuit}
use Rattle.rules.specs.Fields.{routine}
use Rattle.rules.specs.Valid.{if_present, held_under, reserved_under, levels_ok}
use Rattle.rules.specs.Records.{circuit_at, records}
use Rattle.rules.proofs.Sound.{present_so}
use Rattle.rules.proofs.Faults.{valid_facts}
use Rattle.rules.proofs.Check.{check_done}
use Rattle.claims.specs.Chosen.{Lower, RoutineTakesNothing}

none_below : (m : Mark) (y : Circuit) → m.level.0 ≡ routine → levels_ok y ≡ true → Lower m y → ⊥
unfolding levels_ok
none_below m y e ok low = go y.reservation.present y.holder.present refl refl
  where
    reserved : Bool
    reserved = reserved_under y.reservation.mark

    below : (p : Mark) → cond y.reservation.present y.reservation.mark y.holder.mark ≡ p → p.level.0 ≤ 4 → ⊥
    below p s l = let k = low.level in let z = ap (λ (n : Mark). n.level.0) s in omega arith

    go : (a b : Bool) → y.reservation.present ≡ a → y.holder.present ≡ b → ⊥
    go true b p q =
        below y.reservation.mark (ap (λ (c : Bool). cond c y.reservation.mark y.holder.mark) p)
        (leb-true y.reservation.mark.level.0 4 (present_so y.reservation reserved (and_right (if_present y.holder (held_under y.holder.mark)) (if_present y.reservation reserved) ok) p))
    go false true p q = below y.holder.mark (ap (λ (c : Bool). cond c y.reservation.mark y.holder.mark) p) (low.preemptable q)
    go false false p q = low.occupied (q, p)

pub routine_takes_nothing : RoutineTakesNothing
unfolding records
routine_takes_nothing t z m e c l =
    none_below m (circuit_at t c) (eqb-true m.level.0 routine e) ((valid_facts records t (check_done t z).1).levels c l)
