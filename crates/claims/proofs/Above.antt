-- A call that comes for the circuit that it has reserved is above a holder there, so that the test of 28 decides nothing.
use Prim.Native.Nat.{ℕ, ◌<◌}
use mathlib.Core.Path.{◌≡◌, refl, ap, ◌∙◌}
use mathlib.Core.Logic.{inl, inr}
use mathlib.Core.Bool.{Bool, true, false, cond, ◌&&◌, not}
use mathlib.Core.List.{List}
use lib.Dec.{eqb}
use borrow.Author.Tests.{eq-eqb}
use Rattle.octets.specs.Same.{same}
use Rattle.octets.proofs.Tests.{and_right, and_both, by_so}
use Rattle.octets.proofs.Sames.{same_refl}
use Rattle.rules.specs.declared.circuit.Circuit.{Circuit}
use Rattle.rules.specs.declared.event.Event.{Event}
use Rattle.rules.specs.declared.outcome.Act.TheVariants.{Seize}
use Rattle.rules.specs.declared.outcome.Refusal.TheVariants.{MarkDiffers}
use Rattle.std.specs.Prelude.{Err}
use Rattle.rules.specs.Outcome.{does}
use Rattle.rules.specs.Circuit.{outranks, same_mark, unreserved, preemptable, takeable}
use Rattle.rules.specs.Numbers.{done}
use Rattle.rules.specs.Decision.{on_reservation}
use Rattle.rules.specs.Valid.{pair_ok}
use Rattle.rules.specs.Records.{circuit_at, records, circuits, check_number}
use Rattle.rules.proofs.Faults.{valid_facts}
use Rattle.rules.proofs.Sound.{if_present_lem, own_above}
use Rattle.rules.proofs.Check.{check_done}
use Rattle.claims.specs.Chosen.{Lower}
use Rattle.claims.specs.Printed.{ComesAsReserved, AlwaysAbove, decides, refuses, holder_lower, AsPrinted}
use Rattle.claims.proofs.Plain.{lower_so}

-- on a table that the check takes, the two parts of each circuit are in order
in_order_lem : (t : List ℕ) → check_number t ≡ done → (i : ℕ) → i < circuits t → pair_ok (circuit_at t i) ≡ true
unfolding records
in_order_lem t c = (valid_facts records t (check_done t c).1).pair

module _ (e : Event) (y : Circuit) where
  comes_alike : ComesAsReserved e y → same_mark e.mark y.reservation.mark ≡ true
  comes_alike c =
      let m = y.reservation.mark in
      and_both (eqb e.mark.level.0 m.level.0) (same e.mark.domain m.domain) (eq-eqb e.mark.level.0 m.level.0 c.level)
      (ap (λ (d : List ℕ). same d m.domain) c.domain ∙ same_refl m.domain)

  -- a preemptable circuit whose holder the call outranks stands under a lower precedence, were the reservation not there
  lower-holder : preemptable y && outranks e.mark y.holder.mark ≡ true → y.holder.present ≡ true → Lower e.mark (unreserved y)
  unfolding takeable
  lower-holder h held = lower_so e.mark (unreserved y) (and_both _ _ (ap (λ (b : Bool). not (not b && true)) held) h)

pub always-above : AlwaysAbove
always-above t c i l e comes =
    let y = circuit_at t i in
    by_so y.holder.present
    (λ held. inr (lower-holder e y (own_above e.mark y (in_order_lem t c i l) comes.reserved.0 (comes_alike e y comes) held) held)) inl

-- ---- with the test of 28, and without it
-- where the first of two tests implies the second, the second decides nothing
second_idle : {A B : Type 0} (f : A → B) (a b : Bool) (x z : A) (y : B) → (a ≡ true → b ≡ true) → cond a (cond b (f x) y) (f z) ≡ f (cond a x z)
second_idle {A} {B} f true b x z y h = ap (λ (c : Bool). cond c (f x) y) (h refl)
second_idle f false b x z y h = refl

pub as_printed : AsPrinted
unfolding on_reservation
as_printed t c i l e there =
    let y = circuit_at t i in
    second_idle decides (same_mark e.mark y.reservation.mark) (holder_lower e y) (does Seize i) (Err MarkDiffers) (refuses 28)
    (λ alike. if_present_lem y.holder _ (λ held. and_right (preemptable y) _ (own_above e.mark y (in_order_lem t c i l) there.0 alike held)))
