-- The second accident cannot happen: by which turn a reservation goes.
use Prim.Native.Nat.{ℕ, ◌+◌, ◌*◌}
use mathlib.Core.Path.{◌≡◌, refl, sym, ap, ◌∙◌, subst}
use mathlib.Core.Logic.{⊎_elim, ◌⊎◌, inl, inr}
use mathlib.Core.Bool.{Bool, true, false, cond, ◌||◌, true≢false}
use mathlib.Core.List.{List}
use native.Mathlib.Omega.{arith}
use lib.Dec.{leb}
use borrow.Author.Tests.{leb-true, le-leb}
use Rattle.octets.proofs.Tests.{and_right, and_both, not_so, by_so, by_test}
use Rattle.octets.proofs.Width.{value-octets}
use Rattle.octets.proofs.Spans.{length-span}
use Rattle.rules.specs.declared.circuit.Circuit.{Circuit}
use Rattle.rules.specs.declared.event.Event.{Event}
use Rattle.rules.specs.declared.outcome.Act.{Act}
use Rattle.rules.specs.declared.outcome.Act.TheVariants.{Seize, Reserve, Release, Cancel, Unmark, Answered}
use Rattle.std.specs.Prelude.{Ok, Err}
use Rattle.rules.specs.declared.outcome.Deed.TheVariants.{Do, Clock}
use Rattle.rules.specs.Outcome.{does}
use Rattle.rules.specs.Circuit.{nobody, is_of, limit, age, made, overdue as isOverdue}
use Rattle.rules.specs.Answer.{becomes, anothers, answer_of}
use Rattle.rules.specs.Records.{circuit_at, loser, answer_octets, circuits, answer_number, answer_detail, lost_reservation}
use Rattle.claims.specs.History.{Turn, asked, after_answer, after_turn}
use Rattle.claims.specs.Accidents.{Old, Goes, own_set_up, cancelled, higher-call, overdue, marked_off, Stays, NoReservationLost, OldOnesGo}
use Rattle.rules.proofs.Grounds.{Open, Grounds}
use Rattle.claims.proofs.Parties.{loser-named, by_own, by_higher, above-reservation, After, acted, AtTurn, stays_or_goes}

lost-number : (b : Bool) → (◌≡◌ {A = ℕ} (cond b 2 1) 1) ⊎ (◌≡◌ {A = ℕ} (cond b 2 1) 2)
lost-number true = inr refl
lost-number false = inl refl

-- ---- the limit
module _ (clock : ℕ) (y : Circuit) where
  abbrev steps : ℕ
  steps = age clock y.clock

  overdue-old : isOverdue clock y ≡ true → Old clock y
  overdue-old h = omega (arith, leb-true limit steps (and_right y.reservation.present (leb limit steps) h))

  old-overdue : y.reservation.present ≡ true → Old clock y → isOverdue clock y ≡ true
  old-overdue there h = and_both y.reservation.present (leb limit steps) there (le-leb limit steps (omega arith))

-- ---- table t shows circuits x; p is an event over it with its answer
module _ (t : List ℕ) (p : Turn) where
  abbrev x : ℕ → Circuit
  x = circuit_at t

  abbrev n : ℕ
  n = circuits t

  abbrev e : Event
  e = asked p

  -- circuit i has a reservation
  module _ (i : ℕ) (there : (x i).reservation.present ≡ true) where
    by_taking : Open x n e i → (e.kind ≡ 1) ⊎ (e.kind ≡ 3) → (l : List ℕ) → p.answer ≡ l → answer_detail l ≡ i → lost_reservation l ≡ loser (x i).reservation → Goes i p (x i)
    by_taking o k l a named lost =
        higher-call k (by_higher p l a i named (x i).reservation lost_reservation there (length-span t (32 * i + 12 + 7) 5) (above-reservation x n e i o there) lost)

    by_seizure : Grounds x n e (does Seize i) → p.answer ≡ answer_octets (answer_of x n e (does Seize i)) → Goes i p (x i)
    unfolding answer_of
    by_seizure r a =
        by_so (is_of e.reference (x i).reservation)
        (λ own.
        own_set_up (by_own p _ a i (value-octets 1 i) _ _ r.set_up_lem own)
        (subst (λ (k : ℕ). (k ≡ 1) ⊎ (k ≡ 2)) (sym (ap answer_number a)) (lost-number ((x i).holder.present || (anothers e.reference (x i).reservation).present))))
        (λ other.
        by_taking (⊎_elim (λ own. absurd (true≢false (sym own.0 ∙ other))) (λ o. o.0) r.given) (inl r.set_up_lem) _ a (value-octets 1 i)
        (ap (λ (b : Bool). loser (cond b nobody (x i).reservation)) other))

    by_reserving : Grounds x n e (does Reserve i) → p.answer ≡ answer_octets (answer_of x n e (does Reserve i)) → Goes i p (x i)
    unfolding answer_of
    by_reserving r a = by_taking r.given.0 (inr r.look_ahead_lem) _ a (value-octets 1 i) refl

    by_cancel : Grounds x n e (does Cancel i) → p.answer ≡ answer_octets (answer_of x n e (does Cancel i)) → Goes i p (x i)
    unfolding answer_of
    by_cancel r a = cancelled (by_own p _ a i (value-octets 1 i) _ _ r.kind r.own) (ap answer_number a)

    by_no_service : Grounds x n e (does Unmark i) → p.answer ≡ answer_octets (answer_of x n e (does Unmark i)) → Goes i p (x i)
    unfolding answer_of
    by_no_service r a =
        marked_off (by_own p _ a i (value-octets 1 i) _ _ r.kind r.own) (ap answer_number a)
        (ap lost_reservation a ∙ loser-named (x i).reservation there (length-span t (32 * i + 12 + 7) 5))

  abbrev StaysAt : ℕ → Turn → Circuit → Circuit → Type 0
  StaysAt c q = Stays

  at_act : (c : ℕ) → (x c).reservation.present ≡ true → (a : Act) (i : ℕ) → ((x i).reservation.present ≡ true → After (λ y. y.reservation) StaysAt Goes i p (x i) (made e a (x i))) → After (λ y. y.reservation) StaysAt Goes c p (x c) (becomes e (does a i) c (x c))
  at_act = acted (λ y. y.reservation) StaysAt Goes (λ c q y. (refl, refl)) x p

  at_turn : AtTurn (λ y. y.reservation) StaysAt Goes t p
  unfolding answer_of
  at_turn c there (Err r) h a = inl (refl, refl)
  at_turn c there (Ok (Do Seize i)) h a = at_act c there Seize i (λ q. inr (by_seizure i q h a))
  at_turn c there (Ok (Do Reserve i)) h a = at_act c there Reserve i (λ q. inr (by_reserving i q h a))
  at_turn c there (Ok (Do Release i)) h a = at_act c there Release i (λ q. inl (refl, refl))
  at_turn c there (Ok (Do Cancel i)) h a = at_act c there Cancel i (λ q. inr (by_cancel i q h a))
  at_turn c there (Ok (Do Unmark i)) h a = at_act c there Unmark i (λ q. inr (by_no_service i q h a))
  at_turn c there (Ok (Do Answered i)) h a = at_act c there Answered i (λ q. inl (refl, refl))
  at_turn c there (Ok Clock) h a =
      by_test (λ (z : Circuit). Stays (x c) z ⊎ Goes c p (x c)) (isOverdue e.clock (x c)) (made e Cancel (x c)) (x c)
      (λ z. inr (overdue h (ap answer_number a) (overdue-old e.clock (x c) z)))
      (λ z. inl (refl, refl))

pub no_reservation_lost : NoReservationLost
no_reservation_lost = stays_or_goes (λ y. y.reservation) (λ c p. Stays) Goes (λ t v. at_turn t)

pub old_ones_go : OldOnesGo
unfolding after_answer
old_ones_go p c y seven there =
    let e = asked p in
    let said : after_turn p c y ≡ cond (isOverdue e.clock y) (made e Cancel y) y = ap (λ (k : ℕ). after_answer e k (answer_detail p.answer) c y) seven in
    let by : (b : Bool) → isOverdue e.clock y ≡ b → after_turn p c y ≡ cond b (made e Cancel y) y = λ b q. said ∙ ap (λ (z : Bool). cond z (made e Cancel y) y) q in (
      λ h. ap (λ (z : Circuit). z.reservation) (by true (old-overdue e.clock y there h)),
      λ h.
          let still = by false (not_so (isOverdue e.clock y) (λ q. h (overdue-old e.clock y q))) in
          (ap (λ (z : Circuit). z.reservation) still, ap (λ (z : Circuit). z.clock) still),
    )
