-- What a refusal leaves.
use Prim.Native.Nat.{ℕ, ◌≤◌}
use mathlib.Core.Path.{◌≡◌, refl, sym, ap, ◌∙◌}
use mathlib.Core.Logic.{◌≢◌}
use mathlib.Core.Bool.{Bool, true, false, cond, ◌||◌}
use mathlib.Core.List.{List}
use native.Mathlib.Omega.{arith}
use lib.ListN.{length}
use Rattle.octets.proofs.Tests.{halves, by_so}
use Rattle.rules.specs.declared.circuit.Circuit.{Circuit}
use Rattle.rules.specs.declared.event.Event.{Event}
use Rattle.rules.specs.declared.outcome.Act.TheVariants.{Seize, Reserve, Release, Cancel, Unmark, Answered}
use Rattle.rules.specs.declared.outcome.Refusal.{Refusal}
use Rattle.rules.specs.Outcome.{Outcome}
use Rattle.std.specs.Prelude.{Ok, Err}
use Rattle.rules.specs.declared.outcome.Deed.TheVariants.{Do, Clock}
use Rattle.rules.specs.Numbers.{wrong_length, refusal_number, cause_of}
use Rattle.rules.specs.Answer.{anothers, answer_of}
use Rattle.rules.specs.Run.{outcome_of, effect, after, answered, answer_record}
use Rattle.rules.specs.Records.{circuit_at, table_length, event_at, nobody_lost, answer_fields, answer_octets, records, circuits, checked, answer_number, answer_detail}
use Rattle.rules.proofs.Numbers.{refusal_high}
use Rattle.route.specs.Entries.{event_lengths, event_number, event_table, event_answer, list_lengths, list_number}
use Rattle.route.proofs.Whole.{no_event, no_list}
use Rattle.claims.specs.OneByOne.{ReturnsNumber, RefusalKeepsTable, refused_detail, RefusalAnswers, RefusalKeepsHistory, RefusedList}
use Rattle.claims.proofs.Answers.{after_refusal}
use Rattle.claims.proofs.Octets.{answer-number}
use Rattle.claims.proofs.Details.{Detailed, decided-detail}

-- ---- one event
-- an outcome that is answered by 20 or more is a refusal, so what holds of each refusal holds of it
by_refusal : (x : ℕ → Circuit) (n : ℕ) (e : Event) (P : Outcome → Type 0) → ((r : Refusal) → P (Err r)) → (o : Outcome) → 20 ≤ (answer_of x n e o).number → P o
unfolding answer_of
by_refusal x n e P g (Err r) h = g r
by_refusal x n e P g (Ok (Do Seize i)) h =
    absurd (low ((x i).holder.present || (anothers e.reference (x i).reservation).present) h)
  where
    low : (b : Bool) → 20 ≤ cond b 2 1 → ⊥
    low true h = omega arith
    low false h = omega arith
by_refusal x n e P g (Ok (Do Reserve i)) h = absurd (low (x i).reservation.present h)
  where
    low : (b : Bool) → 20 ≤ cond b 4 3 → ⊥
    low true h = omega arith
    low false h = omega arith
by_refusal x n e P g (Ok (Do Release i)) h = absurd (omega arith)
by_refusal x n e P g (Ok (Do Cancel i)) h = absurd (omega arith)
by_refusal x n e P g (Ok (Do Unmark i)) h = absurd (omega arith)
by_refusal x n e P g (Ok (Do Answered i)) h = absurd (omega arith)
by_refusal x n e P g (Ok Clock) h = absurd (omega arith)

refused-effect : (t : List ℕ) (e : Event) (o : Outcome) → 20 ≤ (answer_of (circuit_at t) (circuits t) e o).number → effect records t e o ≡ t
unfolding effect
refused-effect t e = by_refusal (circuit_at t) (circuits t) e (λ o. effect records t e o ≡ t) (λ r. refl)

abbrev refusal_octets : ℕ → ℕ → List ℕ
refusal_octets k detail = answer_fields k (cause_of k) detail nobody_lost nobody_lost

-- where what is decided over table t has the detail of a refusal, its answer has it
refused-octets : (t : List ℕ) (e : Event) (o : Outcome) → 20 ≤ (answer_of (circuit_at t) (circuits t) e o).number → Detailed (checked t).detail o → let a = answer_of (circuit_at t) (circuits t) e o in answer_octets a ≡ refusal_octets a.number (refused_detail t a.number)
unfolding answer_of
refused-octets t e =
    let a = answer_of (circuit_at t) (circuits t) e in
    by_refusal (circuit_at t) (circuits t) e (λ o. Detailed (checked t).detail o → answer_octets (a o) ≡ refusal_octets (a o).number (refused_detail t (a o).number))
    (λ r q. ap (refusal_octets (refusal_number r)) q)

refused-table : (t e : List ℕ) → 20 ≤ (answered records t e).number → after records t e ≡ t
unfolding answered after records
refused-table t e = refused-effect t (event_at e) (outcome_of records t (event_at e))

refused-answer : (t e : List ℕ) → table_length (length t) ≡ true → 20 ≤ (answered records t e).number → let k = (answered records t e).number in answer_record records t e ≡ refusal_octets k (refused_detail t k)
unfolding answered answer_record records
refused-answer t e l h = refused-octets t (event_at e) (outcome_of records t (event_at e)) h (decided-detail t (event_at e) l)

-- what its three results are, by its lengths
module _ (t e place : List ℕ) where
  pub lengths_right : event_number t e place ≢ 20 → event_lengths t e place ≡ true
  unfolding event_number
  lengths_right h =
      by_so (event_lengths t e place) (λ q. q) (λ q. absurd (h (ap (λ (b : Bool). cond b (answered records t e).number wrong_length) q)))

  module _ (q : event_lengths t e place ≡ true) where
    pub table_right : table_length (length t) ≡ true
    unfolding event_lengths
    table_right = (halves q).0

    pub number_then : event_number t e place ≡ (answered records t e).number
    unfolding event_number
    number_then = ap (λ (b : Bool). cond b (answered records t e).number wrong_length) q

    pub table_then : event_table t e place ≡ after records t e
    unfolding event_table
    table_then = ap (λ (b : Bool). cond b (after records t e) t) q

    pub answer_then : event_answer t e place ≡ answer_record records t e
    unfolding event_answer
    answer_then = ap (λ (b : Bool). cond b (answer_record records t e) place) q

-- no event is answered by 20 or 21
pub answered_not : (t e : List ℕ) (k : ℕ) → 20 ≤ k → k ≤ 21 → (answered records t e).number ≢ k
unfolding answered answer_of records
answered_not t e k low high h =
    let a = answer_of (circuit_at t) (circuits t) (event_at e) in
    by_refusal (circuit_at t) (circuits t) (event_at e) (λ o. (a o).number ≡ k → ⊥) (λ r z. omega (arith, refusal_high r))
    (outcome_of records t (event_at e)) (omega arith) h

-- so 20 comes back at wrong lengths alone
pub returned_not_20 : (t e place : List ℕ) → event_lengths t e place ≡ true → event_number t e place ≢ 20
returned_not_20 t e place q h = answered_not t e 20 (omega arith) (omega arith) (sym (number_then t e place q) ∙ h)

pub returns-number : ReturnsNumber
returns-number t e place h =
    let q = lengths_right t e place h in
    number_then t e place q ∙ sym (answer-number t e) ∙ ap answer_number (sym (answer_then t e place q))

pub refusal_keeps_table : RefusalKeepsTable
refusal_keeps_table t e place h =
    by_so (event_lengths t e place)
    (λ q. table_then t e place q ∙ refused-table t e (omega (arith, number_then t e place q))) (λ q. sym (no_event t e place q).1.0)

pub refusal_answers : RefusalAnswers
refusal_answers t e place h =
    let q = lengths_right t e place (λ z. omega arith) in
    let k = number_then t e place q in
    answer_then t e place q ∙ refused-answer t e (table_right t e place q) (omega (arith, k))
    ∙ ap (λ (n : ℕ). refusal_octets n (refused_detail t n)) (sym k)

pub refusal_keeps_history : RefusalKeepsHistory
refusal_keeps_history p c y h = after_refusal (event_at p.event) (answer_detail p.answer) c y (answer_number p.answer) h

-- ---- a list
pub refused-list : RefusedList
unfolding list_number
refused-list t es places h =
    by_so (list_lengths t es places)
    (λ q. absurd (let z = sym (ap (λ (b : Bool). cond {A = ℕ} b 0 wrong_length) q) ∙ h in omega arith))
    (λ q. let n = (no_list t es places q).1 in (sym n.0, sym n.1))
