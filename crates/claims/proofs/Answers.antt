-- What is answered tells what becomes of each circuit.
use Prim.Native.Nat.{ℕ, ◌<◌, ◌≤◌}
use mathlib.Core.Path.{◌≡◌, refl, sym, ap, ◌∙◌}
use mathlib.Core.Bool.{Bool, true, false, cond, ◌||◌}
use mathlib.Core.List.{List}
use native.Mathlib.Omega.{arith}
use lib.Dec.{eqb}
use borrow.Author.Tests.{ne_eqb}
use Rattle.octets.proofs.Tests.{by_test}
use Rattle.rules.specs.declared.circuit.Circuit.{Circuit}
use Rattle.rules.specs.declared.event.Event.{Event}
use Rattle.rules.specs.declared.outcome.Act.TheVariants.{Seize, Reserve, Release, Cancel, Unmark, Answered}
use Rattle.rules.specs.Outcome.{Outcome}
use Rattle.std.specs.Prelude.{Ok, Err}
use Rattle.rules.specs.declared.outcome.Deed.TheVariants.{Do, Clock}
use Rattle.rules.specs.Circuit.{overdue, made}
use Rattle.rules.specs.Numbers.{refusal_number}
use Rattle.rules.specs.Numbers as number
use Rattle.rules.specs.Answer.{becomes, refusal_detail, anothers, answer_of}
use Rattle.rules.specs.Layout.{Layout}
use Rattle.rules.specs.Valid.{valid}
use Rattle.rules.specs.Run.{outcome_of, after, answered}
use Rattle.rules.proofs.Lawful.{Lawful}
use Rattle.rules.proofs.Numbers.{refusal_high}
use Rattle.rules.proofs.Kept.{view-after}
use Rattle.claims.specs.History.{named, after_answer}

module _ (e : Event) (i c : ℕ) (y : Circuit) where
  -- a refusal tells of no change
  pub after_refusal : (k : ℕ) → number.wrong_length ≤ k → after_answer e k i c y ≡ y
  unfolding after_answer named
  after_refusal k h =
      ap (λ (b : Bool). cond b (cond (overdue e.clock y) (made e Cancel y) y) (cond (eqb i c) (named e k y) y)) (ne_eqb k 7 (omega arith))
      ∙ by_test (λ (z : Circuit). z ≡ y) (eqb i c) (named e k y) y (λ q. other) (λ q. refl)
    where
      other : named e k y ≡ y
      other =
          simp (ne_eqb k 1 (omega arith), ne_eqb k 2 (omega arith), ne_eqb k 3 (omega arith), ne_eqb k 4 (omega arith), ne_eqb k 5 (omega arith), ne_eqb k 6 (omega arith), ne_eqb k 8 (omega arith), ne_eqb k 9 (omega arith))

  -- whether somebody was lost or not
  pub after_seizure : (lost : Bool) → after_answer e (cond lost 2 1) i c y ≡ cond (eqb i c) (made e Seize y) y
  unfolding after_answer named
  after_seizure true = refl
  after_seizure false = refl

  after_reserving : (lost : Bool) → after_answer e (cond lost 4 3) i c y ≡ cond (eqb i c) (made e Reserve y) y
  unfolding after_answer named
  after_reserving true = refl
  after_reserving false = refl

-- of any outcome, over circuits x
pub answer_tells : (x : ℕ → Circuit) (n : ℕ) (e : Event) (c : ℕ) (o : Outcome) → after_answer e (answer_of x n e o).number (answer_of x n e o).detail c (x c) ≡ becomes e o c (x c)
unfolding answer_of after_answer named
answer_tells x n e c (Err r) = after_refusal e (refusal_detail r) c (x c) (refusal_number r) (omega (arith, refusal_high r))
answer_tells x n e c (Ok (Do Seize i)) =
    after_seizure e i c (x c) ((x i).holder.present || (anothers e.reference (x i).reservation).present)
answer_tells x n e c (Ok (Do Reserve i)) = after_reserving e i c (x c) (x i).reservation.present
answer_tells x n e c (Ok (Do Release i)) = refl
answer_tells x n e c (Ok (Do Cancel i)) = refl
answer_tells x n e c (Ok (Do Unmark i)) = refl
answer_tells x n e c (Ok (Do Answered i)) = refl
answer_tells x n e c (Ok Clock) = refl

-- in any lawful layout, from any valid table
module _ {S : Type 0} (L : Layout S) (W : Lawful L) (s : S) (e : List ℕ) where
  pub view_tells : valid L s ≡ true → (c : ℕ) → c < L.count s → L.view (after L s e) c ≡ after_answer (L.event e) (answered L s e).number (answered L s e).detail c (L.view s c)
  unfolding answered
  view_tells v c l =
      view-after L W s e v c l ∙ sym (answer_tells (L.view s) (L.count s) (L.event e) c (outcome_of L s (L.event e)))
