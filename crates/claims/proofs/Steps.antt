-- What one turn makes of who rings on a circuit.
use Prim.Native.Nat.{ℕ, ◌<◌}
use mathlib.Core.Path.{◌≡◌, refl, sym, ap, ◌∙◌}
use mathlib.Core.Logic.{⊎_elim, ◌≢◌, ◌⊎◌, inl, inr}
use mathlib.Core.Bool.{true, false, ◌||◌}
use mathlib.Core.List.{List, [], ◌∷◌, ◌++◌}
use native.Mathlib.Omega.{arith}
use lib.Dec.{eqb}
use borrow.Author.Tests.{eqb-true, eqb-false}
use Rattle.octets.proofs.Tests.{by_test}
use Rattle.octets.proofs.Width.{value-octets}
use Rattle.rules.specs.declared.circuit.Circuit.{Circuit}
use Rattle.rules.specs.declared.event.Event.{Event}
use Rattle.rules.specs.declared.answer.Answer.{Answer}
use Rattle.rules.specs.declared.outcome.Act.{Act}
use Rattle.rules.specs.declared.outcome.Act.TheVariants.{Seize, Reserve, Release, Cancel, Unmark, Answered}
use Rattle.rules.specs.Outcome.{Outcome, does}
use Rattle.std.specs.Prelude.{Ok, Err}
use Rattle.rules.specs.declared.outcome.Deed.TheVariants.{Do, Clock}
use Rattle.rules.specs.Numbers as number
use Rattle.rules.specs.Circuit.{made, overdue}
use Rattle.rules.specs.Answer.{becomes, anothers, answer_of}
use Rattle.rules.specs.Records.{circuit_at, circuits, answer_number, answer_detail, answer_octets, empty_table}
use Rattle.rules.proofs.Numbers.{refusal_high}
use Rattle.rules.proofs.Grounds.{Grounds}
use Rattle.claims.specs.History.{Turn, asked, history}
use Rattle.claims.specs.Lists.{EventList, past}
use Rattle.claims.specs.Ringing.{SeizedBy}
use Rattle.claims.proofs.Plain.{stands_in_lem}
use Rattle.claims.proofs.Parties.{each_turn}

abbrev pub EndedBy : ℕ → Turn → Type 0  -- turn p is answered by 9 and circuit c
EndedBy c p = (answer_number p.answer ≡ number.now_answered) × (answer_detail p.answer ≡ c)

-- circuit c was y before turn p and is z after it
pub data Step (c : ℕ) (p : Turn) (y z : Circuit) : Type 0 where
  seizes : (asked p).kind ≡ 1 → SeizedBy c p → (asked p).reference ≡ z.holder.reference → z.ringing ≡ true → Step c p y z
  ends : (asked p).kind ≡ 7 → (asked p).reference ≡ y.holder.reference → EndedBy c p → z.holder ≡ y.holder → z.ringing ≡ false → Step c p y z
  keeps : (SeizedBy c p → ⊥) → (EndedBy c p → ⊥) → z.holder.present ≡ y.holder.present → z.holder.reference ≡ y.holder.reference → z.ringing ≡ y.ringing → Step c p y z
  leaves : z.holder.present ≡ false → Step c p y z

module _ (t : List ℕ) (p : Turn) (c : ℕ) where
  abbrev x : ℕ → Circuit
  x = circuit_at t

  abbrev n : ℕ
  n = circuits t

  abbrev e : Event
  e = asked p

  -- the answer is a: its number and its detail
  module _ (a : Answer) (is : p.answer ≡ answer_octets a) where
    number_is : answer_number p.answer ≡ a.number
    number_is = ap answer_number is

    detail_is : answer_detail p.answer ≡ a.detail
    detail_is = ap answer_detail is ∙ value-octets 1 a.detail

    not_seized : (a.number ≢ 1) → (a.number ≢ 2) → SeizedBy c p → ⊥
    not_seized f g s = ⊎_elim (λ q. f (sym number_is ∙ q)) (λ q. g (sym number_is ∙ q)) s.0

    not_ended : (a.number ≢ 9) → EndedBy c p → ⊥
    not_ended f s = f (sym number_is ∙ s.0)

    elsewhere : a.detail ≢ c → (answer_detail p.answer ≡ c) → ⊥
    elsewhere f s = f (sym detail_is ∙ s)

  -- an act on circuit i, by an answer with this number and circuit: `here` says what it is on circuit c, and another circuit is kept
  at_act : (a : Act) (i : ℕ) → (answer_of x n e (does a i)).detail ≡ i → p.answer ≡ answer_octets (answer_of x n e (does a i)) → (i ≡ c → Step c p (x c) (made e a (x c))) → Step c p (x c) (becomes e (does a i) c (x c))
  at_act a i detail is here =
      by_test (Step c p (x c)) (eqb i c) (made e a (x c)) (x c) (λ q. here (eqb-true i c q))
      (λ q.
      let other = elsewhere (answer_of x n e (does a i)) is (λ z. eqb-false i c q (sym detail ∙ z)) in
      keeps (λ s. other s.1) (λ s. other s.1) refl refl refl)

  -- an answer that says nothing of ringing
  keeps_all : (a : Answer) → p.answer ≡ answer_octets a → (a.number ≢ 1) → (a.number ≢ 2) → (a.number ≢ 9) → (z : Circuit) → z.holder.present ≡ (x c).holder.present → z.holder.reference ≡ (x c).holder.reference → z.ringing ≡ (x c).ringing → Step c p (x c) z
  keeps_all a is f g h z = keeps (not_seized a is f g) (not_ended a is h)

  at_turn : (o : Outcome) → Grounds x n e o → p.answer ≡ answer_octets (answer_of x n e o) → Step c p (x c) (becomes e o c (x c))
  unfolding answer_of
  at_turn (Err r) h is =
      let high = refusal_high r in
      keeps_all (answer_of x n e (Err r)) is (λ q. omega arith) (λ q. omega arith) (λ q. omega arith) (x c) refl refl refl
  at_turn (Ok (Do Seize i)) h is =
      at_act Seize i refl is
      (λ q.
      let lost = (x i).holder.present || (anothers e.reference (x i).reservation).present in
      seizes h.set_up_lem
      (by_test (λ (k : ℕ). answer_number p.answer ≡ k → (answer_number p.answer ≡ 1) ⊎ (answer_number p.answer ≡ 2)) lost 2 1 (λ b. inr) (λ b. inl) (number_is (answer_of x n e (does Seize i)) is), detail_is (answer_of x n e (does Seize i)) is ∙ q)
      refl refl)
  at_turn (Ok (Do Reserve i)) h is =
      let a = answer_of x n e (does Reserve i) in
      let other : (k : ℕ) → k ≢ 3 → k ≢ 4 → a.number ≢ k = λ k f g. by_test (λ (m : ℕ). m ≢ k) (x i).reservation.present 4 3 (λ b q. g (sym q)) (λ b q. f (sym q)) in
      at_act Reserve i refl is
      (λ q. keeps_all a is (other 1 (λ z. omega arith) (λ z. omega arith)) (other 2 (λ z. omega arith) (λ z. omega arith)) (other 9 (λ z. omega arith) (λ z. omega arith)) (made e Reserve (x c)) refl refl refl)
  at_turn (Ok (Do Release i)) h is = at_act Release i refl is (λ q. leaves refl)
  at_turn (Ok (Do Cancel i)) h is =
      at_act Cancel i refl is
      (λ q. keeps_all (answer_of x n e (does Cancel i)) is (λ z. omega arith) (λ z. omega arith) (λ z. omega arith) (made e Cancel (x c)) refl refl refl)
  at_turn (Ok (Do Unmark i)) h is =
      at_act Unmark i refl is
      (λ q. keeps_all (answer_of x n e (does Unmark i)) is (λ z. omega arith) (λ z. omega arith) (λ z. omega arith) (made e Unmark (x c)) refl refl refl)
  at_turn (Ok (Do Answered i)) h is =
      at_act Answered i refl is
      (λ q.
      let a = answer_of x n e (does Answered i) in
      ends h.kind (sym (stands_in_lem e.reference (x i).holder h.own).1 ∙ ap (λ (d : ℕ). (x d).holder.reference) q) (number_is a is, detail_is a is ∙ q) refl refl)
  at_turn (Ok Clock) h is =
      by_test (Step c p (x c)) (overdue e.clock (x c)) (made e Cancel (x c)) (x c) (λ q. clock (made e Cancel (x c)) refl refl refl) (λ q. clock (x c) refl refl refl)
    where
      clock : (z : Circuit) → z.holder.present ≡ (x c).holder.present → z.holder.reference ≡ (x c).holder.reference → z.ringing ≡ (x c).ringing → Step c p (x c) z
      clock = keeps_all (answer_of x n e (Ok Clock)) is (λ z. omega arith) (λ z. omega arith) (λ z. omega arith)

pub steps : (n : ℕ) (lists : List EventList) (before : List Turn) (p : Turn) (later : List Turn) → past (empty_table n) lists ≡ before ++ p ∷ later → (c : ℕ) → c < n → Step c p (history before c) (history (before ++ p ∷ []) c)
steps = each_turn Step (λ t v p c o h is. at_turn t p c o h is)
