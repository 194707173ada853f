-- A call whose mark came off holds its circuit until its own release.
use Prim.Native.Nat.{ℕ, ◌<◌}
use mathlib.Core.Path.{◌≡◌, refl, sym, ap, ◌∙◌, subst}
use mathlib.Core.Logic.{⊎_elim, ◌⊎◌, inl, inr}
use mathlib.Core.Bool.{Bool, cond}
use mathlib.Core.List.{List, [], ◌∷◌, ◌++◌, append-nil}
use native.Mathlib.Omega.{arith}
use borrow.Author.Tests.{eq-eqb}
use Rattle.rules.specs.declared.part.Part.{Part}
use Rattle.rules.specs.declared.circuit.Circuit.{Circuit}
use Rattle.rules.specs.Numbers as number
use Rattle.rules.specs.Circuit.{no_precedence, without_precedence}
use Rattle.rules.specs.Run.{answered, answer_record}
use Rattle.rules.specs.Records.{circuit_at, records, circuits, answer_number, answer_detail, empty_table}
use Rattle.rules.proofs.Again.{no_service_lem, accepted_own}
use Rattle.claims.specs.History.{Turn, asked, unmarked_call, named, after_answer, after_turn, empty, history}
use Rattle.claims.specs.Lists.{EventList, table_after, past}
use Rattle.claims.specs.Demand.{StandsIn}
use Rattle.claims.specs.Accidents.{HolderGoes, released, higher_set_up, HolderStays, under_its_mark, unmarked, OwnAmong, NeverTaken}
use Rattle.claims.proofs.Plain.{stands_in_lem}
use Rattle.claims.proofs.Octets.{answer-number, answer-detail}
use Rattle.claims.proofs.Ran.{stood}
use Rattle.claims.proofs.Start.{start-valid}
use Rattle.claims.proofs.Demanded.{start-count, start-shows, history_then, ran_split}
use Rattle.claims.proofs.Holders.{no_holder_lost}
use Rattle.claims.proofs.Among.{one_on, among_one, among_more, among-before}

-- ---- what is answered by 8, over table t, is the kind 6 of the holder of the circuit that the answer names
held-there : (t : List ℕ) (p : Turn) → p.answer ≡ answer_record records t p.event → answer_number p.answer ≡ number.unmarked → let c = answer_detail p.answer in (c < circuits t) × StandsIn (asked p).reference (circuit_at t c).holder
unfolding records
held-there t p a eight =
    let r = (asked p).reference in
    let c : answer_detail p.answer ≡ (answered records t p.event).detail = ap answer_detail a ∙ answer-detail t p.event in
    let own = accepted_own no_service_lem records t p.event (sym (ap answer_number a ∙ answer-number t p.event) ∙ eight) in
    subst (λ (d : ℕ). (d < circuits t) × StandsIn r (circuit_at t d).holder) (sym c) (own.there, stands_in_lem r (circuit_at t _).holder own.own)

-- the mark comes off at a turn that is answered by 8
comes_off : (p : Turn) (y : Circuit) → answer_number p.answer ≡ number.unmarked → StandsIn (asked p).reference y.holder → (after_turn p (answer_detail p.answer) y).holder ≡ unmarked_call (asked p).reference
unfolding after_answer named
comes_off p y eight there =
    let c = answer_detail p.answer in
    ap (λ (k : ℕ). (after_answer (asked p) k c c y).holder) eight
    ∙ ap (λ (b : Bool). (cond b (named (asked p) 8 y) y).holder) (eq-eqb c c refl)
    ∙ (λ d. record { present = there.0 d; mark = no_precedence; reference = there.1 d })

-- ---- from then on
module _ (n : ℕ) (lists : List EventList) (c : ℕ) (l : c < n) (r : List ℕ) where
  -- at one turn such a holder stays, or is released
  at_turn : (before : List Turn) (p : Turn) (later : List Turn) → past (empty_table n) lists ≡ before ++ p ∷ later → (history before c).holder ≡ unmarked_call r → ((history (before ++ p ∷ []) c).holder ≡ unmarked_call r) ⊎ OwnAmong 2 number.released c r (p ∷ [])
  at_turn before p later split h =
      ⊎_elim (λ s. inl (still s)) (λ g. inr (gone g)) (no_holder_lost n lists before p later split c l (ap (λ (q : Part). q.present) h))
    where
      still : HolderStays c p (history before c) (history (before ++ p ∷ []) c) → (history (before ++ p ∷ []) c).holder ≡ unmarked_call r
      still (under_its_mark s) = s ∙ h
      still (unmarked own eight s) = s ∙ ap without_precedence h

      gone : HolderGoes c p (history before c) → OwnAmong 2 number.released c r (p ∷ [])
      gone (released own five) = among_one p own.kind (sym own.party.1 ∙ ap (λ (q : Part). q.reference) h) five own.named
      gone (higher_set_up k two taken level still) = absurd (let z = ap (λ (q : Part). q.mark.level.0) h in omega arith)

  keeps : (since before later : List Turn) → past (empty_table n) lists ≡ before ++ (since ++ later) → (history before c).holder ≡ unmarked_call r → ((history (before ++ since) c).holder ≡ unmarked_call r) ⊎ OwnAmong 2 number.released c r since
  keeps [] before later split h = inl (ap (λ (ps : List Turn). (history ps c).holder) (append-nil before) ∙ h)
  keeps (p ∷ since) before later split h =
      ⊎_elim
      (λ s.
      ⊎_elim (λ z. inl (ap (λ (ps : List Turn). (history ps c).holder) (sym (one_on before p since)) ∙ z)) (λ g. inr (among-before (p ∷ []) since g))
      (keeps since (before ++ p ∷ []) later (split ∙ sym (one_on before p (since ++ later))) s))
      (λ g. inr (among_more (p ∷ []) since g))
      (at_turn before p (since ++ later) split h)

pub never_taken : NeverTaken
never_taken n lists before p since later split eight =
    let t = empty_table n in
    let c = answer_detail p.answer in
    let s = stood p (since ++ later) (table_after t lists) before t (start-valid n) (λ d. empty) (start-shows n) (ran_split n lists (before ++ p ∷ (since ++ later)) split) in
    let h = held-there s.table p s.answer eight in
    let within : c < circuits t = let long = s.shows.as_long in omega (arith, h.0) in
    let there = subst (λ (y : Circuit). StandsIn (asked p).reference y.holder) (s.shows.tells c within) h.1 in
    ⊎_elim (λ z. inl (ap (λ (ps : List Turn). (history ps c).holder) (sym (one_on before p since)) ∙ z)) inr
    (keeps n lists c (omega (arith, within, start-count n)) (asked p).reference since (before ++ p ∷ []) later (split ∙ sym (one_on before p (since ++ later)))
    (ap (λ (y : ℕ → Circuit). (y c).holder) (history_then before p) ∙ comes_off p (history before c) eight there))
