-- In any lawful layout, from any valid table: what the table shows after a past is what the history tells.
use Prim.Native.Nat.{ℕ, ◌<◌}
use mathlib.Core.Path.{◌≡◌, sym, ap, ap₂, ◌∙◌, subst}
use mathlib.Core.Bool.{true}
use mathlib.Core.List.{List, [], ◌∷◌}
use Rattle.rules.specs.declared.circuit.Circuit.{Circuit}
use Rattle.rules.specs.declared.answer.Answer.{Answer}
use Rattle.rules.specs.Layout.{Layout}
use Rattle.rules.specs.Valid.{valid}
use Rattle.rules.specs.Run.{after, answered, answer_record}
use Rattle.rules.proofs.Lawful.{Lawful}
use Rattle.rules.proofs.Kept.{count-after, after-valid}
use Rattle.claims.specs.History.{Turn, after_answer}
use Rattle.claims.proofs.Answers.{view_tells}
use Rattle.rules.specs.Records.{answer_number, answer_detail}

-- an answer's number and detail stand where the history reads them
pub record Legible {S : Type 0} (L : Layout S) : Type 0 where
  pub number : (a : Answer) → answer_number (L.answer_octets a) ≡ a.number
  pub detail : (a : Answer) → answer_detail (L.answer_octets a) ≡ a.detail

module _ {S : Type 0} (L : Layout S) where
  -- each event of the past, applied to the table before it, is answered as the past says; so s becomes u
  abbrev pub RanIn : S → List Turn → S → Type 0
  RanIn s [] u = s ≡ u
  RanIn s (p ∷ ps) u = (p.answer ≡ answer_record L s p.event) × RanIn (after L s p.event) ps u

  -- the history, its events read by the layout
  abbrev pub after_turn_in : Turn → ℕ → Circuit → Circuit
  after_turn_in p c y = after_answer (L.event p.event) (answer_number p.answer) (answer_detail p.answer) c y

  abbrev pub history_in : Circuit → List Turn → ℕ → Circuit
  history_in y [] c = y
  history_in y (p ∷ ps) c = history_in (after_turn_in p c y) ps c

  -- table u, after that past, is valid and shows what the history tells, where table s showed circuits y
  pub record ShownIn (s : S) (y : ℕ → Circuit) (ps : List Turn) (u : S) : Type 0 where
    pub still-valid : valid L u ≡ true
    pub count : L.count u ≡ L.count s
    pub tells : (c : ℕ) → c < L.count s → L.view u c ≡ history_in (y c) ps c

  -- what one turn tells
  pub turn-answered : Legible L → (s : S) (p : Turn) → p.answer ≡ answer_record L s p.event → (c : ℕ) (y : Circuit) → after_turn_in p c y ≡ after_answer (L.event p.event) (answered L s p.event).number (answered L s p.event).detail c y
  unfolding answer_record
  turn-answered R s p a c y =
      let e = p.event in
      ap₂ (λ (k i : ℕ). after_answer (L.event e) k i c y) (ap answer_number a ∙ R.number (answered L s e)) (ap answer_detail a ∙ R.detail (answered L s e))

  module _ (W : Lawful L) (R : Legible L) where
    view-heard : (s : S) (p : Turn) → p.answer ≡ answer_record L s p.event → valid L s ≡ true → (c : ℕ) → c < L.count s → L.view (after L s p.event) c ≡ after_turn_in p c (L.view s c)
    view-heard s p a v c l = view_tells L W s p.event v c l ∙ sym (turn-answered R s p a c (L.view s c))

    pub simulation : (ps : List Turn) (s u : S) → valid L s ≡ true → (y : ℕ → Circuit) → ((c : ℕ) → c < L.count s → L.view s c ≡ y c) → RanIn s ps u → ShownIn s y ps u
    simulation [] s u v y q h =
        record {
          still-valid = ap (valid L) (sym h) ∙ v;
          count = ap L.count (sym h);
          tells = λ c l. ap (λ (w : S). L.view w c) (sym h) ∙ q c l;
        }
    simulation (p ∷ ps) s u v y q h =
        let t = after L s p.event in
        let many : L.count t ≡ L.count s = count-after L W s p.event in
        let there : (c : ℕ) → c < L.count t → c < L.count s = λ c. subst (λ (m : ℕ). c < m) many in
        let r = simulation ps t u (after-valid L W s p.event v) (λ c. after_turn_in p c (y c)) (λ c l. view-heard s p h.0 v c (there c l) ∙ ap (after_turn_in p c) (q c (there c l))) h.1 in
        record {
          still-valid = r.still-valid;
          count = r.count ∙ many;
          tells = λ c l. r.tells c (subst (λ (m : ℕ). c < m) (sym many) l);
        }
