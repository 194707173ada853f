-- The lowest lit lamp is the circuit that a search takes, and as many lamps are lit as circuits are free.
use Prim.Native.Nat.{ℕ, zero, suc, ◌+◌, ◌-◌, ◌*◌, ◌/◌, ◌%◌, ◌<◌, ◌≤◌}
use mathlib.Core.Path.{◌≡◌, refl, sym, ap, ◌∙◌, subst}
use mathlib.Core.Logic.{◌↔◌}
use mathlib.Core.Bool.{Bool, false, cond}
use mathlib.Core.List.{List}
use native.Mathlib.Nat.{add-zero, add-suc}
use native.Mathlib.Omega.{arith}
use lib.ListN.{get_or}
use Rattle.rules.specs.declared.mark.Mark.{Mark}
use Rattle.rules.specs.declared.circuit.Circuit.{Circuit}
use Rattle.std.specs.Prelude.{Option, Some, None}
use Rattle.rules.specs.Search.{count_to, or_else, first_to, best_to}
use Rattle.octets.specs.Bit.{bit}
use Rattle.rules.specs.Circuit.{free, rank}
use Rattle.rules.specs.Choice.{choice}
use Rattle.rules.specs.Records.{circuit_at, circuits}
use Rattle.rules.proofs.Searches.{FirstIs, first_is, or_nothing, first_none, first_cong}
use Rattle.lamps.specs.Lamps.{lit, word, four_words, lamp_in, number_in, lowest_in, lit_map}
use Rattle.lamps.proofs.Words.{word-bit}
use Rattle.lamps.proofs.Counts.{count_cong}
use Rattle.lamps.proofs.Lit.{lit_below, lit-past}
use Rattle.lamps.proofs.Shown.{lamp_in_lem}

word_of : (f : ℕ → Bool) (j : ℕ) → j < 4 → get_or (four_words f) j 0 ≡ word f j
word_of f zero h = refl
word_of f (suc zero) h = refl
word_of f (suc (suc zero)) h = refl
word_of f (suc (suc (suc zero))) h = refl
word_of f (suc (suc (suc (suc j)))) h = absurd (omega arith)

-- the words show the lamps that they were made of
pub lamp-shown : (f : ℕ → Bool) (c : ℕ) → c < 256 → lamp_in (four_words f) c ≡ f c
lamp-shown f c h =
    let j = c / 64 in
    let i = c % 64 in
    let here : c ≡ 64 * j + i = omega arith in
    let small : i < 64 = omega arith in
    ap (lamp_in (four_words f)) here ∙ lamp_in_lem (four_words f) j i small ∙ ap (λ (w : ℕ). bit w i) (word_of f j (omega arith)) ∙ word-bit f (64 * j) 64 i small ∙ ap f (sym here)

-- what goes over the lamps one by one, and passes a dark one by, goes over the circuits that are free
module _ {A : Type 0} (over : (ℕ → Bool) → ℕ → A)
    (cong : (f g : ℕ → Bool) (n : ℕ) → ((j : ℕ) → j < n → f j ≡ g j) → over f n ≡ over g n)
    (pass : (f : ℕ → Bool) (j : ℕ) → f j ≡ false → over f (suc j) ≡ over f j) where
  dark-past : (f : ℕ → Bool) (n : ℕ) → ((j : ℕ) → n ≤ j → f j ≡ false) → (k : ℕ) → over f (n + k) ≡ over f n
  dark-past f n h zero = ap (over f) (add-zero n)
  dark-past f n h (suc k) = ap (over f) (add-suc n k) ∙ pass f (n + k) (h (n + k) (omega arith)) ∙ dark-past f n h k

  over-free : (x : ℕ → Circuit) (n : ℕ) → n ≤ 256 → over (lamp_in (four_words (lit x n))) 256 ≡ over (λ i. free (x i)) n
  over-free x n h =
      let all : 256 ≡ n + (256 - n) = omega arith in
      cong (lamp_in (four_words (lit x n))) (lit x n) 256 (lamp-shown (lit x n))
      ∙ ap (over (lit x n)) all
      ∙ dark-past (lit x n) n (lit-past x n) (256 - n)
      ∙ cong (lit x n) (λ i. free (x i)) n (lit_below x n)

module _ (x : ℕ → Circuit) (n : ℕ) (fits : n ≤ 256) where
  -- as many lamps are lit as circuits are free
  pub number-lit : number_in (four_words (lit x n)) ≡ count_to (λ i. free (x i)) n
  unfolding number_in
  number-lit = over-free count_to count_cong (λ f j h. ap (λ (b : Bool). count_to f j + cond b 1 0) h ∙ add-zero (count_to f j)) x n fits

  -- the lowest lit lamp is the lowest free circuit
  pub lowest-lit : lowest_in (four_words (lit x n)) ≡ first_to (λ i. free (x i)) n
  unfolding lowest_in
  lowest-lit =
      over-free first_to first_cong (λ f j h. ap (λ (b : Bool). or_else (first_to f j) (cond b (Some j) None)) h ∙ or_nothing (first_to f j)) x n fits

  -- it is the circuit that a search takes, whatever the call's mark
  pub lowest-taken : (m : Mark) (i : ℕ) → lowest_in (four_words (lit x n)) ≡ Some i → choice x n m ≡ Some i
  unfolding choice
  lowest-taken m i e = ap (λ (r : Option ℕ). or_else r (best_to (λ j. rank m (x j)) n)) (sym lowest-lit ∙ e)

  -- there is none exactly if no circuit is free
  pub lowest-none : (lowest_in (four_words (lit x n)) ≡ None) ↔ ((i : ℕ) → i < n → free (x i) ≡ false)
  lowest-none = (
    λ e. subst (FirstIs (λ i. free (x i)) n) (sym lowest-lit ∙ e) (first_is (λ i. free (x i)) n),
    λ h. lowest-lit ∙ first_none (λ i. free (x i)) n h,
  )

-- all this of a table's octets
module _ (t : List ℕ) (fits : circuits t ≤ 256) where
  pub table-number : number_in (lit_map t).words ≡ (lit_map t).lit
  table-number = number-lit (circuit_at t) (circuits t) fits

  pub table-lowest : lowest_in (lit_map t).words ≡ first_to (λ i. free (circuit_at t i)) (circuits t)
  table-lowest = lowest-lit (circuit_at t) (circuits t) fits

  pub table_taken : (m : Mark) (i : ℕ) → lowest_in (lit_map t).words ≡ Some i → choice (circuit_at t) (circuits t) m ≡ Some i
  table_taken = lowest-taken (circuit_at t) (circuits t) fits

  pub table_none : (lowest_in (lit_map t).words ≡ None) ↔ ((i : ℕ) → i < circuits t → free (circuit_at t i) ≡ false)
  table_none = lowest-none (circuit_at t) (circuits t) fits
