-- Where a lamp stands in the drawing.
use Prim.Native.Nat.{ℕ, zero, suc, ◌+◌, ◌*◌, ◌<◌}
use mathlib.Core.Path.{◌≡◌, refl, sym, ap, ◌∙◌}
use mathlib.Core.Bool.{Bool, true, false}
use mathlib.Core.List.{List, ◌++◌}
use native.Mathlib.Nat.{not-suc-le-zero}
use native.Mathlib.Omega.{arith}
use lib.ListN.{length, get_or, length-append, get_or-append}
use lib.Seq.{get_or-append-add}
use Rattle.octets.proofs.Spans.{grow}
use Rattle.std.specs.Prelude.{Option}
use Rattle.octets.specs.Bit.{bit}
use Rattle.lines.specs.Text.{letters}
use Rattle.lines.specs.Panel.{lamp, lamps_to, row, rows_to, last_line, drawing}

-- after a text of n letters stands the next text
after : (l m : List ℕ) (n i : ℕ) → length l ≡ n → get_or (l ++ m) (n + i) 0 ≡ get_or m i 0
after l m n i e = ap (λ (k : ℕ). get_or (l ++ m) (k + i) 0) (sym e) ∙ get_or-append-add l m i 0

one-letter : (on : Bool) → length (lamp on) ≡ 1
one-letter true = refl
one-letter false = refl

module _ (w : ℕ) where
  lamps-length : (n : ℕ) → length (lamps_to w n) ≡ n
  lamps-length zero = refl
  lamps-length (suc n) = simp length-append (omega (arith, lamps-length n, one-letter))

  lamps_at : (n i : ℕ) → i < n → get_or (lamps_to w n) i 0 ≡ get_or (lamp (bit w i)) 0 0
  lamps_at zero i l = absurd (not-suc-le-zero l)
  lamps_at (suc n) i l =
      let place : n ≡ n + 0 = omega arith in
      grow (λ (k : ℕ). get_or (lamps_to w (suc n)) k 0 ≡ get_or (lamp (bit w k)) 0 0) n
      (λ k h. get_or-append (lamps_to w n) (lamp (bit w n)) 0 k (omega (arith, lamps-length n)) ∙ lamps_at n k h)
      (ap (λ (k : ℕ). get_or (lamps_to w (suc n)) k 0) place ∙ after (lamps_to w n) (lamp (bit w n)) n 0 (lamps-length n)) i l

  row-length : length (row w) ≡ 65
  unfolding row
  row-length = omega (arith, length-append (lamps_to w 64) (letters "\n"), lamps-length 64)

  row_at : (i : ℕ) → i < 64 → get_or (row w) i 0 ≡ get_or (lamp (bit w i)) 0 0
  unfolding row
  row_at i l = get_or-append (lamps_to w 64) (letters "\n") 0 i (omega (arith, lamps-length 64)) ∙ lamps_at 64 i l

module _ (words : List ℕ) where
  pub rows-length : (n : ℕ) → length (rows_to words n) ≡ 65 * n
  rows-length zero = refl
  rows-length (suc n) = omega (arith, length-append (rows_to words n) (row (get_or words n 0)), rows-length n, row-length (get_or words n 0))

  rows_at : (i : ℕ) → i < 65 → (n j : ℕ) → j < n → get_or (rows_to words n) (65 * j + i) 0 ≡ get_or (row (get_or words j 0)) i 0
  rows_at i h zero j l = absurd (not-suc-le-zero l)
  rows_at i h (suc n) j l =
      grow (λ (k : ℕ). get_or (rows_to words (suc n)) (65 * k + i) 0 ≡ get_or (row (get_or words k 0)) i 0) n
      (λ k m. get_or-append (rows_to words n) (row (get_or words n 0)) 0 (65 * k + i) (omega (arith, rows-length n)) ∙ rows_at i h n k m)
      (after (rows_to words n) (row (get_or words n 0)) (65 * n) i (rows-length n)) j l

  -- lamp i of row j
  pub drawn_at : (lit : ℕ) (first : Option ℕ) (j i : ℕ) → j < 4 → i < 64 → get_or (drawing words lit first) (65 * j + i) 0 ≡ get_or (lamp (bit (get_or words j 0) i)) 0 0
  unfolding drawing
  drawn_at lit first j i l h =
      get_or-append (rows_to words 4) (last_line lit first) 0 (65 * j + i) (omega (arith, rows-length 4)) ∙ rows_at i (omega arith) 4 j l
      ∙ row_at (get_or words j 0) i h
