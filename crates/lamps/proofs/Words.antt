-- A word of lamps: how large it is, its lowest bit, its bits, and how it grows from the top lamp down.
use Prim.Native.Nat.{ℕ, zero, suc, ◌+◌, ◌-◌, ◌*◌, ◌/◌, ◌%◌, ◌^◌, ◌<◌, ◌≤◌}
use mathlib.Core.Path.{◌≡◌, refl, sym, ap, ap₂, ◌∙◌}
use mathlib.Core.Bool.{Bool, true, false, cond}
use native.Mathlib.Nat.{not-suc-le-zero, add-zero, pow-succ', le_of_eq, lt_of_le_of_lt, lt_of_lt_of_le}
use native.Mathlib.Omega.{arith}
use lib.Pow.{pow_mono}
use lib.Count.{count_trailing_zeros, under}
use Rattle.octets.specs.Bit.{bit}
use Rattle.octets.proofs.Bits.{bit_low, bit_up}
use Rattle.std.specs.Prelude.{Some}
use Rattle.rules.proofs.Searches.{FirstIs}
use Rattle.lamps.specs.Lamps.{word_from}

digit_lt : (b : Bool) → cond b 1 0 < 2
digit_lt true = omega arith
digit_lt false = omega arith

-- the lowest bit that is 1 stands above the trailing zeros
trailing_step : (k w t d : ℕ) → w % 2 ≡ d → (d ≡ 0 → FirstIs (bit (w / 2)) k (Some t)) → FirstIs (bit w) (suc k) (Some (under d t))
trailing_step k w t zero e h = let up = h refl in (omega arith, bit_up w t ∙ up.1, below up.2)
  where
    below : ((j : ℕ) → j < t → bit (w / 2) j ≡ false) → (j : ℕ) → j < suc t → bit w j ≡ false
    below up zero l = bit_low w false e
    below up (suc j) l = bit_up w j ∙ up j (omega arith)
trailing_step k w t (suc d) e h = (omega arith, bit_low w true (omega arith), λ j l. absurd (not-suc-le-zero l))

pub trailing_first : (k w : ℕ) → w < 2 ^ k → (w ≡ 0 → ⊥) → FirstIs (bit w) k (Some (count_trailing_zeros k w))
unfolding count_trailing_zeros
trailing_first zero w h z = absurd (z (omega arith))
trailing_first (suc k) w h z =
    trailing_step k w (count_trailing_zeros k (w / 2)) (w % 2) refl (λ e. trailing_first k (w / 2) (omega (arith, pow-succ' 2 k)) (λ n. z (omega arith)))

-- ---- the word of lamps f
module _ (f : ℕ → Bool) where
  -- lamp b + i stands at bit i
  pub word-bit : (b k i : ℕ) → i < k → bit (word_from f b k) i ≡ f (b + i)
  unfolding word_from
  word-bit b zero i l = absurd (not-suc-le-zero l)
  word-bit b (suc k) zero l = bit_low (cond (f b) 1 0 + 2 * word_from f (suc b) k) (f b) (omega (arith, digit_lt (f b))) ∙ ap f (sym (add-zero b))
  word-bit b (suc k) (suc i) l =
      let half : (cond (f b) 1 0 + 2 * word_from f (suc b) k) / 2 ≡ word_from f (suc b) k = omega (arith, digit_lt (f b)) in
      bit_up (cond (f b) 1 0 + 2 * word_from f (suc b) k) i ∙ ap (λ (w : ℕ). bit w i) half ∙ word-bit (suc b) k i (omega arith) ∙ ap f (omega arith)

  pub word_lt : (b k : ℕ) → word_from f b k < 2 ^ k
  unfolding word_from
  word_lt b zero = omega arith
  word_lt b (suc k) = omega (arith, pow-succ' 2 k, word_lt (suc b) k, digit_lt (f b))

  pub word-dark : (b k : ℕ) → ((j : ℕ) → b ≤ j → f j ≡ false) → word_from f b k ≡ 0
  unfolding word_from
  word-dark b zero h = refl
  word-dark b (suc k) h =
      ap₂ (λ (t : Bool) (w : ℕ). cond t 1 0 + 2 * w) (h b (omega arith)) (word-dark (suc b) k (λ j l. h j (omega arith)))

  -- one lamp more, below those that are there
  pub word_more : (b i : ℕ) {w : ℕ} → 0 < i → i ≤ 64 → w ≡ word_from f (b + i) (64 - i) → 2 * w + cond (f (b + (i - 1))) 1 0 ≡ word_from f (b + (i - 1)) (64 - (i - 1))
  unfolding word_from
  word_more b i {w} p l e =
      let here : b + i ≡ suc (b + (i - 1)) = omega arith in
      let longer : suc (64 - i) ≡ 64 - (i - 1) = omega arith in
      let above : w ≡ word_from f (suc (b + (i - 1))) (64 - i) = e ∙ ap (λ (c : ℕ). word_from f c (64 - i)) here in
      let next : 2 * w + cond (f (b + (i - 1))) 1 0 ≡ word_from f (b + (i - 1)) (suc (64 - i)) = omega arith in
      next ∙ ap (word_from f (b + (i - 1))) longer

  -- and there is room for it
  pub word_room : (b i : ℕ) {w : ℕ} → 0 < i → i ≤ 64 → w ≡ word_from f b (64 - i) → w < 9223372036854775808
  word_room b i p l e = lt_of_le_of_lt (le_of_eq e) (lt_of_lt_of_le (word_lt b (64 - i)) (pow_mono {i = 64 - i} {j = 63} (omega arith)))
