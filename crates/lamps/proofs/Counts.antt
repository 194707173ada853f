-- How many of the numbers below n have f: in two runs, by another test that agrees, and by the bits of a word.
use Prim.Native.Nat.{ℕ, zero, suc, ◌+◌, ◌/◌, ◌%◌, ◌^◌, ◌<◌}
use mathlib.Core.Path.{◌≡◌, refl, sym, ap, ap₂, ◌∙◌}
use mathlib.Core.Bool.{Bool, true, false, cond}
use native.Mathlib.Nat.{add-zero, add-suc, add_assoc, suc-add, zero-add, pow-succ'}
use native.Mathlib.Omega.{arith}
use lib.Count.{ones, ones_in, ones_step}
use Rattle.rules.specs.Search.{count_to}
use Rattle.octets.specs.Bit.{bit}
use Rattle.octets.proofs.Bits.{bit_low, bit_up}

pub count_cong : (f g : ℕ → Bool) (n : ℕ) → ((j : ℕ) → j < n → f j ≡ g j) → count_to f n ≡ count_to g n
count_cong f g zero h = refl
count_cong f g (suc n) h =
    ap₂ (λ (m : ℕ) (b : Bool). m + cond b 1 0) (count_cong f g n (λ j l. h j (omega arith))) (h n (omega arith))

-- the first m, and the k after them
pub count-split : (f : ℕ → Bool) (m k : ℕ) → count_to f (m + k) ≡ count_to f m + count_to (λ i. f (m + i)) k
count-split f m zero = ap (count_to f) (add-zero m) ∙ sym (add-zero (count_to f m))
count-split f m (suc k) =
    ap (count_to f) (add-suc m k)
    ∙ ap (λ (s : ℕ). s + cond (f (m + k)) 1 0) (count-split f m k)
    ∙ add_assoc (count_to f m) (count_to (λ i. f (m + i)) k) (cond (f (m + k)) 1 0)

digit_low : (d : ℕ) → d < 2 → (b : Bool) × (d ≡ cond b 1 0)
digit_low zero h = (false, refl)
digit_low (suc zero) h = (true, refl)
digit_low (suc (suc d)) h = absurd (omega arith)

ones-zero : ones 0 ≡ 0
unfolding ones ones_in
ones-zero = refl

-- the ones of a word are its bits that are 1
pub ones-count : (k w : ℕ) → w < 2 ^ k → ones w ≡ count_to (bit w) k
ones-count zero w h = let none : w ≡ 0 = omega arith in ap ones none ∙ ones-zero
ones-count (suc k) w h =
    let low = digit_low (w % 2) (omega arith) in
    let first : w % 2 ≡ count_to (bit w) 1 = low.1 ∙ ap (λ (b : Bool). cond b 1 0) (sym (bit_low w low.0 low.1)) ∙ sym (zero-add _) in
    let rest : ones (w / 2) ≡ count_to (λ i. bit w (1 + i)) k = ones-count k (w / 2) (omega (arith, pow-succ' 2 k)) ∙ sym (count_cong (λ i. bit w (1 + i)) (bit (w / 2)) k (λ i l. ap (bit w) (suc-add 0 i ∙ ap suc (zero-add i)) ∙ bit_up w i)) in
    ones_step w ∙ ap₂ (λ (a b : ℕ). a + b) first rest ∙ sym (count-split (bit w) 1 k) ∙ ap (count_to (bit w)) (suc-add 0 k ∙ ap suc (zero-add k))
