-- Decimal numbers: the fewest digits that hold a number are its decimal, how many they are, and that they say it.
use Prim.Native.Nat.{ℕ, zero, suc, ◌+◌, ◌-◌, ◌*◌, ◌/◌, ◌%◌, ◌^◌, ◌≤◌, ◌<◌}
use mathlib.Core.Path.{◌≡◌, sym, ap, ap₂, ◌∙◌}
use mathlib.Core.Bool.{Bool, cond}
use mathlib.Core.List.{List, [], ◌∷◌, ◌++◌}
use native.Mathlib.Nat.{not-suc-le-zero, pow-succ'}
use native.Mathlib.Omega.{arith}
use lib.Dec.{ltb}
use lib.ListN.{length, length-append}
use borrow.Author.Tests.{lt-ltb, le-ltb}
use Rattle.io.specs.Digits.{last_digits, hex_digit_ascii, IsDigitCount}
use Rattle.octets.proofs.Tests.{by_test}
use Rattle.lines.specs.Text.{digit, decimal_in, says, ReadBack}

one_at_least : (k : ℕ) → 1 ≤ 10 ^ k
one_at_least zero = omega arith
one_at_least (suc k) = omega (arith, pow-succ' 10 k, one_at_least k)

one_less : (k : ℕ) → 10 ^ (suc k - 1) ≡ 10 ^ k
one_less k = ap (λ (j : ℕ). 10 ^ j) (omega arith)

glyph_digit : (d : ℕ) → d < 10 → hex_digit_ascii d ∷ [] ≡ digit d
glyph_digit d h = ap (λ (b : Bool). cond b (48 + d) (87 + d) ∷ []) (lt-ltb d 10 h)

pub fewest : (w k n : ℕ) → n < 10 ^ suc w → IsDigitCount 10 1 n k → last_digits 10 k n ≡ decimal_in (suc w) n
unfolding decimal_in
fewest w zero n h f = absurd (not-suc-le-zero f.0)
fewest w (suc zero) n h f =
    let small : n < 10 = omega (arith, f.1, pow-succ' 10 0) in
    let same : n % 10 ≡ n = omega arith in
    ap (λ (d : ℕ). hex_digit_ascii d ∷ []) same ∙ glyph_digit n small ∙ sym (ap (λ (b : Bool). cond b (digit n) (decimal_in w (n / 10) ++ digit (n % 10))) (lt-ltb n 10 small))
fewest zero (suc (suc k)) n h f =
    absurd (omega (arith, f.2 (omega arith), one_less (suc k), pow-succ' 10 k, one_at_least k, pow-succ' 10 0))
fewest (suc w) (suc (suc k)) n h f =
    let large : 10 ≤ n = omega (arith, f.2 (omega arith), one_less (suc k), pow-succ' 10 k, one_at_least k) in
    let less = fewest w (suc k) (n / 10) (omega (arith, pow-succ' 10 (suc w))) (omega arith, omega (arith, f.1, pow-succ' 10 (suc k)), λ _. omega (arith, f.2 (omega arith), one_less (suc k), one_less k, pow-succ' 10 k)) in
    ap₂ (λ (a b : List ℕ). a ++ b) less (glyph_digit (n % 10) (omega arith))
    ∙ sym (ap (λ (b : Bool). cond b (digit n) (decimal_in (suc w) (n / 10) ++ digit (n % 10))) (le-ltb n 10 large))

-- a number below a power of ten has no more digits than that
pub decimal-length : (w n j : ℕ) → n < 10 ^ suc j → length (decimal_in w n) ≤ suc j
unfolding decimal_in
decimal-length zero n j h = omega arith
decimal-length (suc w) n zero h = let small : n < 10 = omega (arith, pow-succ' 10 0) in
    omega (arith, ap (λ (b : Bool). length (cond b (digit n) (decimal_in w (n / 10) ++ digit (n % 10)))) (lt-ltb n 10 small))
decimal-length (suc w) n (suc j) h =
    by_test (λ (l : List ℕ). length l ≤ suc (suc j)) (ltb n 10) (digit n) (decimal_in w (n / 10) ++ digit (n % 10)) (λ t. omega arith)
    (λ t. omega (arith, length-append (decimal_in w (n / 10)) (digit (n % 10)), decimal-length w (n / 10) j (omega (arith, pow-succ' 10 (suc j)))))

-- one digit more
says_more : (m : ℕ) (l : List ℕ) (d : ℕ) → says m (l ++ digit d) ≡ 10 * says m l + d
says_more m [] d = omega arith
says_more m (x ∷ l) d = says_more (10 * m + (x - 48)) l d

says-decimal : (w n : ℕ) → n < 10 ^ suc w → says 0 (decimal_in (suc w) n) ≡ n
unfolding decimal_in
says-decimal zero n h =
    let small : n < 10 = omega (arith, pow-succ' 10 0) in
    ap (λ (b : Bool). says 0 (cond b (digit n) (digit (n % 10)))) (lt-ltb n 10 small) ∙ omega arith
says-decimal (suc w) n h =
    by_test (λ (l : List ℕ). says 0 l ≡ n) (ltb n 10) (digit n) (decimal_in (suc w) (n / 10) ++ digit (n % 10)) (λ t. omega arith)
    (λ t. says_more 0 (decimal_in (suc w) (n / 10)) (n % 10) ∙ omega (arith, says-decimal w (n / 10) (omega (arith, pow-succ' 10 (suc w)))))

pub read_back : ReadBack
read_back = says-decimal 19
