-- The totals with something added to each: as many as before, each with what was added to it.
use Prim.Native.Nat.{ℕ, zero, suc, ◌+◌, ◌<◌}
use mathlib.Core.Path.{◌≡◌, refl, sym, ap, ap₂, ◌∙◌}
use mathlib.Core.List.{List, [], ◌∷◌}
use native.Mathlib.Nat.{not-suc-le-zero, le_of_suc-le-suc, add_assoc}
use native.Mathlib.Omega.{arith}
use lib.ListN.{length, get_or, set}
use Rattle.tally.specs.Shares.{at}
use Rattle.tally.specs.Entry.{added}
use Rattle.tally.proofs.Placed.{at_off, at_le, at_shifted}

pub length-added : (n : ℕ → ℕ) (f : List ℕ) → length (added n f) ≡ length f
length-added n [] = refl
length-added n (x ∷ f) = ap suc (length-added (λ j. n (suc j)) f)

pub added_at : (n : ℕ → ℕ) (f : List ℕ) (j : ℕ) → j < length f → get_or (added n f) j 0 ≡ get_or f j 0 + n j
added_at n [] j l = absurd (not-suc-le-zero l)
added_at n (x ∷ f) zero l = refl
added_at n (x ∷ f) (suc j) l = added_at (λ j. n (suc j)) f j (le_of_suc-le-suc l)

pub added_cong : (m n : ℕ → ℕ) (f : List ℕ) → ((j : ℕ) → m j ≡ n j) → added m f ≡ added n f
added_cong m n [] h = refl
added_cong m n (x ∷ f) h =
    ap₂ (λ (y : ℕ) (l : List ℕ). y ∷ l) (ap (λ (k : ℕ). x + k) (h 0)) (added_cong (λ j. m (suc j)) (λ j. n (suc j)) f (λ j. h (suc j)))

-- adding nothing leaves the totals
pub added_none : (n : ℕ → ℕ) (f : List ℕ) → ((j : ℕ) → n j ≡ 0) → added n f ≡ f
added_none n [] h = refl
added_none n (x ∷ f) h =
    let head : x + n 0 ≡ x = omega (arith, h 0) in
    ap₂ (λ (y : ℕ) (l : List ℕ). y ∷ l) head (added_none (λ j. n (suc j)) f (λ j. h (suc j)))

-- what is added twice is added together
pub added-added : (m n : ℕ → ℕ) (f : List ℕ) → added n (added m f) ≡ added (λ j. m j + n j) f
added-added m n [] = refl
added-added m n (x ∷ f) =
    ap₂ (λ (y : ℕ) (l : List ℕ). y ∷ l) (add_assoc x (m 0) (n 0)) (added-added (λ j. m (suc j)) (λ j. n (suc j)) f)

pub at_nothing : (p j : ℕ) → at p 0 j ≡ 0
at_nothing p j = omega (arith, at_le p 0 j)

-- writing one total with n more is adding n at its place
pub set-added : (f : List ℕ) (p n : ℕ) → set f p (get_or f p 0 + n) ≡ added (at p n) f
set-added [] p n = refl
set-added (x ∷ f) zero n = ap (λ (l : List ℕ). (x + n) ∷ l) (sym (added_none (λ j. at 0 n (suc j)) f (λ j. at_off 0 n (suc j) (λ z. omega arith))))
set-added (x ∷ f) (suc p) n =
    let head : x ≡ x + at (suc p) n 0 = omega (arith, at_off (suc p) n 0 (λ z. omega arith)) in
    let place : (j : ℕ) → 1 + j ≡ suc j = λ j. omega arith in
    let next : (j : ℕ) → at p n j ≡ at (suc p) n (suc j) = λ j. sym (at_shifted 1 p (suc p) n j (omega arith)) ∙ ap (at (suc p) n) (place j) in
    ap₂ (λ (y : ℕ) (l : List ℕ). y ∷ l) head (set-added f p n ∙ added_cong (at p n) (λ j. at (suc p) n (suc j)) f next)
