-- One total after another gets its 1: what was added before leaves room at every other place.
use Prim.Native.Nat.{ℕ, ◌+◌, ◌<◌, ◌≤◌}
use mathlib.Core.Path.{◌≡◌, refl, sym, ap, ◌∙◌, subst}
use mathlib.Core.Bool.{Bool, true, false}
use mathlib.Core.List.{List}
use native.Mathlib.Omega.{arith}
use mir.Val.{bool_byte}
use Rattle.octets.proofs.Tests.{by_so}
use Rattle.tally.specs.Places as place
use Rattle.tally.specs.Shares.{at, one}
use Rattle.tally.specs.Entry.{added}
use Rattle.tally.specs.Room.{HasPlace, HasRoomFor}
use Rattle.tally.proofs.Placed.{at_off, one-most}
use Rattle.tally.proofs.Added.{length-added, added_at, added-added, at_nothing}

pub has-place : (w : ℕ) {f : List ℕ} → HasRoomFor w f → (p : ℕ) → p < place.figures → HasPlace w f p
has-place w {f} h p l = (omega (arith, h.all), h.room p l)

-- g is what m makes of the totals f
module _ (f : List ℕ) {g : List ℕ} (m : ℕ → ℕ) (before : g ≡ added m f) where
  -- and k is what n makes of g
  pub and_then : {k : List ℕ} (n : ℕ → ℕ) → k ≡ added n g → k ≡ added (λ j. m j + n j) f
  and_then n e = e ∙ ap (added n) before ∙ added-added m n f

  -- a place at which nothing was added has the room that it had
  pub still-place : (w p : ℕ) → HasPlace w f p → m p ≡ 0 → HasPlace w g p
  still-place w p h z =
      subst (λ (k : List ℕ). HasPlace w k p) (sym before) (omega (arith, length-added m f), omega (arith, added_at m f p h.0))

-- a test as a number
is_one : (b : Bool) → bool_byte b ≡ one b
is_one true = refl
is_one false = refl

-- where n is a test as a number, adding n is adding 1 where the test holds, and asks no more room than adding 1
module _ {n : ℕ} (b : Bool) (is : n ≡ bool_byte b) (p : ℕ) where
  pub added_if : (f : List ℕ) {g : List ℕ} → g ≡ added (at p n) f → g ≡ added (at p (one b)) f
  added_if f e = e ∙ ap (λ (m : ℕ). added (at p m) f) (is ∙ is_one b)

  pub place_if : (f : List ℕ) → HasPlace 1 f p → HasPlace n f p
  place_if f h = (h.0, omega (arith, h.1, one-most b, is, is_one b))

-- an event is added to the totals f at five places: seizure, release and loss, the loss by its levels, and the number k
module _ (f : List ℕ) (h : HasRoomFor 1 f) (seizure release lost : Bool) where
  abbrev first : ℕ → ℕ
  first j = at place.seized (one seizure) j

  abbrev second : ℕ → ℕ
  second j = first j + at place.released (one release) j

  abbrev pub third : ℕ → ℕ
  third j = second j + at place.lost (one lost) j

  module _ {f₁ : List ℕ} (e₁ : f₁ ≡ added (at place.seized (one seizure)) f) where
    pub released-place : HasPlace 1 f₁ place.released
    released-place = still-place f first e₁ 1 3 (has-place 1 h 3 (omega arith)) (at_off 2 (one seizure) 3 (λ z. omega arith))

    module _ {f₂ : List ℕ} (e₂ : f₂ ≡ added (at place.released (one release)) f₁) where
      pub lost-place : HasPlace 1 f₂ place.lost
      lost-place =
          still-place f second (and_then f first e₁ (at 3 (one release)) e₂) 1 4 (has-place 1 h 4 (omega arith))
          (omega (arith, at_off 2 (one seizure) 4 (λ z. omega arith), at_off 3 (one release) 4 (λ z. omega arith)))

      pub low_added : {f₃ : List ℕ} → f₃ ≡ added (at place.lost (one lost)) f₂ → f₃ ≡ added third f
      low_added e₃ = and_then f second (and_then f first e₁ (at 3 (one release)) e₂) (at 4 (one lost)) e₃

  -- the three low places leave the others as they were
  third_off : (p : ℕ) → 6 ≤ p → third p ≡ 0
  third_off p l =
      omega (arith, at_off 2 (one seizure) p (λ z. omega arith), at_off 3 (one release) p (λ z. omega arith), at_off 4 (one lost) p (λ z. omega arith))

  module _ {f₃ : List ℕ} (e₃ : f₃ ≡ added third f) (levels k : ℕ) (from : 6 ≤ levels) (below : lost ≡ true → levels < 31) where
    pub levels-place : lost ≡ true → HasPlace 1 f₃ levels
    levels-place t = let l = below t in still-place f third e₃ 1 levels (has-place 1 h levels (omega arith)) (third_off levels from)

    -- where nobody was lost, nothing is added by the levels
    levels_off : at levels (one lost) (place.answered k) ≡ 0
    levels_off =
        by_so lost (λ t. let l = below t in at_off levels (one lost) (place.answered k) (λ z. omega arith))
        (λ t. ap (λ (b : Bool). at levels (one b) (place.answered k)) t ∙ at_nothing levels (place.answered k))

    pub number-place : k < 64 → {f₄ : List ℕ} → f₄ ≡ added (at levels (one lost)) f₃ → HasPlace 1 f₄ (place.answered k)
    number-place l e₄ =
        still-place f (λ j. third j + at levels (one lost) j) (and_then f third e₃ (at levels (one lost)) e₄) 1 (place.answered k) (has-place 1 h (place.answered k) (omega arith))
        (omega (arith, third_off (place.answered k) (omega arith), levels_off))

    pub all_added : {f₄ f₅ : List ℕ} → f₄ ≡ added (at levels (one lost)) f₃ → f₅ ≡ added (at (place.answered k) 1) f₄ → f₅ ≡ added (λ j. third j + at levels (one lost) j + at (place.answered k) 1 j) f
    all_added e₄ e₅ = and_then f (λ j. third j + at levels (one lost) j) (and_then f third e₃ (at levels (one lost)) e₄) (at (place.answered k) 1) e₅
