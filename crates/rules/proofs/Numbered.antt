-- What has an even or an odd number.
use Rattle.std.proofs.Common.{◌≡◌, ℕ, ◌+◌, ◌*◌, ◌/◌, ◌%◌, ◌<◌, cond, eqb, sym, ap, ◌∙◌, add-zero, arith}
use Rattle.rules.specs.Valid.{numbered}

module _ {A : Type 0} (f g : ℕ → A) (i : ℕ) where
  pub by_side : (s : ℕ) → s < 2 → numbered f g (2 * i + s) ≡ cond (eqb s 0) (f i) (g i)
  by_side s l =
      let half : (2 * i + s) / 2 ≡ i = omega arith in
      let side : (2 * i + s) % 2 ≡ s = omega arith in
      λ d. cond (eqb (side d) 0) (f (half d)) (g (half d))

  pub odd : numbered f g (2 * i + 1) ≡ g i
  odd = by_side 1 (omega arith)

  pub even : numbered f g (2 * i) ≡ f i
  even = ap (numbered f g) (sym (add-zero (2 * i))) ∙ by_side 0 (omega arith)
