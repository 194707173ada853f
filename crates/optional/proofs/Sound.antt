-- What is known of a parameter that may be written.
use Prim.Native.Nat.{ℕ, ◌≤◌}
use mathlib.Core.Path.{◌≡◌, refl, sym, ap, ◌∙◌}
use mathlib.Core.Bool.{Bool, true, ◌||◌, not}
use mathlib.Core.List.{List}
use native.Mathlib.Omega.{arith}
use lib.ListN.{length}
use lib.Dec.{eqb, leb}
use borrow.Author.Tests.{eqb-true, eqb-false, eq-eqb, leb-true, not-true}
use Rattle.octets.proofs.Tests.{by_so, if_false, and_left, and_right}
use Rattle.fields.specs.Precedence.{refused, read_precedence}
use Rattle.optional.specs.List.{Item}
use Rattle.optional.specs.Write.{sound}

-- precedence that can be read has six octets
pub six : (c : List ℕ) → (read_precedence c).number ≡ 0 → length c ≡ 6
unfolding read_precedence
six c h =
    by_so (eqb (length c) 6) (λ t. eqb-true (length c) 6 t)
    (λ f. let r : refused 20 ≡ read_precedence c = if_false _ _ (eqb (length c) 6) refl f refl in
    absurd (twenty ((λ i. (r i).number) ∙ h)))
  where
    twenty : ◌≡◌ {A = ℕ} 20 0 → ⊥
    twenty e = omega (arith, e)

module _ (i : Item) (s : sound i ≡ true) where
  pub named : i.name ≡ 0 → ⊥
  named = eqb-false i.name 0 (not-true (eqb i.name 0) (and_left (not (eqb i.name 0)) _ s))

  pub short : length i.contents ≤ 255
  short =
      let n = length i.contents in
      leb-true n 255 (and_left (leb n 255) _ (and_right (not (eqb i.name 0)) _ s))

  pub read_well : i.name ≡ 58 → (read_precedence i.contents).number ≡ 0
  read_well e =
      let well = eqb (read_precedence i.contents).number 0 in
      let so = and_right (leb (length i.contents) 255) _ (and_right (not (eqb i.name 0)) _ s) in
      eqb-true (read_precedence i.contents).number 0 (sym (ap (λ (b : Bool). not b || well) (eq-eqb i.name 58 e)) ∙ so)

  pub has_six : i.name ≡ 58 → length i.contents ≡ 6
  has_six e = six i.contents (read_well e)
