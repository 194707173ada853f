-- The passes together: each finds the lowest repeated part of its own range, and the ranges follow each other until every stem has had its pass.
use Prim.Native.Nat.{ℕ, ◌<◌, ◌≤◌, min}
use mathlib.Core.Path.{◌≡◌, sym, ap, subst, ◌∙◌}
use mathlib.Core.Bool.{Bool, true, false, ◌&&◌}
use mathlib.Core.List.{List}
use native.Mathlib.Decide.{dec_lt}
use native.Mathlib.Omega.{arith}
use lib.Dec.{ltb}
use borrow.Author.Tests.{ltb-true, ltb-false, le-leb, lt-ltb}
use Rattle.octets.proofs.Tests.{and_both, and_right, by_so}
use Rattle.rules.specs.declared.circuit.Circuit.{Circuit}
use Rattle.std.specs.Prelude.{Option, Some, None, MatchOption, unwrap_or}
use Rattle.rules.specs.Search.{first_to, found}
use Rattle.rules.specs.Valid.{part_numbered, repeated}
use Rattle.rules.proofs.Searches.{FirstIs, first_is, first_of, first_none}
use Rattle.references.specs.Filter.{stems, stem, in_range, repeated_in}

-- ---- ranges of stems
stem_below : (r : List ℕ) → stem r < stems
unfolding stem
stem_below r = omega arith

-- r is a repeated part of m, or nothing; and of the parts before it none that has a stem below `from` is repeated
pub record Sifted (x : ℕ → Circuit) (m from : ℕ) (r : Option ℕ) : Type 0 where
  pub there : MatchOption r (Unit {0}) (λ k. (k < m) × (repeated x k ≡ true))
  pub before : (j : ℕ) → j < found r (λ k. k) m → stem (part_numbered x j).reference < from → repeated x j ≡ false

module _ (x : ℕ → Circuit) (m : ℕ) where
  module _ (from to : ℕ) where
    -- a part that is in range is not repeated where the pass finds nothing up to it
    sifted_part : {r : Option ℕ} (j : ℕ) → Sifted x m from r → j < found r (λ k. k) m → repeated_in from to x j ≡ false → stem (part_numbered x j).reference < to → repeated x j ≡ false
    sifted_part j s h p l =
        let at = stem (part_numbered x j).reference in
        by_so (ltb at from) (λ b. s.before j h (ltb-true at from b))
        (λ b.
        let ranged = and_both _ _ (le-leb from at (ltb-false at from b)) (lt-ltb at to l) in
        ap (λ (b : Bool). b && repeated x j) (sym ranged) ∙ p)

    -- what the pass finds
    abbrev Pass : Option ℕ → Type 0
    Pass = FirstIs (repeated_in from to x) m

    passed : {p : Option ℕ} → p ≡ first_to (repeated_in from to x) m → Pass p
    passed e = subst Pass (sym e) (first_is (repeated_in from to x) m)

    most : (r : Option ℕ) → MatchOption r (Unit {0}) (λ k. (k < m) × (repeated x k ≡ true)) → found r (λ k. k) m ≤ m
    most (Some k) h = omega (arith, h.0)
    most None h = omega arith

    pub sift_nothing : {p r : Option ℕ} → p ≡ first_to (repeated_in from to x) m → p ≡ None → Sifted x m from r → Sifted x m to r
    sift_nothing {r = r} e n s =
        record { there = s.there; before = λ j h l. sifted_part j s h (subst Pass n (passed e) j (omega (arith, most r s.there))) l }

    module _ {p : Option ℕ} {part : ℕ} (e : p ≡ first_to (repeated_in from to x) m) (n : p ≡ Some part) where
      its : Pass (Some part)
      its = subst Pass n (passed e)

      its_part : {r : Option ℕ} → Sifted x m from r → part ≤ found r (λ k. k) m → Sifted x m to (Some part)
      its_part s l =
          record {
            there = (its.0, and_right (in_range from to (part_numbered x part).reference) (repeated x part) its.1);
            before = λ j h. sifted_part j s (omega arith) (its.2 j h);
          }

      earlier_part : {k : ℕ} → Sifted x m from (Some k) → k ≤ part → Sifted x m to (Some k)
      earlier_part s l = record { there = s.there; before = λ j h. sifted_part j s h (its.2 j (omega arith)) }

      pub sift_part : (r : Option ℕ) → Sifted x m from r → {c : ℕ} → c ≡ min part (unwrap_or r part) → Sifted x m to (Some c)
      sift_part None s q =
          let here = its.0 in
          subst (λ (c : ℕ). Sifted x m to (Some c)) (omega (arith, q)) (its_part s (omega arith))
      sift_part (Some k) s q =
          elim (dec_lt k part) [
            | yes l ↦ subst (λ (c : ℕ). Sifted x m to (Some c)) (omega (arith, q)) (earlier_part s (omega arith))
            | no l ↦ subst (λ (c : ℕ). Sifted x m to (Some c)) (omega (arith, q)) (its_part s (omega arith))
          ]

  -- after the last pass
  pub sifted_all : (from : ℕ) → stems ≤ from → (r : Option ℕ) → Sifted x m from r → r ≡ first_to (repeated x) m
  sifted_all from l (Some k) s =
      sym (first_of (repeated x) m k s.there.0 (λ j h. s.before j h (omega (arith, stem_below (part_numbered x j).reference))) s.there.1)
  sifted_all from l None s =
      sym (first_none (repeated x) m (λ j h. s.before j h (omega (arith, stem_below (part_numbered x j).reference))))
