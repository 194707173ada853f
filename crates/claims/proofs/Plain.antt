-- What the tests of the rules, and the choice, say in plain words.
use Prim.Native.Nat.{ℕ, ◌<◌}
use mathlib.Core.Path.{◌≡◌, sym, ap, ◌∙◌, subst}
use mathlib.Core.Logic.{⊎_elim, ◌≢◌, ◌⊎◌, inl, inr}
use mathlib.Core.Bool.{Bool, true, false, ◌&&◌, not, true≢false}
use mathlib.Core.List.{List}
use native.Mathlib.Omega.{arith}
use lib.Dec.{ltb}
use borrow.Author.Tests.{not-true, leb-true, le-leb, ltb-true, lt-ltb}
use Rattle.octets.specs.Same.{same}
use Rattle.octets.proofs.Tests.{and_left, and_right, and_both, halves, not_so}
use Rattle.octets.proofs.Sames.{same_true, same_refl}
use Rattle.rules.specs.declared.mark.Mark.{Mark}
use Rattle.rules.specs.declared.part.Part.{Part}
use Rattle.rules.specs.declared.circuit.Circuit.{Circuit}
use Rattle.std.specs.Prelude.{Some, None}
use Rattle.rules.specs.Fields.{level_ok}
use Rattle.rules.specs.Circuit.{is_of, standing, free, outranks, preemptable, takeable}
use Rattle.rules.proofs.Sound.{if_present_lem, present_so}
use Rattle.rules.proofs.Choice.{ChoiceIs, Rather as RatherTaken}
use Rattle.claims.specs.Chosen.{Free, Lower, Rather, lower-precedence, no_holder, lower-number, NoneFree, NoneLower, FirstFree, Lowest}
use Rattle.claims.specs.Demand.{StandsIn}

-- ---- a call in a part
module _ (r : List ℕ) (p : Part) where
  pub stands_in_lem : is_of r p ≡ true → StandsIn r p
  stands_in_lem h = (and_left p.present (same p.reference r) h, same_true p.reference r (and_right p.present (same p.reference r) h))

  pub so_in : StandsIn r p → is_of r p ≡ true
  so_in h = (λ d. h.0 d && same (h.1 d) r) ∙ same_refl r

  pub not_in : (StandsIn r p → ⊥) → is_of r p ≡ false
  not_in f = not_so (is_of r p) (λ h. f (stands_in_lem h))

-- ---- a circuit
module _ (y : Circuit) where
  pub free_so : free y ≡ true → Free y
  free_so h =
      let a = y.holder.present in
      let b = y.reservation.present in
      (not-true a (and_left (not a) (not b) h), not-true b (and_right (not a) (not b) h))

  so_free : Free y → free y ≡ true
  so_free h = λ d. not (h.0 d) && not (h.1 d)

  not_free : free y ≡ false → Free y → ⊥
  not_free h f = true≢false (sym (so_free f) ∙ h)

-- ---- two marks
abbrev pub Above : Mark → Mark → Type 0  -- strictly higher in the same domain
Above a b = (a.domain ≡ b.domain) × (a.level.0 < b.level.0)

module _ (a b : Mark) where
  abbrev domains : Bool
  domains = same a.domain b.domain

  abbrev levels : Bool
  levels = ltb a.level.0 b.level.0

  pub above_so : outranks a b ≡ true → Above a b
  above_so h = (same_true a.domain b.domain (and_left domains levels h), ltb-true a.level.0 b.level.0 (and_right domains levels h))

module _ (m : Mark) (y : Circuit) where
  abbrev holder-level : Bool  -- the holder's level is 0 to 4
  holder-level = level_ok y.holder.mark.level.0

  abbrev yielding : Bool  -- and the holder does not ring
  yielding = holder-level && not y.ringing

  so_lower : Lower m y → takeable m y ≡ true
  unfolding takeable
  so_lower h =
      and_both (not (free y)) (preemptable y && outranks m (standing y)) (ap not (not_so (free y) (λ f. h.occupied (free_so y f))))
      (and_both (preemptable y) (outranks m (standing y)) (if_present_lem y.holder yielding (λ q. and_both holder-level (not y.ringing) (le-leb y.holder.mark.level.0 4 (h.preemptable q)) (ap not (h.answered q))))
      (and_both (domains m (standing y)) (levels m (standing y)) (ap (same m.domain) h.domain ∙ same_refl m.domain) (lt-ltb m.level.0 (standing y).level.0 h.level)))

  pub lower_so : takeable m y ≡ true → Lower m y
  unfolding takeable
  lower_so h =
      let taken = halves h in
      let yields = halves taken.1 in
      let o = above_so m (standing y) yields.1 in
      record {
        occupied = not_free y (not-true (free y) taken.0);
        preemptable = λ q. leb-true y.holder.mark.level.0 4 (and_left holder-level (not y.ringing) (present_so y.holder yielding yields.0 q));
        answered = λ q. not-true y.ringing (and_right holder-level (not y.ringing) (present_so y.holder yielding yields.0 q));
        domain = sym o.0;
        level = o.1;
      }

  not_lower : takeable m y ≡ false → Lower m y → ⊥
  not_lower h l = true≢false (sym (so_lower l) ∙ h)

rather : (y z : Circuit) (i j : ℕ) → j ≢ i → RatherTaken y i z j → Rather i y j z
rather y z i j ne (inl l) = lower-precedence l
rather y z i j ne (inr h) =
    ⊎_elim (λ b. no_holder h.0 b.0 b.1) (λ b. let l = b.1 in lower-number h.0 b.0 (omega arith)) h.1

-- ---- the choice, made over circuits x that show themselves as y
module _ (x y : ℕ → Circuit) (n : ℕ) (q : (c : ℕ) → c < n → x c ≡ y c) (m : Mark) where
  pub none-chosen : ChoiceIs x n m None → NoneFree y n × NoneLower y n m
  none-chosen h = (
    λ c l f. not_free (x c) (h c l).0 (subst Free (sym (q c l)) f),
    λ c l f. not_lower m (x c) (h c l).1 (subst (Lower m) (sym (q c l)) f),
  )

  pub one-chosen : (i : ℕ) → ChoiceIs x n m (Some i) → FirstFree y n i ⊎ Lowest y n m i
  one-chosen i h = ⊎_elim (λ f. inl (free_one f)) (λ f. inr (lowest-one f)) h.1
    where
      here : i < n
      here = h.0

      free_one : (free (x i) ≡ true) × ((j : ℕ) → j < i → free (x j) ≡ false) → FirstFree y n i
      free_one f =
          record {
            there = here;
            free = subst Free (q i here) (free_so (x i) f.0);
            first = λ j l g. not_free (x j) (f.1 j l) (subst Free (sym (q j (omega arith))) g);
          }

      lowest-one : ((j : ℕ) → j < n → free (x j) ≡ false) × (takeable m (x i) ≡ true) × ((j : ℕ) → j < n → takeable m (x j) ≡ true → RatherTaken (x i) i (x j) j) → Lowest y n m i
      lowest-one f =
          record {
            there = here;
            none_free = λ c l g. not_free (x c) (f.0 c l) (subst Free (sym (q c l)) g);
            lower = subst (Lower m) (q i here) (lower_so m (x i) f.1);
            rather =
                λ j l ne g.
                subst (λ (z : Circuit). Rather i z j (y j)) (q i here)
                (subst (λ (z : Circuit). Rather i (x i) j z) (q j l)
                (rather (x i) (x j) i j ne (f.2 j l (so_lower m (x j) (subst (Lower m) (sym (q j l)) g)))));
          }

-- not both
pub chosen_not_none : (y : ℕ → Circuit) (n : ℕ) (m : Mark) (i : ℕ) → FirstFree y n i ⊎ Lowest y n m i → NoneFree y n × NoneLower y n m → ⊥
chosen_not_none y n m i (inl f) g = g.0 i f.there f.free
chosen_not_none y n m i (inr f) g = g.1 i f.there f.lower
