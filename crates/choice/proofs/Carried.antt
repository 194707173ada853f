-- What is carried along a route is the best circuit passed, and its rank.
use Prim.Native.Nat.{ℕ, ◌+◌, ◌<◌, ◌≤◌}
use mathlib.Core.Path.{◌≡◌, refl, sym, ap, ◌∙◌, subst}
use mathlib.Core.Bool.{Bool, true, false, cond}
use native.Mathlib.Numerals.{add-one}
use native.Mathlib.Omega.{arith}
use lib.Dec.{ltb}
use borrow.Author.Tests.{lt-ltb, le-ltb, ltb-true, ltb-false}
use Rattle.std.specs.Prelude.{Option, Some, None}
use Rattle.octets.proofs.Tests.{by_test}
use Rattle.std.proofs.Common.{below_more}
use Rattle.rules.specs.declared.mark.Mark.{Mark}
use Rattle.rules.specs.declared.circuit.Circuit.{Circuit}
use Rattle.rules.specs.Search.{or_else, first_to, better, best_to, found}
use Rattle.rules.specs.Circuit.{free, rank}
use Rattle.rules.specs.Choice.{choice}
use Rattle.choice.specs.declared.Glance.{Glance}
use Rattle.choice.specs.declared.Glance.TheVariants.{Free, Better, NoBetter}
use Rattle.choice.specs.Glance.{above, glanced}
use Rattle.choice.proofs.Walk.{Passed, returned, ended}

-- what a glance tells holds of the circuit
module _ (top : ℕ) (is_free : Bool) (k : ℕ) where
  abbrev pub Told : Glance → Type 0
  Told Free = is_free ≡ true
  Told (Better j) = (is_free ≡ false) × (top < k) × (j ≡ k)
  Told NoBetter = (is_free ≡ false) × (k ≤ top)

  pub told : {g : Glance} → g ≡ glanced top is_free k → Told g
  told e =
      subst Told (sym e)
      (by_test Told is_free Free (above top k) (λ f. f)
      (λ f. by_test Told (ltb top k) (Better k) NoBetter (λ t. (f, ltb-true top k t, refl)) (λ t. (f, ltb-false top k t))))

abbrev pub frees : (ℕ → Circuit) → ℕ → Bool  -- whether each circuit is free
frees x j = free (x j)

abbrev pub ranks : (ℕ → Circuit) → Mark → ℕ → ℕ  -- the rank of each circuit for a call with this mark
ranks x by j = rank by (x j)

-- of the circuits below n none is free, the best is r, and its rank is `top`
pub record Passing (x : ℕ → Circuit) (by : Mark) (r : Option ℕ) (top n : ℕ) : Type 0 where
  pub none_free : Passed (frees x) n
  pub best : r ≡ best_to (ranks x by) n
  pub greatest : top ≡ found r (ranks x by) 0

module _ (x : ℕ → Circuit) (by : Mark) where
  module _ {r : Option ℕ} {top i : ℕ} (before : Passing x by r top i) where
    -- what the rank of circuit i makes of the best so far
    above_it : (s : Option ℕ) → found s (ranks x by) 0 < ranks x by i → better (ranks x by) s i ≡ Some i
    above_it (Some j) l = ap (λ (b : Bool). cond b (Some i) (Some j)) (lt-ltb (ranks x by j) (ranks x by i) l)
    above_it None l = ap (λ (b : Bool). cond b (Some i) None) (lt-ltb 0 (ranks x by i) l)

    below_it : (s : Option ℕ) → ranks x by i ≤ found s (ranks x by) 0 → better (ranks x by) s i ≡ s
    below_it (Some j) l = ap (λ (b : Bool). cond b (Some i) (Some j)) (le-ltb (ranks x by j) (ranks x by i) l)
    below_it None l = ap (λ (b : Bool). cond b (Some i) None) (le-ltb 0 (ranks x by i) l)

    next : {s : Option ℕ} → better (ranks x by) r i ≡ s → s ≡ best_to (ranks x by) (i + 1)
    next e =
        sym e ∙ ap (λ (r : Option ℕ). better (ranks x by) r i) before.best ∙ sym (ap (best_to (ranks x by)) (add-one i))

    pub pass-better : {s : Option ℕ} {t j : ℕ} → s ≡ Some i → t ≡ j → Told top (free (x i)) (rank by (x i)) (Better j) → Passing x by s t (i + 1)
    pass-better p q h =
        record {
          none_free = below_more _ i before.none_free h.0;
          best = p ∙ next (above_it r (omega (arith, before.greatest, h.1)));
          greatest = q ∙ h.2 ∙ ap (λ (s : Option ℕ). found s (ranks x by) 0) (sym p);
        }

    pub pass-same : {s : Option ℕ} {t : ℕ} → s ≡ r → t ≡ top → Told top (free (x i)) (rank by (x i)) NoBetter → Passing x by s t (i + 1)
    pass-same p q h =
        record {
          none_free = below_more _ i before.none_free h.0;
          best = p ∙ next (below_it r (omega (arith, before.greatest, h.1)));
          greatest = q ∙ before.greatest ∙ ap (λ (s : Option ℕ). found s (ranks x by) 0) (sym p);
        }

    module _ {m n : ℕ} (counted : m ≡ n) where
      first_free : {f : Option ℕ} → f ≡ first_to (frees x) n → or_else f (best_to (ranks x by) n) ≡ choice x n by
      unfolding choice
      first_free e = ap (λ (f : Option ℕ). or_else f (best_to (ranks x by) n)) e

      pub free-chosen : i < m → free (x i) ≡ true → Some i ≡ choice x n by
      free-chosen l t = first_free (returned (frees x) i before.none_free counted l t)

      pub best_chosen : i ≤ m → m ≤ i → r ≡ choice x n by
      best_chosen l h =
          let end : i ≡ n = omega arith in
          before.best ∙ ap (best_to (ranks x by)) end ∙ first_free (ended (frees x) i before.none_free counted h)
