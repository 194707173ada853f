-- Of the events that have p, each falls at one place of a row of m totals: so the row grows, in all, by as many as there are such events.
use Prim.Native.Nat.{ℕ, zero, suc, ◌+◌, ◌<◌}
use mathlib.Core.Path.{◌≡◌, refl, ap}
use mathlib.Core.Bool.{Bool, true}
use mathlib.Core.List.{List, [], ◌∷◌}
use native.Mathlib.Omega.{arith}
use Rattle.octets.proofs.Tests.{by_eq, by_so}
use Rattle.rules.specs.Layout.{Layout}
use Rattle.rules.specs.Run.{after, answered}
use Rattle.tally.specs.Shares.{at, one, shares, events_add}
use Rattle.tally.proofs.Placed.{at_on, at_off, at_le}
use Rattle.claims.specs.Figures.{sum_to}

-- ---- sums
pub sum_cong : (f g : ℕ → ℕ) (m : ℕ) → ((i : ℕ) → i < m → f i ≡ g i) → sum_to f m ≡ sum_to g m
sum_cong f g zero h = refl
sum_cong f g (suc m) h = omega (arith, sum_cong f g m (λ i l. h i (omega arith)), h m (omega arith))

pub sum_add : (f g : ℕ → ℕ) (m : ℕ) → sum_to (λ i. f i + g i) m ≡ sum_to f m + sum_to g m
sum_add f g zero = omega arith
sum_add f g (suc m) = omega (arith, sum_add f g m)

sum_none : (f : ℕ → ℕ) (m : ℕ) → ((i : ℕ) → i < m → f i ≡ 0) → sum_to f m ≡ 0
sum_none f zero h = refl
sum_none f (suc m) h = omega (arith, sum_none f m (λ i l. h i (omega arith)), h m (omega arith))

-- what falls at one place of the row is the row's sum
sum_at : (p n m : ℕ) → p < m → sum_to (at p n) m ≡ n
sum_at p n zero l = absurd (omega arith)
sum_at p n (suc m) l =
    by_eq p m
    (λ z. omega (arith, sum_none (at p n) m (λ i k. at_off p n i (λ w. omega arith)), at_on p n m z))
    (λ z. omega (arith, sum_at p n m (omega arith), at_off p n m z))

module _ {S : Type 0} (L : Layout S) (o m : ℕ) (p : S → List ℕ → Bool) (q : S → List ℕ → ℕ) where
  -- an event that has p falls at place q of the row that begins at o, and one that has not falls at none
  pub record Falls : Type 0 where
    pub within : (s : S) (e : List ℕ) → p s e ≡ true → q s e < m
    pub there : (s : S) (e : List ℕ) (i : ℕ) → i < m → shares (L.event e) (answered L s e) (o + i) ≡ at (q s e) (one (p s e)) i

  -- c counts the events that have p
  pub record Counts (c : S → List (List ℕ) → ℕ) : Type 0 where
    pub none : (s : S) → c s [] ≡ 0
    pub more : (s : S) (e : List ℕ) (es : List (List ℕ)) → c s (e ∷ es) ≡ one (p s e) + c (after L s e) es

  module _ (falls : Falls) where
    event-once : (s : S) (e : List ℕ) → sum_to (λ i. shares (L.event e) (answered L s e) (o + i)) m ≡ one (p s e)
    event-once s e =
        let row = sum_cong (λ i. shares (L.event e) (answered L s e) (o + i)) (at (q s e) (one (p s e))) m (falls.there s e) in
        by_so (p s e) (λ h. omega (arith, sum_at (q s e) (one (p s e)) m (falls.within s e h)))
        (λ h. let n = ap one h in omega (arith, sum_none (at (q s e) (one (p s e))) m (λ i l. omega (arith, at_le (q s e) (one (p s e)) i))))

    pub each_falls_once : (c : S → List (List ℕ) → ℕ) → Counts c → (es : List (List ℕ)) (s : S) → sum_to (λ i. events_add L s es (o + i)) m ≡ c s es
    each_falls_once c counts [] s = omega (arith, sum_none (λ i. 0) m (λ i l. refl), counts.none s)
    each_falls_once c counts (e ∷ es) s =
        let first : ℕ → ℕ = λ i. shares (L.event e) (answered L s e) (o + i) in
        let rest : ℕ → ℕ = λ i. events_add L (after L s e) es (o + i) in
        omega (arith, sum_add first rest m, event-once s e, each_falls_once c counts es (after L s e), counts.more s e es)
