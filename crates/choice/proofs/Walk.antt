-- A loop over the numbers below n that returns at the first of which the test holds: the test has failed at all that it passed.
use Prim.Native.Nat.{ℕ, ◌<◌, ◌≤◌}
use mathlib.Core.Path.{◌≡◌, sym}
use mathlib.Core.Bool.{Bool, true, false}
use native.Mathlib.Omega.{arith}
use Rattle.std.specs.Prelude.{Option, Some, None, MatchOption}
use Rattle.rules.specs.Search.{first_to}
use Rattle.rules.proofs.Searches.{first_of, first_none}

module _ (test : ℕ → Bool) where
  abbrev pub Passed : ℕ → Type 0
  Passed i = (j : ℕ) → j < i → test j ≡ false

  -- the loop stands at i; m is its count
  module _ (i : ℕ) (passed : Passed i) {m n : ℕ} (counted : m ≡ n) where
    pub ended : m ≤ i → None ≡ first_to test n
    ended l = sym (first_none test n (λ j h. passed j (omega arith)))

    pub returned : i < m → test i ≡ true → Some i ≡ first_to test n
    returned l t = sym (first_of test n i (omega arith) passed t)

  -- what a search over a range finds
  pub first_found : {m n : ℕ} → m ≡ n → (r : Option ℕ)
      → MatchOption r ((j : ℕ) → 0 ≤ j → j < m → test j ≡ false) (λ i. (0 ≤ i) × (i < m) × (test i ≡ true) × ((j : ℕ) → 0 ≤ j → j < i → test j ≡ false)) → r ≡ first_to test n
  first_found {n = n} counted (Some i) h = sym (first_of test n i (omega (arith, h.1)) (λ j l. h.3 j (omega arith) l) h.2)
  first_found {n = n} counted None h = sym (first_none test n (λ j l. h j (omega arith) (omega arith)))
