-- The lamps of n circuits: below n as the circuits are, from n on dark.
use Prim.Native.Nat.{ℕ, ◌+◌, ◌-◌, ◌<◌, ◌≤◌, min}
use mathlib.Core.Path.{◌≡◌, sym, ap}
use mathlib.Core.Bool.{Bool, false, ◌&&◌}
use native.Mathlib.Decide.{dec_lt}
use native.Mathlib.Omega.{arith}
use borrow.Author.Tests.{lt-ltb, le-ltb}
use Rattle.rules.specs.declared.circuit.Circuit.{Circuit}
use Rattle.rules.specs.Circuit.{free}
use Rattle.lamps.specs.Lamps.{lit, word_from}
use Rattle.lamps.proofs.Words.{word-dark}

module _ (x : ℕ → Circuit) (n : ℕ) where
  pub lit-past : (c : ℕ) → n ≤ c → lit x n c ≡ false
  unfolding lit
  lit-past c h = ap (λ (b : Bool). b && free (x c)) (le-ltb c n h)

  pub lit_below : (c : ℕ) → c < n → lit x n c ≡ free (x c)
  unfolding lit
  lit_below c h = ap (λ (b : Bool). b && free (x c)) (lt-ltb c n h)

  -- above the circuits of the word from b on there is nothing lit
  pub lit-above : (b k : ℕ) → k ≡ min (n - b) 64 → 0 ≡ word_from (lit x n) (b + k) (64 - k)
  unfolding word_from
  lit-above b k e =
      elim (dec_lt k 64) [
        | yes h ↦ sym (word-dark (lit x n) (b + k) (64 - k) (λ j l. lit-past j (omega arith)))
        | no h ↦ let none : 0 ≡ 64 - k = omega arith in ap (word_from (lit x n) (b + k)) none
      ]
