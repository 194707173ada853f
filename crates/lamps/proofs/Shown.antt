-- The 256 lamps as four words show them, word by word.
use Prim.Native.Nat.{ℕ, ◌+◌, ◌-◌, ◌*◌, ◌/◌, ◌%◌, ◌^◌, ◌<◌, ◌≤◌}
use mathlib.Core.Path.{◌≡◌, sym, ap, ap₂, ◌∙◌}
use mathlib.Core.Bool.{false}
use mathlib.Core.List.{List}
use native.Mathlib.Decide.{dec_lt}
use native.Mathlib.Omega.{arith}
use lib.ListN.{get_or}
use lib.Count.{ones}
use Rattle.rules.specs.Search.{count_to}
use Rattle.octets.specs.Bit.{bit}
use Rattle.lamps.specs.Lamps.{lamp_in}
use Rattle.lamps.proofs.Counts.{count_cong, count-split, ones-count}

module _ (ws : List ℕ) (j : ℕ) where
  -- lamp 64 × j + i is bit i of word j
  pub lamp_in_lem : (i : ℕ) → i < 64 → lamp_in ws (64 * j + i) ≡ bit (get_or ws j 0) i
  unfolding lamp_in
  lamp_in_lem i l =
      let word : (64 * j + i) / 64 ≡ j = omega arith in
      let place : (64 * j + i) % 64 ≡ i = omega arith in
      ap₂ (λ (k p : ℕ). bit (get_or ws k 0) p) word place

  -- dark in the words before, and in the first z bits of this one
  pub dark_to : (z : ℕ) → z ≤ 64 → ((c : ℕ) → c < 64 * j → lamp_in ws c ≡ false) → ((i : ℕ) → i < z → bit (get_or ws j 0) i ≡ false) → (c : ℕ) → c < 64 * j + z → lamp_in ws c ≡ false
  dark_to z h before bits c l =
      elim (dec_lt c (64 * j)) [
        | yes a ↦ before c a
        | no a ↦
            let i = c - 64 * j in
            let here : c ≡ 64 * j + i = omega arith in
            ap (lamp_in ws) here ∙ lamp_in_lem i (omega arith) ∙ bits i (omega arith)
      ]

  -- the lamps lit in one word more
  pub count_word : get_or ws j 0 < 2 ^ 64 → count_to (lamp_in ws) (64 * j) + ones (get_or ws j 0) ≡ count_to (lamp_in ws) (64 * (j + 1))
  count_word h =
      let next : 64 * j + 64 ≡ 64 * (j + 1) = omega arith in
      let lamps : ones (get_or ws j 0) ≡ count_to (λ i. lamp_in ws (64 * j + i)) 64 = ones-count 64 (get_or ws j 0) h ∙ sym (count_cong (λ i. lamp_in ws (64 * j + i)) (bit (get_or ws j 0)) 64 lamp_in_lem) in
      ap (λ (m : ℕ). count_to (lamp_in ws) (64 * j) + m) lamps ∙ sym (count-split (lamp_in ws) (64 * j) 64) ∙ ap (count_to (lamp_in ws)) next
