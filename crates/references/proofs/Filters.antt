-- Setting bits keeps those that were set; and what the filter says of a part.
use Prim.Native.Nat.{ℕ, zero, suc, ◌+◌, ◌*◌, ◌/◌, ◌%◌, ◌<◌}
use mathlib.Core.Path.{◌≡◌, refl, sym, ap, ap₂, ◌∙◌, subst}
use mathlib.Core.Bool.{Bool, true, false, cond, ◌&&◌, ◌||◌, and-true, true≢false}
use mathlib.Core.List.{List}
use native.Mathlib.Nat.{div-add-mod'}
use native.Mathlib.Numerals.{add-one}
use native.Mathlib.Omega.{arith}
use lib.Arith.{bin_ind}
use lib.ListN.{length, get_or, set, length-set}
use lib.Seq.{get_or-set_same, get_or-set_other}
use lib.Bits.{bit_or, or_shr, or_mod, or_comm, or_self}
use borrow.Author.Tests.{eqb-true, eq-eqb}
use Rattle.octets.specs.Same.{same}
use Rattle.octets.proofs.Tests.{and_left, and_right, by_eq, by_so, not_so, second_off}
use Rattle.octets.proofs.Sames.{same_true}
use Rattle.octets.proofs.Spans.{grow}
use Rattle.rules.specs.declared.part.Part.{Part}
use Rattle.rules.specs.declared.part.Side.{Side}
use Rattle.rules.specs.declared.part.Side.TheVariants.{Holder, Reservation}
use Rattle.rules.specs.declared.circuit.Circuit.{Circuit}
use Rattle.std.specs.Prelude.{Option, Some, None}
use Rattle.rules.specs.Circuit.{part_on, is_of}
use Rattle.rules.specs.Search.{or_else, first_to, found}
use Rattle.rules.specs.Valid.{part_numbered, side_number, clash, repeated}
use Rattle.rules.proofs.Numbered.{by_side, even, odd}
use Rattle.rules.proofs.Searches.{first_cong, nothing-found, some-found}
use Rattle.references.specs.Filter.{spread, word_of, bits_in, word_for, already, in_range, stands_to, repeated_in, Grown, Seen}

-- ---- bits in words
or_bits : (x y z : ℕ) → x < 2 → y < 2 → z < 2 → bit_or (bit_or x y) z ≡ bit_or x (bit_or y z)
or_bits zero y z h k l = refl
or_bits (suc zero) zero z h k l = refl
or_bits (suc zero) (suc zero) zero h k l = refl
or_bits (suc zero) (suc zero) (suc zero) h k l = refl
or_bits (suc zero) (suc zero) (suc (suc z)) h k l = absurd (omega arith)
or_bits (suc zero) (suc (suc y)) z h k l = absurd (omega arith)
or_bits (suc (suc x)) y z h k l = absurd (omega arith)

or_assoc : (a b c : ℕ) → bit_or (bit_or a b) c ≡ bit_or a (bit_or b c)
or_assoc =
    bin_ind (λ (a : ℕ). (b c : ℕ) → bit_or (bit_or a b) c ≡ bit_or a (bit_or b c)) (λ b c. refl)
    (λ a ih b c.
    let high =
    or_shr (bit_or a b) c 1 ∙ ap (λ (n : ℕ). bit_or n (c / 2)) (or_shr a b 1) ∙ ih (b / 2) (c / 2)
    ∙ ap (bit_or (a / 2)) (sym (or_shr b c 1)) ∙ sym (or_shr a (bit_or b c) 1) in
    let low =
    or_mod (bit_or a b) c 1 ∙ ap (λ (n : ℕ). bit_or n (c % 2)) (or_mod a b 1) ∙ or_bits (a % 2) (b % 2) (c % 2) (omega arith) (omega arith) (omega arith)
    ∙ ap (bit_or (a % 2)) (sym (or_mod b c 1)) ∙ sym (or_mod a (bit_or b c) 1) in
    sym (div-add-mod' (bit_or (bit_or a b) c) 2) ∙ ap₂ (λ (m n : ℕ). m * 2 + n) high low ∙ div-add-mod' (bit_or a (bit_or b c)) 2)

-- what was set is set after more is
or_kept : (a b c : ℕ) → bit_or a c ≡ a → bit_or (bit_or a b) c ≡ bit_or a b
or_kept a b c h =
    or_assoc a b c ∙ ap (bit_or a) (or_comm b c) ∙ sym (or_assoc a c b) ∙ ap (λ (n : ℕ). bit_or n b) h

or_again : (a b : ℕ) → bit_or (bit_or a b) b ≡ bit_or a b
or_again a b = or_assoc a b b ∙ ap (bit_or a) (or_self b)

pub grown : (w r : List ℕ) → word_of (spread r) < length w → Grown w (set w (word_of (spread r)) (bit_or (word_for w r) (bits_in (spread r)))) r true
grown w r l =
    record {
      long = length-set w k y;
      kept = λ s h. by_eq (word_of (spread s)) k (same_word s h) (other_word s h);
      here = λ e. eq-eqb _ _ (ap (λ (n : ℕ). bit_or n (bits_in (spread r))) at ∙ or_again (word_for w r) (bits_in (spread r)) ∙ sym at);
    }
  where
    k : ℕ
    k = word_of (spread r)

    y : ℕ
    y = bit_or (word_for w r) (bits_in (spread r))

    at : word_for (set w k y) r ≡ y
    at = get_or-set_same w k y 0 l

    same_word : (s : List ℕ) → already w s ≡ true → word_of (spread s) ≡ k → already (set w k y) s ≡ true
    same_word s h e =
        let there : word_for (set w k y) s ≡ y = ap (λ (n : ℕ). get_or (set w k y) n 0) e ∙ at in
        let was : bit_or (word_for w r) (bits_in (spread s)) ≡ word_for w r = ap (λ (n : ℕ). bit_or (get_or w n 0) (bits_in (spread s))) (sym e) ∙ eqb-true _ _ h ∙ ap (λ (n : ℕ). get_or w n 0) e in
        eq-eqb _ _ (ap (λ (n : ℕ). bit_or n (bits_in (spread s))) there ∙ or_kept (word_for w r) (bits_in (spread r)) (bits_in (spread s)) was ∙ sym there)

    other_word : (s : List ℕ) → already w s ≡ true → (word_of (spread s) ≡ k → ⊥) → already (set w k y) s ≡ true
    other_word s h n =
        let there : word_for (set w k y) s ≡ word_for w s = get_or-set_other w k (word_of (spread s)) y 0 n in
        eq-eqb _ _ (ap (λ (n : ℕ). bit_or n (bits_in (spread s))) there ∙ eqb-true _ _ h ∙ sym there)

-- neither of two tests
pub neither : (a b : Bool) → a || b ≡ false → (a ≡ false) × (b ≡ false)
neither true b h = absurd (true≢false h)
neither false b h = (refl, h)

-- ---- parts
-- two parts clash where both are present and have one reference
no_clash : (p q : Part) → (p.present ≡ true → q.present ≡ true → p.reference ≡ q.reference → ⊥) → clash p q ≡ false
no_clash p q h =
    not_so (clash p q)
    (λ e.
    let l = and_left (p.present && q.present) (same p.reference q.reference) e in
    h (and_left p.present q.present l) (and_right p.present q.present l) (same_true p.reference q.reference (and_right (p.present && q.present) (same p.reference q.reference) e)))

-- ---- searches
-- the part on a side of circuit i by its number
pub on_side : (x : ℕ → Circuit) (i : ℕ) (side : Side) → part_numbered x (2 * i + side_number side) ≡ part_on side (x i)
on_side x i Holder = by_side (λ j. (x j).holder) (λ j. (x j).reservation) i 0 (omega arith)
on_side x i Reservation = by_side (λ j. (x j).holder) (λ j. (x j).reservation) i 1 (omega arith)

module _ (x : ℕ → Circuit) (r : List ℕ) where
  -- the call stands in part k
  pub stands_at : (n k : ℕ) → k < n → is_of r (part_numbered x k) ≡ true → stands_to x r n ≡ true
  unfolding stands_to
  stands_at n k l h = some-found (λ i. is_of r (part_numbered x i)) n k l h

  -- one part more: it stands there if it did before, and else if it stands in that part
  one_more : (f : Option ℕ) (b : Bool) (n : ℕ) → found (or_else f (cond b (Some n) None)) (λ i. true) false ≡ found f (λ i. true) false || b
  one_more (Some i) b n = refl
  one_more None true n = refl
  one_more None false n = refl

  pub stands_more : (n : ℕ) → stands_to x r (n + 1) ≡ stands_to x r n || is_of r (part_numbered x n)
  unfolding stands_to
  stands_more n =
      ap (λ (m : ℕ). found (first_to (λ i. is_of r (part_numbered x i)) m) (λ i. true) false) (add-one n)
      ∙ one_more (first_to (λ i. is_of r (part_numbered x i)) n) (is_of r (part_numbered x n)) n

  abbrev on_circuit : ℕ → Bool  -- the call stands on circuit i
  on_circuit i = is_of r (x i).holder || is_of r (x i).reservation

  pub stands_none : stands_to x r (2 * 0) ≡ false
  unfolding stands_to
  stands_none = refl

  -- the holder of circuit i stands before its reservation
  pub stands_between : (i : ℕ) → stands_to x r (2 * i + 1) ≡ stands_to x r (2 * i) || is_of r (x i).holder
  stands_between i = stands_more (2 * i) ∙ ap (λ (p : Part). stands_to x r (2 * i) || is_of r p) (even (λ j. (x j).holder) (λ j. (x j).reservation) i)

  -- one circuit more
  pub stands_next : (i : ℕ) → stands_to x r (2 * i) ≡ false → on_circuit i ≡ false → stands_to x r (2 * (i + 1)) ≡ false
  stands_next i h e =
      let next : 2 * (i + 1) ≡ 2 * i + 1 + 1 = omega arith in
      let none = neither (is_of r (x i).holder) (is_of r (x i).reservation) e in
      ap (stands_to x r) next ∙ stands_more (2 * i + 1)
      ∙ ap₂ (λ (a b : Bool). a || b) (stands_between i ∙ ap₂ (λ (a b : Bool). a || b) h none.0)
      (ap (is_of r) (odd (λ j. (x j).holder) (λ j. (x j).reservation) i) ∙ none.1)

  -- it stands on circuit k
  pub stands_there : (k n : ℕ) → k < n → on_circuit k ≡ true → true ≡ stands_to x r (2 * n)
  stands_there k n l e =
      sym
      (by_so (is_of r (x k).holder)
      (λ h. stands_at (2 * n) (2 * k) (omega arith) (ap (is_of r) (even (λ j. (x j).holder) (λ j. (x j).reservation) k) ∙ h))
      (λ h. stands_at (2 * n) (2 * k + 1) (omega arith) (ap (is_of r) (odd (λ j. (x j).holder) (λ j. (x j).reservation) k) ∙ ap (λ (b : Bool). b || is_of r (x k).reservation) (sym h) ∙ e)))

-- ---- part j, before which those in range are in filter w
module _ (x : ℕ → Circuit) (j : ℕ) where
  absent_new : (part_numbered x j).present ≡ false → repeated x j ≡ false
  unfolding repeated
  absent_new h =
      nothing-found (λ k. clash (part_numbered x k) (part_numbered x j)) j (λ k. true) false
      (λ k l. no_clash (part_numbered x k) (part_numbered x j) (λ a b e. true≢false (sym b ∙ h)))

  -- of a part that is present the search decides
  pub by_search : (part_numbered x j).present ≡ true → stands_to x (part_numbered x j).reference j ≡ repeated x j
  unfolding repeated stands_to
  by_search h =
      ap (λ (f : Option ℕ). found f (λ k. true) false)
      (first_cong (λ k. is_of (part_numbered x j).reference (part_numbered x k)) (λ k. clash (part_numbered x k) (part_numbered x j)) j
      (λ k l. ap (λ (b : Bool). b && same (part_numbered x k).reference (part_numbered x j).reference) (sym (and-true (part_numbered x k).present) ∙ ap (λ (b : Bool). (part_numbered x k).present && b) (sym h))))

  module _ (from to : ℕ) where
    pub absent_passed : (part_numbered x j).present ≡ false → false ≡ repeated_in from to x j
    absent_passed h = second_off (in_range from to (part_numbered x j).reference) (repeated x j) (absent_new h)

    module _ (w : List ℕ) (m : Seen x from to w j) where
      -- it is new if one of its bits is not set
      unset_new : in_range from to (part_numbered x j).reference ≡ true → already w (part_numbered x j).reference ≡ false → repeated x j ≡ false
      unfolding repeated
      unset_new i h =
          nothing-found (λ k. clash (part_numbered x k) (part_numbered x j)) j (λ k. true) false
          (λ k l.
          no_clash (part_numbered x k) (part_numbered x j)
          (λ a b e.
          let ranged = ap (in_range from to) e ∙ i in
          true≢false (sym (m.set k l a ranged) ∙ ap (already w) e ∙ h)))

      -- it is out of range, or new
      pub not_repeated : in_range from to (part_numbered x j).reference && already w (part_numbered x j).reference ≡ false → false ≡ repeated_in from to x j
      not_repeated h =
          by_so (in_range from to (part_numbered x j).reference)
          (λ i. second_off (in_range from to (part_numbered x j).reference) (repeated x j) (unset_new i (ap (λ (b : Bool). b && already w (part_numbered x j).reference) (sym i) ∙ h)))
          (λ i. ap (λ (b : Bool). b && repeated x j) (sym i))

      pub seen_more : (v : List ℕ) → length v ≡ length w → ((s : List ℕ) → already w s ≡ true → already v s ≡ true)
          → ((part_numbered x j).present ≡ true → in_range from to (part_numbered x j).reference ≡ true → already v (part_numbered x j).reference ≡ true) → Seen x from to v (j + 1)
      seen_more v long kept here =
          record {
            full = long ∙ m.full;
            set =
                λ k l.
                grow (λ (k : ℕ). (part_numbered x k).present ≡ true → in_range from to (part_numbered x k).reference ≡ true → already v (part_numbered x k).reference ≡ true) j
                (λ i l p q. kept _ (m.set i l p q)) here k
                (subst (λ (n : ℕ). k < n) (add-one j) l);
          }
