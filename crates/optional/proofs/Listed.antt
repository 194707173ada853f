-- Every parameter list can be lent: from the octets in which it is lent each of its parameters is read again, and none is cut short.
use Prim.Native.Nat.{ℕ, zero, suc, ◌+◌, ◌≤◌, ◌<◌}
use mathlib.Core.Path.{◌≡◌, refl, sym, ap, subst, ◌∙◌}
use mathlib.Core.Bool.{true}
use mathlib.Core.List.{List, [], ◌∷◌, ◌++◌, append_assoc}
use native.Mathlib.Omega.{arith}
use lib.ListN.{length, get_or, take, drop, length-append}
use lib.Seq.{get_or_at, get_or-append-add, take_at, drop-append-add}
use Rattle.octets.specs.Number.{value, octets}
use Rattle.octets.proofs.Width.{value-octets}
use Rattle.optional.specs.List.{Item, count_at, behind, item_at, items_from, items, whole_from, whole}
use Rattle.optional.specs.Claims.{lent, Lent}
use Rattle.optional.proofs.Entries.{item_first, whole_first, item_none, whole-end}

-- one parameter as it is lent
abbrev lent_one : Item → List ℕ
lent_one i = i.name ∷ (octets 2 (length i.contents) ++ i.contents)

-- ---- one parameter behind some octets
module _ (l pre : List ℕ) (i : Item) (post : List ℕ) (e : l ≡ pre ++ (lent_one i ++ post)) where
  long : length l ≡ length pre + 3 + length i.contents + length post
  long = ap length e ∙ length-append pre (lent_one i ++ post) ∙ (let a = length-append i.contents post in omega (arith, a))

  name_is : get_or l (length pre) 0 ≡ i.name
  name_is = ap (λ (t : List ℕ). get_or t (length pre) 0) e ∙ get_or_at pre i.name _ 0 (length pre) refl

  -- an octet of the list is one of the parameter's own, or one behind them
  octet_is : (k : ℕ) → get_or l (length pre + k) 0 ≡ get_or (lent_one i ++ post) k 0
  octet_is k = ap (λ (t : List ℕ). get_or t (length pre + k) 0) e ∙ get_or-append-add pre (lent_one i ++ post) k 0

  -- a number that two octets cannot say is read again too, since the second of them takes what is left
  count_is : count_at l (length pre) ≡ length i.contents
  count_is = (λ d. value (octet_is 1 d ∷ octet_is 2 d ∷ [])) ∙ value-octets 1 (length i.contents)

  inside : take (count_at l (length pre)) (drop (length pre + 3) l) ≡ i.contents
  inside =
      (λ d. take (count_is d) (drop (length pre + 3) (e d))) ∙ ap (take (length i.contents)) (drop-append-add pre (lent_one i ++ post) 3)
      ∙ take_at i.contents post (length i.contents) refl

  -- the parameter is read there
  item_is : item_at l (length pre) ≡ i
  item_is = λ d. record { name = name_is d; contents = inside d }

  -- the place behind it
  passed : length (pre ++ lent_one i) ≡ behind l (length pre)
  passed = let a = length-append pre (lent_one i) in omega (arith, a, count_is)

-- ---- the whole list
module _ (l : List ℕ) where
  -- from a place on, m parameters at most: the list is not cut short, and these are its parameters
  abbrev Reads : ℕ → ℕ → List Item → Type 0
  Reads m at is = (whole_from m l at ≡ true) × (items_from m l at ≡ is)

  -- of a list that stands behind some octets
  reads_from : (is : List Item) (pre : List ℕ) (m : ℕ) → l ≡ pre ++ lent is → length l ≤ length pre + m → Reads m (length pre) is
  reads_from [] pre m e f =
      let end : length pre ≡ length l = omega (arith, ap length e ∙ length-append pre []) in
      (whole-end l (length pre) m end, item_none l (length pre) m (omega (arith, end)))
  reads_from (i ∷ is) pre zero e f = absurd (omega (arith, long l pre i (lent is) e))
  reads_from (i ∷ is) pre (suc m) e f =
      let before : length pre < length l = omega (arith, long l pre i (lent is) e) in
      let a = length-append pre (lent_one i) in
      let further = reads_from is (pre ++ lent_one i) m (e ∙ sym (append_assoc pre (lent_one i) (lent is))) (omega (arith, a)) in
      let rest = subst (λ (k : ℕ). Reads m k is) (passed l pre i (lent is) e) further in
      (whole_first l (length pre) before m ∙ rest.0, item_first l (length pre) before m ∙ (λ d. item_is l pre i (lent is) e d ∷ rest.1 d))

pub lent-read : Lent
unfolding items whole
lent-read is = reads_from (lent is) is [] (length (lent is)) refl (omega arith)
