-- What a walk meets in a part that was written: its parameters in their order, each with its contents, and then the end.
use Prim.Native.Nat.{ℕ, zero, suc, ◌+◌, ◌<◌}
use mathlib.Core.Path.{◌≡◌, refl, sym, ap, subst, ◌∙◌}
use mathlib.Core.Bool.{Bool, true, cond, not}
use mathlib.Core.List.{List, [], ◌∷◌, ◌++◌, append_assoc}
use native.Mathlib.Omega.{arith}
use lib.ListN.{length, get_or, take, drop, length-append}
use lib.Seq.{get_or_at, get_or-append-add, take_at, drop-append-add}
use lib.Dec.{eqb}
use Rattle.octets.proofs.Tests.{and_left, and_right, if_eq, if_ne, if_gt, if_ge}
use Rattle.rules.specs.Numbers.{done}
use Rattle.optional.specs.declared.part.Parameter.{Parameter}
use Rattle.optional.specs.Part.{end_name, stopped, standing, parameter_at, is_parameter, contents, steps, walk}
use Rattle.optional.specs.List.{Item, items}
use Rattle.optional.specs.Write.{plain, octets_of, part_of, room, sound, all_sound, write, write_buffer}
use Rattle.optional.proofs.Sound.{named}
use Rattle.optional.proofs.Written.{plain-length, part_room, more_room, placed}

-- ---- one parameter behind some octets
module _ (s pre : List ℕ) (n k : ℕ) (c post : List ℕ) (e : s ≡ pre ++ (n ∷ k ∷ (c ++ post))) (l : length c ≡ k) where
  long : length s ≡ length pre + 2 + k + length post
  long = ap length e ∙ length-append pre (n ∷ k ∷ (c ++ post)) ∙ (let a = length-append c post in omega (arith, a, l))

  name_is : get_or s (length pre) 0 ≡ n
  name_is = ap (λ (t : List ℕ). get_or t (length pre) 0) e ∙ get_or_at pre n (k ∷ (c ++ post)) 0 (length pre) refl

  count_is : get_or s (length pre + 1) 0 ≡ k
  count_is = ap (λ (t : List ℕ). get_or t (length pre + 1) 0) e ∙ get_or-append-add pre (n ∷ k ∷ (c ++ post)) 1 0

  -- the parameter is met there
  stands : (n ≡ 0 → ⊥) → standing n k (length pre) ≡ parameter_at s (length pre)
  unfolding parameter_at
  stands z =
      if_gt _ _ (length s) (length pre) (omega (arith, long))
      (if_ne _ _ (get_or s (length pre) 0) 0 (λ q. z (sym name_is ∙ q))
      (if_gt _ _ (length s) (length pre + 1) (omega (arith, long))
      (if_ge _ _ (length s) (length pre + 2 + get_or s (length pre + 1) 0) (omega (arith, long, count_is))
      (λ i. standing (sym name_is i) (sym count_is i) (length pre)))))

  -- its contents are found there
  inside : contents s (standing n k (length pre)) ≡ c
  inside = ap (λ (t : List ℕ). take k (drop (length pre + 2) t)) e ∙ ap (take k) (drop-append-add pre (n ∷ k ∷ (c ++ post)) 2) ∙ take_at c post k l

-- the end behind some octets
end_is : (s pre post : List ℕ) → s ≡ pre ++ (end_name ∷ post) → stopped done (length pre) ≡ parameter_at s (length pre)
unfolding parameter_at
end_is s pre post e =
    let long = ap length e ∙ length-append pre (0 ∷ post) in
    if_gt _ _ (length s) (length pre) (omega (arith, long))
    (if_eq _ _ (get_or s (length pre) 0) 0 (ap (λ (t : List ℕ). get_or t (length pre) 0) e ∙ get_or_at pre 0 post 0 (length pre) refl) refl)

-- ---- the whole list
-- the parameter i as it is met at a place
abbrev pub stood : Item → ℕ → Parameter
stood i at = standing i.name (length i.contents) at

-- a sound parameter is met as a parameter
pub is_met : (i : Item) (at : ℕ) → sound i ≡ true → is_parameter (stood i at) ≡ true
is_met i at k = and_left (not (eqb i.name end_name)) _ k

-- what holds at the end, and passes back over a parameter, holds of a walk through a written list
module _ (s : List ℕ) (P : ℕ → List Item → List Parameter → Type 0)
    (end : (at : ℕ) → P at [] (stopped done at ∷ []))
    (over : (at : ℕ) (i : Item) (is : List Item) (ps : List Parameter) → sound i ≡ true → contents s (stood i at) ≡ (plain i).contents
    → P (stood i at).next is ps → P at (i ∷ is) (stood i at ∷ ps)) where
  -- of a list that stands behind some octets
  met_from : (is : List Item) (pre post : List ℕ) (m : ℕ) → all_sound is ≡ true → length is < m → s ≡ pre ++ (part_of is ++ post)
      → P (length pre) is (steps m s (length pre))
  met_from is pre post zero ok f e = absurd (omega arith)
  met_from [] pre post (suc m) ok f e =
      subst (λ (p : Parameter). P (length pre) [] (p ∷ cond (is_parameter p) (steps m s p.next) [])) (end_is s pre post e) (end (length pre))
  met_from (i ∷ is) pre post (suc m) ok f e =
      let k = length i.contents in
      let c = (plain i).contents in
      let rest = part_of is ++ post in
      let here : s ≡ pre ++ (i.name ∷ k ∷ (c ++ rest)) = e ∙ ap (λ (t : List ℕ). pre ++ (i.name ∷ k ∷ t)) (append_assoc c (part_of is) post) in
      let d = plain-length i in
      let good = and_left (sound i) (all_sound is) ok in
      let passed : length (pre ++ octets_of i) ≡ (stood i (length pre)).next = length-append pre (octets_of i) ∙ omega arith in
      let further =
      met_from is (pre ++ octets_of i) post m (and_right (sound i) (all_sound is) ok) (omega arith) (here ∙ sym (append_assoc pre (octets_of i) rest)) in
      subst (λ (p : Parameter). P (length pre) (i ∷ is) (p ∷ cond (is_parameter p) (steps m s p.next) []))
      (stands s pre i.name k c rest here d (named i good))
      (subst (λ (t : Bool). P (length pre) (i ∷ is) (stood i (length pre) ∷ cond t (steps m s (stood i (length pre)).next) [])) (sym (is_met i (length pre) good))
      (over (length pre) i is (steps m s (stood i (length pre)).next) good (inside s pre i.name k c rest here d)
      (subst (λ (n : ℕ). P n is (steps m s n)) passed further)))

  -- of what the writer wrote
  pub met : (b l : List ℕ) → (write b l).number ≡ done → write_buffer b l ≡ s → P 0 (items l) (walk s)
  unfolding walk
  met b l w e =
      let p = placed b l w in
      let is = items l in
      let post = drop (room is) b in
      let whole : s ≡ part_of is ++ post = sym e ∙ p.buffer in
      let r = part_room is in
      let f = more_room is in
      let a = ap length whole ∙ length-append (part_of is) post in
      met_from is [] post (suc (length s)) p.accepted.writable.is_sound (omega arith) whole
