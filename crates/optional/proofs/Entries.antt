-- Laws of a lent list: what stands at a place of it, where the list ends, and the parameters as they come.
use Prim.Native.Nat.{ℕ, zero, suc, ◌+◌, ◌≤◌, ◌<◌}
use mathlib.Core.Path.{◌≡◌, refl, sym, ap, ◌∙◌}
use mathlib.Core.Logic.{⊎_elim, ◌⊎◌, inl, inr}
use mathlib.Core.Bool.{Bool, true, false, cond, true≢false}
use mathlib.Core.List.{List, [], ◌∷◌, ◌++◌, map}
use native.Mathlib.Nat.{add-zero}
use native.Mathlib.Omega.{arith}
use Rattle.std.specs.Prelude.{Option, Some, None}
use lib.ListN.{length, get_or, take, drop, length-drop}
use lib.Seq.{length-take-le, get_or-drop, drop-drop}
use lib.Dec.{eqb, leb, ltb}
use borrow.Author.Tests.{eq-eqb, ne_eqb, lt-ltb, le-ltb, le-leb, lt-leb, ltb-true, ltb-false, leb-true, leb-false}
use Rattle.octets.specs.Number.{value}
use Rattle.octets.proofs.Tests.{by_so}
use Rattle.optional.specs.declared.list.Entry.{Entry}
use Rattle.optional.specs.List.{Item, count_at, behind, item_at, items_from, items, whole_from, whole, First, item, entries_from, entries}

module _ (l : List ℕ) (at : ℕ) where
  pub item_length : behind l at ≤ length l → length (item_at l at).contents ≡ count_at l at
  item_length f = let d = length-drop (at + 3) l in length-take-le (count_at l at) (drop (at + 3) l) (omega (arith, d))

  -- before the end of the list a parameter stands
  module _ (f : at < length l) where
    pub item_first : (m : ℕ) → items_from (suc m) l at ≡ item_at l at ∷ items_from m l (behind l at)
    item_first m = ap (λ (b : Bool). cond b (item_at l at ∷ items_from m l (behind l at)) []) (lt-ltb at (length l) f)

    pub whole_first : (m : ℕ) → whole_from (suc m) l at ≡ whole_from m l (behind l at)
    whole_first m = ap (λ (b : Bool). cond b (whole_from m l (behind l at)) (eqb at (length l))) (lt-ltb at (length l) f)

  -- at its end none stands, and behind it the list is cut short
  pub item_none : (m : ℕ) → length l ≤ at → items_from m l at ≡ []
  item_none zero f = refl
  item_none (suc m) f = ap (λ (b : Bool). cond b (item_at l at ∷ items_from m l (behind l at)) []) (le-ltb at (length l) f)

  whole_last : (m : ℕ) → length l ≤ at → whole_from m l at ≡ eqb at (length l)
  whole_last zero f = refl
  whole_last (suc m) f = ap (λ (b : Bool). cond b (whole_from m l (behind l at)) (eqb at (length l))) (le-ltb at (length l) f)

  pub whole-end : (m : ℕ) → at ≡ length l → whole_from m l at ≡ true
  whole-end m e = whole_last m (omega (arith, e)) ∙ eq-eqb at (length l) e

  pub whole-past : (m : ℕ) → length l < at → whole_from m l at ≡ false
  whole-past m f = whole_last m (omega (arith, f)) ∙ ne_eqb at (length l) (λ e. omega (arith, e, f))

  pub whole-within : (m : ℕ) → whole_from m l at ≡ true → at ≤ length l
  whole-within m w =
      by_so (ltb (length l) at) (λ t. absurd (true≢false (sym w ∙ whole-past m (ltb-true (length l) at t)))) (λ t. ltb-false (length l) at t)

-- ---- the parameters as they come
module _ (l : List ℕ) where
  none : (n : ℕ) → length l ≡ 0 → entries_from n l ≡ []
  none zero e = refl
  none (suc n) e = ap (λ (b : Bool). cond b (cond (leb (behind l 0) (length l)) (Some (item_at l 0) ∷ entries_from n (drop (behind l 0) l)) (None ∷ [])) []) (le-ltb 0 (length l) (omega (arith, e)))

  some : (n : ℕ) → 0 < length l → entries_from (suc n) l ≡ cond (leb (behind l 0) (length l)) (Some (item_at l 0) ∷ entries_from n (drop (behind l 0) l)) (None ∷ [])
  some n f = ap (λ (b : Bool). cond b (cond (leb (behind l 0) (length l)) (Some (item_at l 0) ∷ entries_from n (drop (behind l 0) l)) (None ∷ [])) []) (lt-ltb 0 (length l) f)

-- as many as there are octets is enough
same_entries : (n m : ℕ) (l : List ℕ) → length l ≤ n → length l ≤ m → entries_from n l ≡ entries_from m l
same_entries zero m l f g = sym (none l m (omega arith))
same_entries (suc n) zero l f g = none l (suc n) (omega arith)
same_entries (suc n) (suc m) l f g =
    by_so (ltb 0 (length l))
    (λ t.
    let h = ltb-true 0 (length l) t in
    let d = length-drop (behind l 0) l in
    some l n h ∙ ap (λ (es : List (Option Item)). cond (leb (behind l 0) (length l)) (Some (item_at l 0) ∷ es) (None ∷ []))
    (same_entries n m (drop (behind l 0) l) (omega (arith, d)) (omega (arith, d))) ∙ sym (some l m h))
    (λ t. let e : length l ≡ 0 = (let k = ltb-false 0 (length l) t in omega arith) in none l (suc n) e ∙ sym (none l (suc m) e))

module _ (l : List ℕ) where
  pub entries_none : length l ≡ 0 → entries l ≡ []
  unfolding entries
  entries_none e = none l (length l) e

  pub entries_cut : 0 < length l → length l < behind l 0 → entries l ≡ None ∷ []
  unfolding entries
  entries_cut f h = go (length l) refl
    where
      go : (n : ℕ) → length l ≡ n → entries_from n l ≡ None ∷ []
      go zero e = absurd (omega arith)
      go (suc n) e = some l n f ∙ ap (λ (b : Bool). cond b (Some (item_at l 0) ∷ entries_from n (drop (behind l 0) l)) (None ∷ [])) (lt-leb _ _ h)

  pub entries_some : behind l 0 ≤ length l → entries l ≡ Some (item_at l 0) ∷ entries (drop (behind l 0) l)
  unfolding entries
  entries_some f = go (length l) refl
    where
      go : (n : ℕ) → length l ≡ n → entries_from n l ≡ Some (item_at l 0) ∷ entries_from (length (drop (behind l 0) l)) (drop (behind l 0) l)
      go zero e = absurd (omega arith)
      go (suc n) e =
          let d = length-drop (behind l 0) l in
          some l n (omega arith) ∙ ap (λ (b : Bool). cond b (Some (item_at l 0) ∷ entries_from n (drop (behind l 0) l)) (None ∷ [])) (le-leb _ _ f)
          ∙ ap (λ (es : List (Option Item)). Some (item_at l 0) ∷ es) (same_entries n _ (drop (behind l 0) l) (omega (arith, d)) (omega arith))

  pub entries_first : (e : Entry) (r : List ℕ) → First l e r → entries l ≡ item (Some e) ∷ entries r
  entries_first e r f = entries_some (omega (arith, f.long)) ∙ (λ i. sym f.is i ∷ entries (sym f.rest i))

-- ---- what comes of the rest of a list from a place on
module _ (l : List ℕ) (at : ℕ) where
  same_count : count_at (drop at l) 0 ≡ count_at l at
  same_count = λ i. value (get_or-drop at l 1 0 i ∷ get_or-drop at l 2 0 i ∷ [])

  same_item : item_at (drop at l) 0 ≡ item_at l at
  same_item =
      let name : get_or (drop at l) 0 0 ≡ get_or l at 0 = get_or-drop at l 0 0 ∙ ap (λ (n : ℕ). get_or l n 0) (add-zero at) in
      let start : drop 3 (drop at l) ≡ drop (at + 3) l = drop-drop 3 at l in
      λ i. record { name = name i; contents = take (same_count i) (start i) }

  same_behind : at + behind (drop at l) 0 ≡ behind l at
  same_behind = omega (arith, same_count)

  same_rest : drop (behind (drop at l) 0) (drop at l) ≡ drop (behind l at) l
  same_rest = drop-drop (behind (drop at l) 0) at l ∙ ap (λ (n : ℕ). drop n l) same_behind

-- parameters of which the last is cut short
abbrev pub Cut : List (Option Item) → Type 0
Cut es = (is : List Item) × (es ≡ map Some is ++ (None ∷ []))

module _ (l : List ℕ) where
  -- m parameters more are enough: either they all come, or the last is cut short
  abbrev Comes : ℕ → ℕ → Type 0
  Comes m at =
      ((whole_from m l at ≡ true) × (entries (drop at l) ≡ map Some (items_from m l at)))
      ⊎ ((whole_from m l at ≡ false) × Cut (entries (drop at l)))

  comes_end : (m at : ℕ) → at ≡ length l → Comes m at
  comes_end m at e =
      let d = length-drop at l in
      inl (whole-end l at m e, entries_none (drop at l) (omega (arith, d, e)) ∙ ap (map Some) (sym (item_none l at m (omega (arith, e)))))

  comes_from : (m at : ℕ) → at ≤ length l → length l ≤ at + m → Comes m at
  comes_from zero at f g = comes_end zero at (omega arith)
  comes_from (suc m) at f g =
      let d = length-drop at l in
      let b = same_behind l at in
      by_so (ltb at (length l))
      (λ t.
      let before = ltb-true at (length l) t in
      by_so (leb (behind l at) (length l))
      (λ u.
      let fits = leb-true (behind l at) (length l) u in
      let now = entries_some (drop at l) (omega (arith, d, b, fits)) ∙ (λ i. Some (same_item l at i) ∷ entries (same_rest l at i)) in
      ⊎_elim
      (λ h. inl (whole_first l at before m ∙ h.0, now ∙ (λ i. Some (item_at l at) ∷ h.1 i) ∙ ap (map Some) (sym (item_first l at before m))))
      (λ h. inr (whole_first l at before m ∙ h.0, (item_at l at ∷ h.1.0, now ∙ (λ i. Some (item_at l at) ∷ h.1.1 i))))
      (comes_from m (behind l at) fits (omega arith)))
      (λ u.
      let past = leb-false (behind l at) (length l) u in
      inr (whole_first l at before m ∙ whole-past l (behind l at) m past, ([], entries_cut (drop at l) (omega (arith, d)) (omega (arith, d, b, past))))))
      (λ t. let k = ltb-false at (length l) t in comes_end (suc m) at (omega arith))

  -- of a whole list all parameters come
  pub entries_whole : whole l ≡ true → entries l ≡ map Some (items l)
  unfolding whole items
  entries_whole w =
      ⊎_elim (λ h. h.1) (λ h. absurd (true≢false (sym w ∙ h.0))) (comes_from (length l) 0 (omega arith) (omega arith))

  -- of another the last is cut short
  pub entries_short : whole l ≡ false → Cut (entries l)
  unfolding whole
  entries_short w =
      ⊎_elim (λ h. absurd (true≢false (sym h.0 ∙ w))) (λ h. h.1) (comes_from (length l) 0 (omega arith) (omega arith))
