-- What the first pass makes of the parameters as they come is the survey of the list.
use Prim.Native.Nat.{ℕ, zero, suc, ◌+◌, ◌≤◌}
use mathlib.Core.Path.{◌≡◌, refl, sym, ap, subst, ◌∙◌}
use mathlib.Core.Bool.{◌&&◌, and-true}
use mathlib.Core.List.{List, [], ◌∷◌, ◌++◌, map}
use native.Mathlib.Omega.{arith}
use Rattle.std.specs.Prelude.{Option, Some, None}
use lib.ListN.{length, drop, length-drop}
use lib.Dec.{leb, ltb}
use borrow.Author.Tests.{leb-true, leb-false, ltb-true, ltb-false}
use Rattle.octets.proofs.Tests.{by_so, and_assoc}
use Rattle.optional.specs.declared.survey.Survey.{Survey}
use Rattle.optional.specs.List.{Item, items, whole, behind, entries}
use Rattle.optional.specs.Write.{room, sound, all_sound, precedences}
use Rattle.optional.specs.Survey.{further, begun, surveyed, Surveyed}
use Rattle.optional.proofs.Entries.{item_length, entries_none, entries_cut, entries_some, entries_whole, entries_short}

-- ---- the parameters that come
-- what is found with all of them
abbrev all : Survey → List Item → Survey
all h [] = h
all h (i ∷ is) = all (further h i) is

come : (h : Survey) (is : List Item) → surveyed h (map Some is) ≡ Some (all h is)
come h [] = refl
come h (i ∷ is) = come (further h i) is

cut : (h : Survey) (is : List Item) → surveyed h (map Some is ++ (None ∷ [])) ≡ None
cut h [] = refl
cut h (i ∷ is) = cut (further h i) is

all-room : (h : Survey) (is : List Item) → (all h is).room + 1 ≡ h.room + room is
all-room h [] = refl
all-room h (i ∷ is) = let r = all-room (further h i) is in omega (arith, r)

all-sound : (h : Survey) (is : List Item) → (all h is).sound ≡ h.sound && all_sound is
all-sound h [] = sym (and-true h.sound)
all-sound h (i ∷ is) = all-sound (further h i) is ∙ and_assoc h.sound (sound i) (all_sound is)

all-precedences : (h : Survey) (is : List Item) → (all h is).precedences ≡ h.precedences + precedences is
all-precedences h [] = omega arith
all-precedences h (i ∷ is) = let r = all-precedences (further h i) is in omega (arith, r)

-- ---- the list
pub says : (l : List ℕ) → Surveyed l (surveyed begun (entries l))
says l =
    by_so (whole l)
    (λ w.
    let is = items l in
    let r = all-room begun is in
    let p = all-precedences begun is in
    subst (Surveyed l) (sym (ap (surveyed begun) (entries_whole l w) ∙ come begun is))
    (record { is_whole = w; needs = omega (arith, r); is_sound = all-sound begun is; gives = omega (arith, p) }))
    (λ w. let c = entries_short l w in subst (Surveyed l) (sym (ap (surveyed begun) c.1 ∙ cut begun c.0)) w)

-- ---- how many octets the parameters were lent in
abbrev pub lent : List (Option Item) → ℕ
lent [] = 0
lent (None ∷ es) = 0
lent (Some i ∷ es) = 3 + length i.contents + lent es

lent_none : (l : List ℕ) → length l ≡ 0 → lent (entries l) ≤ length l
lent_none l e = subst (λ (es : List (Option Item)). lent es ≤ length l) (sym (entries_none l e)) (omega arith)

lent_le : (n : ℕ) (l : List ℕ) → length l ≤ n → lent (entries l) ≤ length l
lent_le zero l f = lent_none l (omega arith)
lent_le (suc n) l f =
    by_so (ltb 0 (length l))
    (λ t.
    by_so (leb (behind l 0) (length l))
    (λ u.
    let fits = leb-true (behind l 0) (length l) u in
    let d = length-drop (behind l 0) l in
    let k = item_length l 0 fits in
    let r = lent_le n (drop (behind l 0) l) (omega (arith, d)) in
    subst (λ (es : List (Option Item)). lent es ≤ length l) (sym (entries_some l fits)) (omega (arith, d, k, r)))
    (λ u.
    let past = leb-false (behind l 0) (length l) u in
    subst (λ (es : List (Option Item)). lent es ≤ length l) (sym (entries_cut l (ltb-true 0 (length l) t) past)) (omega arith)))
    (λ t. let k = ltb-false 0 (length l) t in lent_none l (omega arith))

pub lent_within : (l : List ℕ) → lent (entries l) ≤ length l
lent_within l = lent_le (length l) l (omega arith)
