-- A buffer of one octet more than the list has room for the part: a parameter takes an octet less in the part than in the list.
use Prim.Native.Nat.{ℕ, zero, suc, ◌+◌, ◌≤◌}
use mathlib.Core.Path.{◌≡◌, sym, ap, ◌∙◌}
use mathlib.Core.Bool.{Bool, true, false}
use mathlib.Core.List.{List}
use native.Mathlib.Omega.{arith}
use lib.ListN.{length}
use lib.Dec.{leb, ltb}
use borrow.Author.Tests.{eqb-true, le-leb, ltb-true, ltb-false}
use Rattle.octets.proofs.Tests.{by_so}
use Rattle.optional.specs.List.{behind, items_from, items, whole_from, whole}
use Rattle.optional.specs.Write.{room, all_sound, precedences}
use Rattle.optional.specs.Claims.{RoomEnough}
use Rattle.optional.proofs.Entries.{item_length, item_first, whole_first, item_none, whole-within}
use Rattle.optional.proofs.Written.{tested}
use Rattle.optional.proofs.Judged.{number_is}

-- the room that the parameters from a place on need
needed : (l : List ℕ) (m at : ℕ) → whole_from m l at ≡ true → at + room (items_from m l at) ≤ length l + 1
needed l zero at w = let e = eqb-true at (length l) w in omega (arith, e)
needed l (suc m) at w =
    by_so (ltb at (length l))
    (λ t.
    let before = ltb-true at (length l) t in
    let further = sym (whole_first l at before m) ∙ w in
    let n = item_length l at (whole-within l (behind l at) m further) in
    let r = ap room (item_first l at before m) in
    let rest = needed l m (behind l at) further in
    omega (arith, n, r, rest))
    (λ t.
    let r = ap room (item_none l at (suc m) (ltb-false at (length l) t)) in
    let e = whole-within l at (suc m) w in
    omega (arith, r, e))

-- with room, a whole list is not refused by 20
not_twenty : (r s : Bool) → tested true true r s 0 (λ k. k) ≡ 20 → ⊥
not_twenty true true e = omega (arith, e)
not_twenty true false e = omega (arith, e)
not_twenty false s e = omega (arith, e)

pub room_enough : RoomEnough
unfolding items whole
room_enough b l f h =
    by_so (whole l)
    (λ t.
    let n = needed l (length l) 0 t in
    let fits = le-leb (room (items l)) (length b) (omega (arith, n, f)) in
    absurd (not_twenty (all_sound (items l)) (leb (precedences (items l)) 1)
    (sym (λ i. tested (t i) (fits i) (all_sound (items l)) (leb (precedences (items l)) 1) 0 (λ k. k)) ∙ sym (number_is b l) ∙ h)))
    (λ t. t)
