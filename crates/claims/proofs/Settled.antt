-- The lengths and the room of the totals settle the number: 20, then 60, and else 0.
use Prim.Native.Nat.{ℕ, zero, suc, ◌<◌}
use mathlib.Core.Path.{◌≡◌, refl, sym}
use mathlib.Core.Logic.{◌↔◌}
use mathlib.Core.Bool.{Bool, true, false, cond, true≢false}
use mathlib.Core.List.{List}
use native.Mathlib.Omega.{arith}
use lib.ListN.{length}
use lib.Dec.{ltb}
use borrow.Author.Tests.{eqb-true, eq-eqb, ltb-true, lt-ltb}
use Rattle.octets.proofs.Tests.{halves, and_both}
use Rattle.tally.specs.Places as place
use Rattle.tally.specs.Entry.{most_lists, full, below_to, has_room, figures_lengths, figures_number}
use Rattle.tally.proofs.Rooms.{below_each}
use Rattle.claims.specs.Figures.{total, Room, RightFigures, Settled}
use Rattle.claims.proofs.Carried.{right_lengths, lengths_right}

-- ---- room
pub below_all : (m : ℕ) (f : List ℕ) (k : ℕ) → ((j : ℕ) → j < k → total f j < m) → below_to m f k ≡ true
below_all m f zero h = refl
below_all m f (suc k) h =
    and_both (below_to m f k) (ltb (total f k) m) (below_all m f k (λ j l. h j (omega arith))) (lt-ltb (total f k) m (h k (omega arith)))

pub has_room_lem : (f : List ℕ) → (has_room f ≡ true) ↔ Room f
unfolding has_room
has_room_lem f = (
  λ h. let both = halves h in record { lists = ltb-true (total f place.lists) most_lists both.0; each = below_each full f place.figures both.1 },
  λ r. and_both _ _ (lt-ltb (total f place.lists) most_lists r.lists) (below_all full f place.figures r.each),
)

-- ---- lengths
right_figures : (t es places f : List ℕ) → (figures_lengths t es places f ≡ true) ↔ RightFigures t es places f
unfolding figures_lengths
right_figures t es places f = (
  λ h. let both = halves h in (right_lengths t es places both.0, eqb-true (length f) place.figures both.1),
  λ r. and_both _ _ (lengths_right t es places r.0) (eq-eqb (length f) place.figures r.1),
)

-- ---- two tests, one after the other, of which the first says whether P holds, and the second whether Q does
module _ (P Q : Type 0) where
  abbrev Three : Bool → Bool → Type 0
  Three a b =
      let n : ℕ = cond a (cond b 0 60) 20 in
      ((n ≡ 0) ↔ (P × Q)) × ((n ≡ 60) ↔ (P × (Q → ⊥))) × ((n ≡ 20) ↔ (P → ⊥))

  three : (a b : Bool) → (a ≡ true) ↔ P → (b ≡ true) ↔ Q → Three a b
  three true true p q = (
    (λ h. (p.0 refl, q.0 refl), λ h. refl),
    (λ h. absurd (omega arith), λ h. absurd (h.1 (q.0 refl))),
    (λ h. absurd (omega arith), λ h. absurd (h (p.0 refl))),
  )
  three true false p q = (
    (λ h. absurd (omega arith), λ h. absurd (true≢false (sym (q.1 h.1)))),
    (λ h. (p.0 refl, λ z. true≢false (sym (q.1 z))), λ h. refl),
    (λ h. absurd (omega arith), λ h. absurd (h (p.0 refl))),
  )
  three false b p q = (
    (λ h. absurd (omega arith), λ h. absurd (true≢false (sym (p.1 h.0)))),
    (λ h. absurd (omega arith), λ h. absurd (true≢false (sym (p.1 h.0)))),
    (λ h. λ z. true≢false (sym (p.1 z)), λ h. refl),
  )

pub settled : Settled
unfolding figures_number
settled t es places f =
    let r = three (RightFigures t es places f) (Room f) (figures_lengths t es places f) (has_room f) (right_figures t es places f) (has_room_lem f) in
    record { done = r.0; many = r.1; wrong = r.2 }
