-- The room of the totals: what was asked of them before the first event, and what that gives at each place.
use Prim.Native.Nat.{ℕ, zero, suc, ◌<◌, ◌≤◌}
use mathlib.Core.Path.{◌≡◌, refl, sym, ◌∙◌}
use mathlib.Core.Bool.{Bool, true, true≢false}
use mathlib.Core.List.{List}
use native.Mathlib.Nat.{not-suc-le-zero}
use native.Mathlib.Omega.{arith}
use lib.ListN.{length, get_or}
use lib.Dec.{ltb}
use borrow.Author.Tests.{ltb-true, lt-ltb}
use Rattle.octets.proofs.Tests.{and_on, and_left, and_right, and_both, by_so, not_so}
use Rattle.octets.proofs.Spans.{grow}
use Rattle.rules.specs.Records.{most_events}
use Rattle.std.specs.Prelude.{IsTrue, ◌↔◌, EachIndex}
use Rattle.tally.specs.Places as place
use Rattle.tally.specs.Entry.{most_lists, full, below_to, has_room}
use Rattle.tally.specs.Room.{HasPlace, HasRoomFor}

pub below_each : (m : ℕ) (f : List ℕ) (k : ℕ) → below_to m f k ≡ true → (j : ℕ) → j < k → get_or f j 0 < m
below_each m f zero h = λ j l. absurd (not-suc-le-zero l)
below_each m f (suc k) h =
    let last = ltb (get_or f k 0) m in
    grow (λ (j : ℕ). get_or f j 0 < m) k (below_each m f k (and_left (below_to m f k) last h)) (ltb-true (get_or f k 0) m (and_right (below_to m f k) last h))

all-below : (m : ℕ) (f : List ℕ) (k : ℕ) → ((j : ℕ) → j < k → get_or f j 0 < m) → below_to m f k ≡ true
all-below m f zero h = refl
all-below m f (suc k) h =
    and_both (below_to m f k) (ltb (get_or f k 0) m) (all-below m f k (λ j l. h j (omega arith))) (lt-ltb (get_or f k 0) m (h k (omega arith)))

-- the totals are few enough lists, and the test of each total says whether there is room
pub by_each : (f : List ℕ) (b : Bool) → length f ≡ place.figures → get_or f place.lists 0 < most_lists → IsTrue b ↔ EachIndex f (λ j. get_or f j 0 < full) → b ≡ has_room f
unfolding has_room
by_each f b long few h =
    and_on (ltb (get_or f place.lists 0) most_lists) (below_to full f place.figures) refl (lt-ltb (get_or f place.lists 0) most_lists few) (each b h)
  where
    each : (b : Bool) → IsTrue b ↔ EachIndex f (λ j. get_or f j 0 < full) → b ≡ below_to full f place.figures
    each b h =
        by_so b (λ t. t ∙ sym (all-below full f place.figures (λ j l. h.0 t j (omega arith))))
        (λ t. t ∙ sym (not_so (below_to full f place.figures) (λ q. true≢false (sym (h.1 (λ j l. below_each full f place.figures q j (omega arith))) ∙ t))))

pub room_for : (f : List ℕ) → length f ≡ place.figures → has_room f ≡ true → HasRoomFor most_events f
unfolding has_room
room_for f all h =
    let each = below_each full f place.figures (and_right (ltb (get_or f place.lists 0) most_lists) (below_to full f place.figures) h) in
    record { all = all; room = λ j l. omega (arith, each j l) }

pub place_less : {m n : ℕ} {f : List ℕ} (p : ℕ) → p < place.figures → m ≤ n → HasRoomFor n f → HasPlace m f p
place_less p b l h = (omega (arith, h.all), omega (arith, h.room p b))
