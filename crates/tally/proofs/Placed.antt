-- What an event adds at each place of the totals.
use Prim.Native.Nat.{ℕ, ◌+◌, ◌*◌, ◌<◌, ◌≤◌}
use mathlib.Core.Path.{◌≡◌, refl, sym, ap, ◌∙◌}
use mathlib.Core.Logic.{◌≢◌}
use mathlib.Core.Bool.{Bool, true, false, cond}
use native.Mathlib.Omega.{arith}
use borrow.Author.Tests.{eq-eqb, ne_eqb}
use Rattle.octets.proofs.Tests.{by_eq, by_so}
use Rattle.rules.specs.declared.event.Event.{Event}
use Rattle.rules.specs.declared.answer.Answer.{Answer}
use Rattle.tally.specs.Places as place
use Rattle.tally.specs.Shares.{at, one, is_seizure, is_release, adds, shares}

pub at_on : (p n j : ℕ) → p ≡ j → at p n j ≡ n
at_on p n j h = ap (λ (b : Bool). cond b n 0) (eq-eqb p j h)

pub at_off : (p n j : ℕ) → p ≢ j → at p n j ≡ 0
at_off p n j h = ap (λ (b : Bool). cond b n 0) (ne_eqb p j h)

pub at_le : (p n j : ℕ) → at p n j ≤ n
at_le p n j = by_eq p j (λ z. omega (arith, at_on p n j z)) (λ z. omega (arith, at_off p n j z))

-- the same, o places further on
pub at_shifted : (o p q n j : ℕ) → q ≡ o + p → at q n (o + j) ≡ at p n j
at_shifted o p q n j h =
    by_eq p j (λ z. at_on q n (o + j) (omega arith) ∙ sym (at_on p n j z)) (λ z. at_off q n (o + j) (λ w. z (omega arith)) ∙ sym (at_off p n j z))

pub one-most : (b : Bool) → one b ≤ 1
one-most true = omega arith
one-most false = omega arith

-- what is added at one place, and elsewhere at most m, is at most m where it is so at that place
pub at_most : (p n m : ℕ) (g : ℕ → ℕ) → n + g p ≤ m → ((j : ℕ) → g j ≤ m) → (j : ℕ) → at p n j + g j ≤ m
at_most p n m g here elsewhere j =
    by_eq p j (λ z. let a = at_on p n j z in let b = ap g z in omega arith) (λ z. omega (arith, at_off p n j z, elsewhere j))

-- ---- event e, answered by a
module _ (e : Event) (a : Answer) where
  abbrev kind : ℕ
  kind = e.kind

  abbrev k : ℕ  -- the number of its answer
  k = a.number

  abbrev lost : Bool  -- whether a holder was lost by it
  lost = a.call.present

  abbrev levels : ℕ  -- the place of the two levels among the 25
  levels = 5 * e.mark.level.0 + a.call.mark.level.0

  abbrev p : ℕ  -- the place of the two levels among all
  p = place.lost_by_level e.mark.level.0 a.call.mark.level.0

  -- nothing of the two levels or of the number falls below place 6
  module _ (j : ℕ) (l : j < 6) where
    off_level : at p (one lost) j ≡ 0
    off_level = at_off p (one lost) j (λ z. omega arith)

    off_number : at (place.answered k) 1 j ≡ 0
    off_number = at_off (place.answered k) 1 j (λ z. omega arith)

  pub shares-seized : shares e a place.seized ≡ one (is_seizure kind k)
  unfolding adds
  shares-seized = omega (arith, off_level 2 (omega arith), off_number 2 (omega arith))

  pub shares-released : shares e a place.released ≡ one (is_release k)
  unfolding adds
  shares-released = omega (arith, off_level 3 (omega arith), off_number 3 (omega arith))

  pub shares-lost : shares e a place.lost ≡ one lost
  unfolding adds
  shares-lost = omega (arith, off_level 4 (omega arith), off_number 4 (omega arith))

  -- of the first six places, seizures, releases and lost holders have one each
  pub shares-none : (j : ℕ) → j < 6 → j ≢ place.seized → j ≢ place.released → j ≢ place.lost → shares e a j ≡ 0
  unfolding adds
  shares-none j l x y z =
      omega (arith, at_off 2 (one (is_seizure kind k)) j (λ w. x (sym w)), at_off 3 (one (is_release k)) j (λ w. y (sym w)), at_off 4 (one lost) j (λ w. z (sym w)), off_level j l, off_number j l)

  -- from place 6 on there are the two levels and the number
  from_six : (j : ℕ) → 6 ≤ j → shares e a j ≡ at p (one lost) j + at (place.answered k) 1 j
  unfolding adds
  from_six j l =
      omega (arith, at_off 2 (one (is_seizure kind k)) j (λ z. omega arith), at_off 3 (one (is_release k)) j (λ z. omega arith), at_off 4 (one lost) j (λ z. omega arith))

  pub shares_by_level : (i : ℕ) → i < 25 → shares e a (6 + i) ≡ at levels (one lost) i
  shares_by_level i l =
      omega (arith, from_six (6 + i) (omega arith), at_off (place.answered k) 1 (6 + i) (λ z. omega arith), at_shifted 6 levels p (one lost) i (omega arith))

  -- where a holder is lost, the place of the two levels stands before those of the numbers
  module _ (within : lost ≡ true → p < 31) where
    level_off : (j : ℕ) → 31 ≤ j → at p (one lost) j ≡ 0
    level_off j l =
        by_so lost (λ t. at_off p (one lost) j (λ z. omega (arith, within t)))
        (λ t. let none = ap one t in omega (arith, at_le p (one lost) j))

    pub shares-answered : (i : ℕ) → shares e a (31 + i) ≡ at k 1 i
    shares-answered i =
        omega (arith, from_six (31 + i) (omega arith), level_off (31 + i) (omega arith), at_shifted 31 k (place.answered k) 1 i refl)

    -- an event adds at most 1 at each place: each test has a place of its own
    pub shares-most : (j : ℕ) → shares e a j ≤ 1
    unfolding adds
    shares-most j =
        let g = at (place.answered k) 1 in
        let h : ℕ → ℕ = λ j. at p (one lost) j + g j in
        let number : (j : ℕ) → g j ≤ 1 = at_le (place.answered k) 1 in
        let level : (j : ℕ) → h j ≤ 1 = at_most p (one lost) 1 g (apart (number p)) number in
        let low : (j : ℕ) → j < 6 → h j ≡ 0 = λ j l. omega (arith, off_level j l, off_number j l) in
        let loss = at_most 4 (one lost) 1 h (omega (arith, one-most lost, low 4 (omega arith))) level in
        let release = at_most 3 (one (is_release k)) 1 (λ j. at 4 (one lost) j + h j) (omega (arith, one-most (is_release k), low 3 (omega arith))) loss in
        let seizure = at_most 2 (one (is_seizure kind k)) 1 (λ j. at 3 (one (is_release k)) j + (at 4 (one lost) j + h j)) (omega (arith, one-most (is_seizure kind k), low 2 (omega arith))) release in
        omega (arith, seizure j)
      where
        apart : at (place.answered k) 1 p ≤ 1 → one lost + at (place.answered k) 1 p ≤ 1
        apart h =
            by_so lost (λ t. let l = within t in omega (arith, one-most lost, at_off (place.answered k) 1 p (λ z. omega arith)))
            (λ t. let none = ap one t in omega arith)
