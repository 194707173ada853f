-- What a list adds at each place of the totals.
use Prim.Native.Nat.{ℕ, zero, suc, ◌+◌, ◌/◌, ◌<◌, ◌≤◌}
use mathlib.Core.Path.{◌≡◌, refl, sym, ◌∙◌}
use mathlib.Core.Logic.{◌≢◌}
use mathlib.Core.List.{List, [], ◌∷◌}
use native.Mathlib.Omega.{arith}
use lib.ListN.{length, length-append}
use Rattle.rules.specs.Layout.{Layout}
use Rattle.rules.specs.Run.{answered, run}
use Rattle.rules.specs.Records.{event_size, event_in}
use Rattle.rules.proofs.Searches.{count-le}
use Rattle.rules.proofs.Lawful.{Lawful}
use Rattle.rules.proofs.Kept.{count-run}
use Rattle.route.specs.Entries.{events_to, events_in}
use Rattle.tally.specs.Places as place
use Rattle.tally.specs.Shares.{at, holders, events_add, list_adds}
use Rattle.tally.proofs.Placed.{at_off, at_most, shares-none}
use Rattle.tally.proofs.Shared.{events-none, events-most}

-- as many events as there are
pub length_events_to : (es : List ℕ) (n : ℕ) → length (events_to es n) ≡ n
length_events_to es zero = refl
length_events_to es (suc n) = length-append (events_to es n) (event_in es n ∷ []) ∙ omega (arith, length_events_to es n)

pub length-events : (es : List ℕ) → length (events_in es) ≡ length es / event_size
unfolding events_in
length-events es = length_events_to es (length es / event_size)

module _ {S : Type 0} (L : Layout S) where
  pub holders-most : (s : S) → holders L s ≤ L.count s
  unfolding holders
  holders-most s = count-le (λ i. (L.view s i).holder.present) (L.count s)

  module _ (s : S) (es : List (List ℕ)) where
    -- events count at none of the places of a list itself
    none : (j : ℕ) → j < 6 → j ≢ place.seized → j ≢ place.released → j ≢ place.lost → events_add L s es j ≡ 0
    none j l x y z =
        events-none L j (λ s e. shares-none (L.event e) (answered L s e) j l x y z) es s

    pub none-lists : events_add L s es place.lists ≡ 0
    none-lists = none place.lists (omega arith) (λ z. omega arith) (λ z. omega arith) (λ z. omega arith)

    pub none-start : events_add L s es place.start ≡ 0
    none-start = none place.start (omega arith) (λ z. omega arith) (λ z. omega arith) (λ z. omega arith)

    pub none_end : events_add L s es place.end ≡ 0
    none_end = none place.end (omega arith) (λ z. omega arith) (λ z. omega arith) (λ z. omega arith)

    pub list-lists : list_adds L s es place.lists ≡ 1
    unfolding list_adds
    list-lists = omega (arith, none-lists)

    pub list-start : list_adds L s es place.start ≡ holders L s
    unfolding list_adds
    list-start = omega (arith, none-start)

    pub list-end : list_adds L s es place.end ≡ holders L (run L s es)
    unfolding list_adds
    list-end = omega (arith, none_end)

    -- elsewhere it adds what its events add
    pub list-events : (j : ℕ) → j ≢ place.lists → j ≢ place.start → j ≢ place.end → list_adds L s es j ≡ events_add L s es j
    unfolding list_adds
    list-events j x y z =
        omega (arith, at_off 0 1 j (λ w. x (sym w)), at_off 1 (holders L s) j (λ w. y (sym w)), at_off 5 (holders L (run L s es)) j (λ w. z (sym w)))

    -- it adds at most m at each place, where there are at most m events and at most m circuits
    pub list-most : Lawful L → (m : ℕ) → 1 ≤ m → L.count s ≤ m → length es ≤ m → (j : ℕ) → list_adds L s es j ≤ m
    unfolding list_adds
    list-most W m some circuits many j =
        let g = events_add L s es in
        let u = run L s es in
        let end = at_most place.end (holders L u) m g (omega (arith, none_end, holders-most u, count-run L W es s)) (λ i. omega (arith, events-most L es s i)) in
        let start = at_most place.start (holders L s) m (λ i. at place.end (holders L u) i + g i) (omega (arith, none-start, holders-most s)) end in
        let list = at_most place.lists 1 m (λ i. at place.start (holders L s) i + (at place.end (holders L u) i + g i)) (omega (arith, none-lists)) start in
        omega (arith, list j)
