-- What events add to a total, one after another: over two lists, and at most 1 for each event. In any layout.
use Prim.Native.Nat.{ℕ, ◌+◌, ◌<◌, ◌≤◌}
use mathlib.Core.Path.{◌≡◌, refl}
use mathlib.Core.Bool.{true}
use mathlib.Core.List.{List, [], ◌∷◌, ◌++◌}
use native.Mathlib.Omega.{arith}
use lib.ListN.{length}
use Rattle.rules.specs.Layout.{Layout}
use Rattle.rules.specs.Run.{after, answered, run}
use Rattle.tally.specs.Places as place
use Rattle.tally.specs.Shares.{shares, events_add}
use Rattle.tally.proofs.Placed.{shares-most}
use Rattle.tally.proofs.Levels.{lost-levels}

module _ {S : Type 0} (L : Layout S) where
  -- what two lists add one after the other, they add as one list
  pub events-append : (es fs : List (List ℕ)) (s : S) (j : ℕ) → events_add L s (es ++ fs) j ≡ events_add L s es j + events_add L (run L s es) fs j
  events-append [] fs s j = omega arith
  events-append (e ∷ es) fs s j = omega (arith, events-append es fs (after L s e) j)

  -- where no event adds anything, a list adds nothing
  pub events-none : (j : ℕ) → ((s : S) (e : List ℕ) → shares (L.event e) (answered L s e) j ≡ 0) → (es : List (List ℕ)) (s : S) → events_add L s es j ≡ 0
  events-none j h [] s = refl
  events-none j h (e ∷ es) s = omega (arith, h s e, events-none j h es (after L s e))

  -- a lost holder's two levels have a place before those of the numbers
  pub level-place : (s : S) (e : List ℕ) → let a = answered L s e in a.call.present ≡ true → place.lost_by_level (L.event e).mark.level.0 a.call.mark.level.0 < 31
  level-place s e h = let t = lost-levels L s e h in omega (arith, t.taker-level, t.loser-level)

  pub event-most : (s : S) (e : List ℕ) (j : ℕ) → shares (L.event e) (answered L s e) j ≤ 1
  event-most s e = shares-most (L.event e) (answered L s e) (level-place s e)

  pub events-most : (es : List (List ℕ)) (s : S) (j : ℕ) → events_add L s es j ≤ length es
  events-most [] s j = omega arith
  events-most (e ∷ es) s j = omega (arith, event-most s e j, events-most es (after L s e) j)
