-- A holder that was lost has a level, and one that was not has none.
use Prim.Native.Nat.{ℕ, ◌<◌}
use mathlib.Core.Path.{◌≡◌, refl, sym}
use mathlib.Core.Bool.{true, true≢false}
use mathlib.Core.List.{List}
use Rattle.std.specs.Prelude.{Option, Some, None, is_some, IfSome}
use Rattle.rules.specs.declared.level.Level.{Level}
use Rattle.tally.specs.Places as place
use Rattle.tally.specs.Shares.{level_lost}
use Rattle.tally.specs.Room.{HasPlace}

module _ (taker : ℕ) where
  pub lost-below : (lost : Option Level) → IfSome lost (λ l. place.lost_by_level taker l.0 < 31) → is_some lost ≡ true → place.lost_by_level taker (level_lost lost) < 31
  lost-below (Some l) h e = h
  lost-below None h e = absurd (true≢false (sym e))

  pub lost-room : (lost : Option Level) (f : List ℕ) → (is_some lost ≡ true → HasPlace 1 f (place.lost_by_level taker (level_lost lost))) → IfSome lost (λ l. HasPlace 1 f (place.lost_by_level taker l.0))
  lost-room (Some l) f h = h refl
  lost-room None f h = tt
