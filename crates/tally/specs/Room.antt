-- What the totals must have before something is added to them: the places, and room in 64 bits.
use Rattle.std.specs.Prelude.{ℕ, ◌+◌, ◌<◌, ◌≡◌, List, length, get_or}
use Rattle.rules.specs.Records.{most_events}
use Rattle.tally.specs.Places as place
use Rattle.tally.specs.Entry.{full}

abbrev pub beyond : ℕ  -- no total reaches 2^64
beyond = full + most_events

abbrev pub HasPlace : ℕ → List ℕ → ℕ → Type 0  -- the totals f have place p, and n may be added there
HasPlace n f p = (p < length f) × (get_or f p 0 + n < beyond)

-- there are 95 totals, and n may be added to each
pub record HasRoomFor (n : ℕ) (f : List ℕ) : Type 0 where
  pub all : length f ≡ place.figures
  pub room : (j : ℕ) → j < place.figures → get_or f j 0 + n < beyond
