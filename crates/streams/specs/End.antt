-- This is how a list of events ends, as it is read.
use Rattle.std.specs.Prelude.{ℕ, ◌*◌, ◌≡◌, ◌<◌, ⊤}
use Rattle.rules.specs.Records.{event_size, most_events}
use Rattle.streams.specs.declared.End.{End}
use Rattle.streams.specs.declared.End.TheVariants.{Full, Left, Failed}

-- a list whose whole events have n octets ends so: a full one has all its events, and what is left over of one that is not is no event
abbrev pub Ends : End → ℕ → Type 0
Ends Full n = n ≡ event_size * most_events
Ends (Left k) n = k < event_size
Ends (Failed why) n = ⊤
