-- This is 02, L1, "The day's figures": the place of each total among the 95 that a caller lends.
use Rattle.std.specs.Prelude.{ℕ, ◌+◌, ◌*◌}

abbrev pub lists : ℕ  -- lists added
lists = 0

abbrev pub start : ℕ  -- holders at the start
start = 1

abbrev pub seized : ℕ  -- seizures
seized = 2

abbrev pub released : ℕ  -- releases
released = 3

abbrev pub lost : ℕ  -- lost holders
lost = 4

abbrev pub end : ℕ  -- holders at the end
end = 5

-- "a five by five count of lost holders by the taker's level and the loser's"
abbrev pub lost_by_level : ℕ → ℕ → ℕ
lost_by_level taker loser = 6 + 5 * taker + loser

abbrev pub answered : ℕ → ℕ  -- "events by answer number", each below 64
answered number = 31 + number

abbrev pub figures : ℕ  -- how many totals there are
figures = 95
