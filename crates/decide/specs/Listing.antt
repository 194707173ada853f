-- This is 01, "The program and its whole output": one line an event, the events numbered from 1 and running on over lists.
use Rattle.std.specs.Prelude.{ℕ, zero, suc, ◌+◌, ◌*◌, ◌/◌, ◌%◌, ◌≡◌, List, [], ◌++◌, length}
use Rattle.rules.specs.Records.{answer_size, answer_in, most_events}
use Rattle.lines.specs.Event.{line, most_letters}

abbrev pub last_number : ℕ  -- a list that comes after fewer events than this is numbered in 64 bits
last_number = 18446744073709547520

abbrev pub room : ℕ  -- this room is enough for the lines of a list
room = most_events * most_letters

-- the lines of the first k answers, numbered on from the events that were answered before
abbrev pub listing_to : ℕ → List ℕ → ℕ → List ℕ
listing_to before answers zero = []
listing_to before answers (suc k) = listing_to before answers k ++ line (before + suc k) (answer_in answers k)

unfoldable pub listing : ℕ → List ℕ → List ℕ  -- the lines of a list's answers
listing before answers = listing_to before answers (length answers / answer_size)

-- lists one after another give the lines of one long list: the numbers run on
abbrev pub RunningOn : Type 0
RunningOn =
    (before : ℕ) (first second : List ℕ) → length first % answer_size ≡ 0
    → listing before (first ++ second) ≡ listing before first ++ listing (before + length first / answer_size) second
