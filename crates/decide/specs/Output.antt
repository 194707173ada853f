-- This is 01, "The program and its whole output": what decide writes by a table file and standard input, in one definition.
use Rattle.std.specs.Prelude.{ℕ, ◌+◌, ◌/◌, ◌%◌, ◌≡◌, cond, true, length, eqb}
use mathlib.Core.List.{List, [], ◌++◌, flatten}
use Rattle.rules.specs.Run.{answer_records}
use Rattle.rules.specs.Numbers.{done}
use Rattle.rules.specs.Records.{event_size, records, checked, check_number}
use Rattle.route.specs.Entries.{events_in, list_lengths, list_table, list_answers}
use Rattle.lines.specs.Event.{header, short, bad_table}
use Rattle.decide.specs.Listing.{listing}

unfoldable pub answers_to : List ℕ → List ℕ → List ℕ  -- the answers to all whole events of the input, one by one
answers_to t input = flatten (answer_records records t (events_in input))

abbrev pub left_over : ℕ → List ℕ  -- the line for a last part of n octets, n from 1 to 15; there is none where n is 0
left_over n = cond (eqb n 0) [] (short n)

-- a table that the check refuses gives the only line; else the header, a line an event and the line for the last part are written
unfoldable pub output : List ℕ → List ℕ → List ℕ
output t input =
    cond (eqb (check_number t) done) (header ++ listing 0 (answers_to t input) ++ left_over (length input % event_size)) (bad_table (checked t))

-- events taken as lists one after another give the lines of all of them: those of the first list, and after them those of the rest over
-- the table that the list left
abbrev pub ListByList : Type 0
ListByList =
    (before : ℕ) (t first places rest : List ℕ) → list_lengths t first places ≡ true
    → listing before (answers_to t (first ++ rest))
    ≡ listing before (list_answers t first places) ++ listing (before + length first / event_size) (answers_to (list_table t first places) rest)
