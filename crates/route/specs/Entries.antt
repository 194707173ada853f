-- This is 01, "Numbers given back": what one event, or a list, gives back and leaves in table and answers. At 20 no buffer is written.
use Rattle.std.specs.Prelude.{ℕ, zero, suc, ◌/◌, Bool, cond, ◌&&◌, length, eqb, Result, Ok, Err}
use mathlib.Core.List.{List, [], ◌∷◌, ◌++◌, flatten}
use Rattle.route.specs.declared.WrongLength.{WrongLength}
use Rattle.rules.specs.Numbers.{done, wrong_length}
use Rattle.rules.specs.Run.{after, answered, answer_record, run, answer_records}
use Rattle.rules.specs.Records.{records, table_length, event_size, event_in, answer_size, list_length}

-- ---- one event: table t, event e, answer a
-- the lengths are those of a table, of one event and of one answer
unfoldable pub event_lengths : List ℕ → List ℕ → List ℕ → Bool
event_lengths t e a = table_length (length t) && (eqb (length e) event_size && eqb (length a) answer_size)

unfoldable pub event_number : List ℕ → List ℕ → List ℕ → ℕ  -- the number of the event's answer, or 20
event_number t e a = cond (event_lengths t e a) (answered records t e).number wrong_length

abbrev pub event_number_of : Result ℕ WrongLength → ℕ  -- the number by which the event entry's result is given back
event_number_of (Ok number) = number
event_number_of (Err refusal) = wrong_length

unfoldable pub event_table : List ℕ → List ℕ → List ℕ → List ℕ  -- the table after the event
event_table t e a = cond (event_lengths t e a) (after records t e) t

unfoldable pub event_answer : List ℕ → List ℕ → List ℕ → List ℕ  -- the record of the event's answer
event_answer t e a = cond (event_lengths t e a) (answer_record records t e) a

-- ---- a list: table t, events es, answer places
abbrev pub events_to : List ℕ → ℕ → List (List ℕ)  -- the first n events of a list
events_to es zero = []
events_to es (suc n) = events_to es n ++ (event_in es n ∷ [])

unfoldable pub events_in : List ℕ → List (List ℕ)  -- all whole events of a list
events_in es = events_to es (length es / event_size)

-- the lengths are those of a table, of 0 to 4,096 events and exactly one answer place for each
unfoldable pub list_lengths : List ℕ → List ℕ → List ℕ → Bool
list_lengths t es places = table_length (length t) && list_length (length es) (length places)

unfoldable pub list_number : List ℕ → List ℕ → List ℕ → ℕ  -- a list returns only 0 or 20
list_number t es places = cond (list_lengths t es places) done wrong_length

abbrev pub list_number_of : Result Unit WrongLength → ℕ  -- the number by which the list entry's result is given back
list_number_of (Ok u) = done
list_number_of (Err refusal) = wrong_length

-- a list equals its events applied one by one
unfoldable pub list_table : List ℕ → List ℕ → List ℕ → List ℕ
list_table t es places = cond (list_lengths t es places) (run records t (events_in es)) t

unfoldable pub list_answers : List ℕ → List ℕ → List ℕ → List ℕ  -- the answer record of each event of a list, one after another
list_answers t es places = cond (list_lengths t es places) (flatten (answer_records records t (events_in es))) places
