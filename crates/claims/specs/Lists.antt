-- Lists of events are given to the list entry one after another, and leave a past.
use Rattle.std.specs.Prelude.{ℕ, zero, suc, ◌/◌, cond, List, [], ◌∷◌, ◌++◌, length, eqb}
use Rattle.rules.specs.Numbers.{done}
use Rattle.rules.specs.Records.{event_size, event_in, answer_in}
use Rattle.route.specs.Entries.{list_number, list_table, list_answers}
use Rattle.claims.specs.History.{Turn}

-- what is lent beside the table: events, and places for their answers; of any length and content
pub record EventList : Type 0 where
  pub events : List ℕ
  pub places : List ℕ

-- the first n events, each with the answer at its place
abbrev pub turns_to : List ℕ → List ℕ → ℕ → List Turn
turns_to events answers zero = []
turns_to events answers (suc n) =
    turns_to events answers n ++ (record { event = event_in events n; answer = answer_in answers n } ∷ [])

-- what a list adds to the past, given with table t: each event with the answer left for it, if 0 came back; nothing if 20 did
unfoldable pub turns : List ℕ → EventList → List Turn
turns t l =
    cond (eqb (list_number t l.events l.places) done)
    (turns_to l.events (list_answers t l.events l.places) (length l.events / event_size))
    []

abbrev pub table_after : List ℕ → List EventList → List ℕ  -- the table after lists one after another
table_after t [] = t
table_after t (l ∷ ls) = table_after (list_table t l.events l.places) ls

abbrev pub past : List ℕ → List EventList → List Turn  -- all that was asked and answered, the oldest first
past t [] = []
past t (l ∷ ls) = turns t l ++ past (list_table t l.events l.places) ls
