-- This is 02, L1, "The day's figures": what figures writes by tables and their events, in one definition.
use Rattle.std.specs.Prelude.{ℕ, ◌+◌, ◌/◌, ◌%◌, ◌≤◌, ◌≡◌, cond, true, List, [], ◌∷◌, ◌++◌, length, replicate, eqb}
use Rattle.rules.specs.Run.{run}
use Rattle.rules.specs.Numbers.{done}
use Rattle.rules.specs.Records.{circuit_size, most_circuits, event_size, records, checked, check_number}
use Rattle.route.specs.Entries.{events_in}
use Rattle.tally.specs.Places as place
use Rattle.tally.specs.Shares.{holders, events_add, list_adds}
use Rattle.tally.specs.Entry.{added, has_room}
use Rattle.lines.specs.Event.{short, bad_table}
use Rattle.lines.specs.Figures.{figures_text}

abbrev pub Sized : ℕ → Type 0  -- a table of n octets is 1 to 256 circuits
Sized n = (n % circuit_size ≡ 0) × (1 ≤ n / circuit_size) × (n / circuit_size ≤ most_circuits)

-- ---- one list of the program, whose lengths are right: table t, events es, totals f; it is refused by 60 where the totals have no room
unfoldable pub listed_table : List ℕ → List ℕ → List ℕ → List ℕ  -- the table after the list
listed_table t es f = cond (has_room f) (run records t (events_in es)) t

unfoldable pub listed_totals : List ℕ → List ℕ → List ℕ → List ℕ  -- the totals with what the list adds
listed_totals t es f = cond (has_room f) (added (list_adds records t (events_in es)) f) f

-- ---- the whole output, by tables and their events: the file circuits.bin and standard input, or files by name
pub record Pair : Type 0 where
  pub table : List ℕ
  pub input : List ℕ

abbrev pub events_of : Pair → List (List ℕ)  -- all whole events of the input
events_of p = events_in p.input

abbrev pub start_of : List Pair → ℕ  -- the holders of each table, once in its file
start_of [] = 0
start_of (p ∷ ps) = holders records p.table + start_of ps

abbrev pub end_of : List Pair → ℕ  -- the holders of each table, once after its last event
end_of [] = 0
end_of (p ∷ ps) = holders records (run records p.table (events_of p)) + end_of ps

abbrev pub totals_of : List Pair → List ℕ → List ℕ  -- the totals f with what all events of all inputs add
totals_of [] f = f
totals_of (p ∷ ps) f = totals_of ps (added (events_add records p.table (events_of p)) f)

-- the line for a last part of n octets, n from 1 to 15, for each input that has one, in their order
abbrev pub shorts_of : List Pair → List ℕ
shorts_of [] = []
shorts_of (p ∷ ps) = let n = length p.input % event_size in cond (eqb n 0) [] (short n) ++ shorts_of ps

-- the first table that the check refuses gives the only line; else this text is written
abbrev pub unless_bad : List Pair → List ℕ → List ℕ
unless_bad [] text = text
unless_bad (p ∷ ps) text = cond (eqb (check_number p.table) done) (unless_bad ps text) (bad_table (checked p.table))

abbrev pub no_totals : List ℕ  -- the totals before the first list
no_totals = replicate place.figures 0

-- the totals of all pairs are written once, at the end, and behind them the lines for the last parts; so it is as far as 65,536 lists go
unfoldable pub output : List Pair → List ℕ
output ps = unless_bad ps (figures_text (start_of ps) (end_of ps) (totals_of ps no_totals) ++ shorts_of ps)

-- events taken as lists one after another give the text of all of them: what the first list left, and then what the rest adds over the
-- table that the list left, is what all of them add; the text shows none of the totals to which a list adds more than its events do
abbrev pub ListByList : Type 0
ListByList =
    (start end : ℕ) (t first f : List ℕ) (rest : List (List ℕ)) → length f ≡ place.figures → has_room f ≡ true
    → figures_text start end (added (events_add records (listed_table t first f) rest) (listed_totals t first f))
    ≡ figures_text start end (added (events_add records t (events_in first ++ rest)) f)
