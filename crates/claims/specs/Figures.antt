-- The customer says of the day's figures (02, L1): "The figures must close: holders at the start plus seizures equal releases plus lost
-- holders plus holders at the end, with holders counted in the two tables and the rest from events and answers, none as the remainder.
-- Several files are added up: 64-bit totals that never overflow, at most 65,536 lists. Refusals: 60 for a list too many, after 20; a
-- refused list adds nothing."
use Rattle.std.specs.Prelude.{ℕ, zero, suc, ◌+◌, ◌*◌, ◌/◌, ◌<◌, ◌≤◌, ◌≡◌, ◌↔◌, ◌≢◌, Bool, true, ◌&&◌, ◌||◌, List, [], ◌∷◌, ◌++◌, length, get_or, replicate, eqb}
use Rattle.rules.specs.Numbers as number
use Rattle.rules.specs.declared.circuit.Circuit.{Circuit}
use Rattle.rules.specs.Run.{run}
use Rattle.rules.specs.Records.{circuit_at, records, event_size, most_events, answer_number, answer_detail, lost_call, is_lost, empty_table}
use Rattle.route.specs.Entries.{list_number, list_table, list_answers}
use Rattle.tally.specs.Places as place
use Rattle.tally.specs.Shares.{one, holders}
use Rattle.tally.specs.Entry.{too_many_lists, most_lists, figures_lengths, figures_number, figures_table, figures_answers, figures_totals}
use Rattle.claims.specs.History.{Turn, asked, history}
use Rattle.claims.specs.Lists.{EventList, turns, table_after, past}
use Rattle.claims.specs.OneByOne.{RightLengths}

abbrev pub total : List ℕ → ℕ → ℕ  -- total j
total f j = get_or f j 0

abbrev pub no_figures : List ℕ  -- totals before the first list: all zero
no_figures = replicate place.figures 0

-- "holders at the start plus seizures equal releases plus lost holders plus holders at the end"
abbrev pub Closes : List ℕ → Type 0
Closes f =
    total f place.start + total f place.seized ≡ total f place.released + total f place.lost + total f place.end

-- ---- many lists, each over a table of its own
pub record TableList : Type 0 where
  pub table : List ℕ
  pub list : EventList

abbrev pub add_list : List ℕ → TableList → List ℕ  -- the totals after one more list
add_list f l = figures_totals l.table l.list.events l.list.places f

abbrev pub number_of : List ℕ → TableList → ℕ  -- the number that this list gets
number_of f l = figures_number l.table l.list.events l.list.places f

abbrev pub totals_after : List ℕ → List TableList → List ℕ  -- the totals after lists one after another, refused ones too
totals_after f [] = f
totals_after f (l ∷ ls) = totals_after (add_list f l) ls

abbrev pub carried_out : List ℕ → List TableList → ℕ  -- how many of the lists got number 0
carried_out f [] = 0
carried_out f (l ∷ ls) = one (eqb (number_of f l) number.done) + carried_out (add_list f l) ls

-- "The figures must close": totals that close still close after any list, so from zeros after any lists over any tables
pub record FiguresClose : Type 0 where
  pub still : (f : List ℕ) (l : TableList) → Closes f → Closes (add_list f l)
  pub always : (ls : List TableList) → Closes (totals_after no_figures ls)

-- ---- many lists over one table
pub record Figured : Type 0 where
  pub table : List ℕ
  pub totals : List ℕ

abbrev pub figured : Figured → EventList → Figured  -- table and totals after one more list
figured s l =
    record {
      table = figures_table s.table l.events l.places s.totals;
      totals = figures_totals s.table l.events l.places s.totals;
    }

abbrev pub figured_after : Figured → List EventList → Figured
figured_after s [] = s
figured_after s (l ∷ ls) = figured_after (figured s l) ls

-- "nobody appears or vanishes": over one table, valid or not, and any lists, its holders at the start and all seizures equal all releases,
-- all lost holders and its holders at the end
abbrev pub OneRoute : Type 0
OneRoute =
    (t : List ℕ) (lists : List EventList)
    → let s = figured_after (record { table = t; totals = no_figures }) lists in
    holders records t + total s.totals place.seized
    ≡ total s.totals place.released + total s.totals place.lost + holders records s.table

abbrev pub sum_to : (ℕ → ℕ) → ℕ → ℕ  -- n 0 and n 1 and so on below k, together
sum_to n zero = 0
sum_to n (suc k) = sum_to n k + n k

-- what a list that is carried out does to the totals f
module _ (t es places f : List ℕ) where
  abbrev pub g : List ℕ  -- the totals after it
  g = figures_totals t es places f

  -- "events by answer number": the 64 answer totals together grow by the number of events
  abbrev pub GrowsByEvents : Type 0
  GrowsByEvents =
      sum_to (λ k. total g (place.answered k)) 64 ≡ sum_to (λ k. total f (place.answered k)) 64 + length es / event_size

  -- "a five by five count of lost holders": the 25 together grow as the lost holders do, and none grows where the loser is not strictly
  -- lower than the taker
  pub record GrowsByLosses : Type 0 where
    pub together : sum_to (λ k. total g (6 + k)) 25 + total f place.lost ≡ sum_to (λ k. total f (6 + k)) 25 + total g place.lost
    pub lower : (taker loser : ℕ) → taker < 5 → loser ≤ taker → total g (place.lost_by_level taker loser) ≡ total f (place.lost_by_level taker loser)

abbrev pub EachOnce : Type 0
EachOnce = (t es places f : List ℕ) → figures_number t es places f ≡ number.done → GrowsByEvents t es places f

abbrev pub LostOnce : Type 0
LostOnce = (t es places f : List ℕ) → figures_number t es places f ≡ number.done → GrowsByLosses t es places f

-- ---- the totals by the turns of the list: its events, each with the answer left for it
-- of how many turns, which came after those before, this holds
abbrev pub count_turns : (List Turn → Turn → Bool) → List Turn → List Turn → ℕ
count_turns f before [] = 0
count_turns f before (p ∷ ps) = one (f before p) + count_turns f (before ++ p ∷ []) ps

abbrev pub count_of : (Turn → Bool) → List Turn → ℕ  -- of how many turns this holds, whatever came before each
count_of f = count_turns (λ before. f) []

abbrev pub answered_by : ℕ → Turn → Bool  -- the answer's number is k
answered_by k p = eqb (answer_number p.answer) k

abbrev pub seizes : Turn → Bool  -- the event is a set-up, and it was answered by 1 or 2
seizes p = eqb (asked p).kind 1 && (answered_by number.seized p || answered_by number.seized_with_loss p)

abbrev pub names_lost : Turn → Bool  -- the answer's octet 4 is 1: it names a holder that was lost
names_lost p = is_lost (lost_call p.answer)

-- "with holders counted in the two tables and the rest from events and answers, none as the remainder", "events by answer number":
-- a list l over any table t, valid or not, leaves the table u and makes the totals f the totals g. A release is an event answered by 5
pub record GrowsByTurns (t : List ℕ) (l : EventList) (f u g : List ℕ) : Type 0 where
  pub all : length g ≡ place.figures
  pub lists : total g place.lists ≡ total f place.lists + 1
  pub start : total g place.start ≡ total f place.start + holders records t
  pub seized : total g place.seized ≡ total f place.seized + count_of seizes (turns t l)
  pub released : total g place.released ≡ total f place.released + count_of (answered_by number.released) (turns t l)
  pub lost : total g place.lost ≡ total f place.lost + count_of names_lost (turns t l)
  pub end : total g place.end ≡ total f place.end + holders records u
  pub answered : (k : ℕ) → k < 64 → total g (place.answered k) ≡ total f (place.answered k) + count_of (answered_by k) (turns t l)

abbrev pub FromAnswers : Type 0
FromAnswers =
    (t : List ℕ) (l : EventList) (f : List ℕ) → figures_number t l.events l.places f ≡ number.done
    → GrowsByTurns t l f (figures_table t l.events l.places f) (figures_totals t l.events l.places f)

-- at turn p, which came after the turns before, a set-up of the taker's level took a circuit from a holder who is shown there just before
-- it under the loser's level
abbrev pub lost_by : (List Turn → ℕ → Circuit) → ℕ → ℕ → List Turn → Turn → Bool
lost_by shows taker loser before p =
    names_lost p
    && (eqb (asked p).mark.level.0 taker && eqb (shows before (answer_detail p.answer)).holder.mark.level.0 loser)

-- "by the taker's level and the loser's": the loser's level is the one that the history shows
abbrev pub LevelShown : Type 0
LevelShown =
    (n : ℕ) (lists : List EventList) (l : EventList) (f : List ℕ)
    → let t = table_after (empty_table n) lists in
    figures_number t l.events l.places f ≡ number.done
    → (taker loser : ℕ) → taker < 5 → loser < 5
    → total (figures_totals t l.events l.places f) (place.lost_by_level taker loser)
    ≡ total f (place.lost_by_level taker loser) + count_turns (lost_by history taker loser) (past (empty_table n) lists) (turns t l)

abbrev pub events_of : List Turn → List (List ℕ)  -- the events of turns
events_of [] = []
events_of (p ∷ ps) = p.event ∷ events_of ps

abbrev pub stands : List ℕ → List Turn → ℕ → Circuit  -- circuit c as it stands in table t after the events of these turns
stands t before c = circuit_at (run records t (events_of before)) c

-- the same over any table t: the loser's level is the one under which the holder stands in the table just before the event
abbrev pub LevelStood : Type 0
LevelStood =
    (t : List ℕ) (l : EventList) (f : List ℕ) → figures_number t l.events l.places f ≡ number.done
    → (taker loser : ℕ) → taker < 5 → loser < 5
    → total (figures_totals t l.events l.places f) (place.lost_by_level taker loser)
    ≡ total f (place.lost_by_level taker loser) + count_turns (lost_by (stands t) taker loser) [] (turns t l)

-- "64-bit totals that never overflow, at most 65,536 lists": totals from zeros after any lists over any tables, refused ones too
module _ (ls : List TableList) where
  abbrev pub day : List ℕ  -- the totals after them
  day = totals_after no_figures ls

  abbrev pub carried : ℕ  -- how many of them were carried out
  carried = carried_out no_figures ls

  pub record Bounded : Type 0 where
    pub counted : total day place.lists ≡ carried
    pub most : carried ≤ most_lists
    pub each : (j : ℕ) → total day j ≤ most_events * carried
    pub small : (j : ℕ) → total day j ≤ 268435456
    -- "60 for a list too many": it comes exactly where 65,536 lists were carried out
    pub exactly : (t es places : List ℕ) → figures_lengths t es places day ≡ true → (figures_number t es places day ≡ too_many_lists) ↔ (carried ≡ most_lists)

abbrev pub NeverFull : Type 0
NeverFull = (ls : List TableList) → Bounded ls

-- another list may be added to the totals f: fewer than 65,536 lists were, and each of the 95 is below 2^64 - 4,096
pub record Room (f : List ℕ) : Type 0 where
  pub lists : total f place.lists < most_lists
  pub each : (j : ℕ) → j < place.figures → total f j < 18446744073709547520

-- table, events and answer places have the lengths of a list, and there are 95 totals
abbrev pub RightFigures : List ℕ → List ℕ → List ℕ → List ℕ → Type 0
RightFigures t es places f = RightLengths t es places × (length f ≡ place.figures)

-- "Refusals: 60 for a list too many, after 20": 20 comes exactly if a length is wrong, 60 exactly if the lengths are right and there is no
-- room, and 0 exactly if the lengths are right and there is room
pub record Settles (t es places f : List ℕ) : Type 0 where
  pub done : (figures_number t es places f ≡ number.done) ↔ (RightFigures t es places f × Room f)
  pub many : (figures_number t es places f ≡ too_many_lists) ↔ (RightFigures t es places f × (Room f → ⊥))
  pub wrong : (figures_number t es places f ≡ number.wrong_length) ↔ (RightFigures t es places f → ⊥)

abbrev pub Settled : Type 0
Settled = (t es places f : List ℕ) → Settles t es places f

-- a list that is added leaves the table and the answers that the list entry leaves
abbrev pub SameAsList : Type 0
SameAsList =
    (t es places f : List ℕ) → figures_number t es places f ≡ number.done
    → (list_number t es places ≡ number.done) × (figures_table t es places f ≡ list_table t es places)
    × (figures_answers t es places f ≡ list_answers t es places)

-- "a refused list adds nothing": nor does it change the table or the answers
abbrev pub AddsNothing : Type 0
AddsNothing =
    (t es places f : List ℕ) → figures_number t es places f ≢ number.done
    → (figures_table t es places f ≡ t) × (figures_answers t es places f ≡ places) × (figures_totals t es places f ≡ f)
