-- This holds of every table, one that is not valid too: a list is its events one by one, validity is kept, and a refusal changes nothing.
use Rattle.std.specs.Prelude.{ℕ, ◌%◌, ◌≤◌, ◌<◌, ◌*◌, ◌/◌, ◌≡◌, ◌↔◌, ◌≢◌, cond, ◌&&◌, List, [], ◌∷◌, length, replicate, leb}
use Rattle.rules.specs.declared.circuit.Circuit.{Circuit}
use Rattle.rules.specs.Numbers.{cause_of}
use Rattle.rules.specs.Numbers as number
use Rattle.rules.specs.Answer.{no_detail}
use Rattle.rules.specs.Records.{checked, check_number, circuit_size, most_circuits, event_size, most_events, answer_size, answer_number, lost_call, lost_reservation, empty_table, answer_fields, nobody_lost}
use Rattle.route.specs.Entries.{event_number, event_table, event_answer, list_number, list_table, list_answers}
use Rattle.claims.specs.History.{Turn, after_turn}
use Rattle.claims.specs.Lists.{EventList, table_after, past}

-- each event is given to the event entry alone, with a zero answer to write on: it leaves the answer that the past has, and in the end
-- table t is u
abbrev pub EventByEvent : List ℕ → List Turn → List ℕ → Type 0
EventByEvent t [] u = t ≡ u
EventByEvent t (p ∷ ps) u =
    (p.answer ≡ event_answer t p.event (replicate answer_size 0)) × EventByEvent (event_table t p.event (replicate answer_size 0)) ps u

-- "a list is its events one by one, and lists one after another are one long run"
abbrev pub OneByOne : Type 0
OneByOne = (t : List ℕ) (lists : List EventList) → EventByEvent t (past t lists) (table_after t lists)

-- there are 1 to 256 whole circuits, 0 to 4,096 whole events, and a place for the answer to each
pub record RightLengths (t es places : List ℕ) : Type 0 where
  pub circuits : length t % circuit_size ≡ 0
  pub some : circuit_size ≤ length t
  pub most : length t ≤ circuit_size * most_circuits
  pub events : length es % event_size ≡ 0
  pub many : length es ≤ event_size * most_events
  pub answers : length places ≡ answer_size * (length es / event_size)

-- "a list has 0 to 4,096 events and exactly one answer place for each (else 20)": it is carried out exactly at right lengths
abbrev pub CarriedOut : Type 0
CarriedOut = (t es places : List ℕ) → (list_number t es places ≡ number.done) ↔ RightLengths t es places

-- a list of one event leaves what the event entry leaves; so demand 3 is the event entry's too
abbrev pub ListOfOne : Type 0
ListOfOne =
    (t e place : List ℕ) → length e ≡ event_size → (list_table t e place ≡ event_table t e place) × (list_answers t e place ≡ event_answer t e place)

-- the event entry returns the number of the answer that it leaves, or 20
abbrev pub ReturnsNumber : Type 0
ReturnsNumber =
    (t e place : List ℕ) → event_number t e place ≢ number.wrong_length → event_number t e place ≡ answer_number (event_answer t e place)

-- "every event keeps a valid table valid": the check gives the number and the record that it gave, after an event and after a list
abbrev pub EventKeepsValid : Type 0
EventKeepsValid = (t e place : List ℕ) → checked (event_table t e place) ≡ checked t

abbrev pub ListKeepsValid : Type 0
ListKeepsValid = (t es places : List ℕ) → checked (list_table t es places) ≡ checked t

-- the check gives 0 after any lists from an empty table
abbrev pub AlwaysValid : Type 0
AlwaysValid = (n : ℕ) → 1 ≤ n → n ≤ most_circuits → (lists : List EventList) → check_number (table_after (empty_table n) lists) ≡ number.done

-- "a refusal changes nothing": the table stays, octet for octet
abbrev pub RefusalKeepsTable : Type 0
RefusalKeepsTable = (t e place : List ℕ) → number.wrong_length ≤ event_number t e place → event_table t e place ≡ t

-- the detail of a refusal by number k over table t: the record that the check gives at 41 to 45, and 65535 at the others
abbrev pub refused_detail : List ℕ → ℕ → ℕ
refused_detail t k = cond (leb 41 k && leb k 45) (checked t).detail no_detail

-- the answer to a refused event is the number, the cause, the detail of a refusal and zeros; at 20 nothing is written
abbrev pub RefusalAnswers : Type 0
RefusalAnswers =
    (t e place : List ℕ) → number.wrong_length < event_number t e place
    → let k = event_number t e place in event_answer t e place ≡ answer_fields k (cause_of k) (refused_detail t k) nobody_lost nobody_lost

-- a refusal keeps what the history shows, whatever circuit it showed; by HistoryTells the history is the table's own
abbrev pub RefusalKeepsHistory : Type 0
RefusalKeepsHistory = (p : Turn) (c : ℕ) (y : Circuit) → number.wrong_length ≤ answer_number p.answer → after_turn p c y ≡ y

-- a list that is refused by 20 writes nothing
abbrev pub RefusedList : Type 0
RefusedList =
    (t es places : List ℕ) → list_number t es places ≡ number.wrong_length → (list_table t es places ≡ t) × (list_answers t es places ≡ places)

-- "The fields at 4 and 10 are filled for answers 2 and 4 only", and 02, L4: "a reservation above it is lost and named in octets 10-15".
-- So octets 4-9 are zero but at 2, and octets 10-15 but at 2, 4 and 8.
pub record OnlyAt (t e place : List ℕ) : Type 0 where
  pub call : event_number t e place ≢ number.seized_with_loss → lost_call (event_answer t e place) ≡ nobody_lost
  pub reservation :
      event_number t e place ≢ number.seized_with_loss → event_number t e place ≢ number.reserved_with_loss
      → event_number t e place ≢ number.unmarked → lost_reservation (event_answer t e place) ≡ nobody_lost

abbrev pub NamedOnlyAt : Type 0
NamedOnlyAt = (t e place : List ℕ) → event_number t e place ≢ number.wrong_length → OnlyAt t e place
