-- The customer's demand 3 is: "From an empty table of 1 to 256 circuits, after any lists of events, refused ones too: who holds and who
-- has reserved each circuit follows from the past events and answers alone; a well-formed set-up whose reference holds and reserves
-- nothing is refused for want of a circuit exactly if none is free and none stands under a strictly lower precedence in the same
-- domain; else it gets the first free one, failing that the lowest-precedence one by 01's tie rule, and the losers named are exactly
-- those the history shows there." 02, L4, adds: "Demand 3 now reads these events too: such a holder stands there under no precedence that a call
-- could beat, also where the call's domain is zero." And L7: "Demand 3 counts a holder as takeable only when the history has its answered event,
-- accepted by 9, since its set-up."
use Rattle.std.specs.Prelude.{ℕ, ◌<◌, ◌≤◌, ◌≡◌, ◌↔◌, ◌≢◌, ◌⊎◌, Bool, true, cond, ◌||◌, List, [], ◌∷◌, ◌++◌, length}
use Rattle.rules.specs.declared.part.Part.{Part}
use Rattle.rules.specs.declared.circuit.Circuit.{Circuit}
use Rattle.rules.specs.declared.event.Event.{Event}
use Rattle.rules.specs.Circuit.{is_routine, nobody}
use Rattle.rules.specs.Event.{well_formed}
use Rattle.rules.specs.Numbers as number
use Rattle.rules.specs.Records.{circuit_at, event_at, most_circuits, event_size, answer_size, answer_number, empty_table, answer_fields, somebody_lost, nobody_lost}
use Rattle.route.specs.Entries.{list_answers}
use Rattle.claims.specs.History.{Turn, asked, caller, history}
use Rattle.claims.specs.Lists.{EventList, table_after, past}
use Rattle.claims.specs.Chosen.{NoneFree, NoneLower, FirstFree, Lowest}
use Rattle.rules.specs.Answer.{no_detail}

-- "Who holds and who has reserved each circuit follows from the past events and answers alone": what the table shows of a circuit,
-- under which mark and since which clock, and whether its holder rings, is what the history says
abbrev pub HistoryTells : Type 0
HistoryTells =
    (n : ℕ) (lists : List EventList) (c : ℕ) → c < n → circuit_at (table_after (empty_table n) lists) c ≡ history (past (empty_table n) lists) c

abbrev pub StandsIn : List ℕ → Part → Type 0  -- the call with reference r stands in this part
StandsIn r p = (p.present ≡ true) × (p.reference ≡ r)

-- "a well-formed set-up whose reference holds and reserves nothing", where x c is what the history shows of circuit c
pub record NewSetUp (n : ℕ) (x : ℕ → Circuit) (e : Event) : Type 0 where
  pub is_well_formed : well_formed e ≡ true
  pub is_set_up : e.kind ≡ 1
  pub holds-nothing : (c : ℕ) → c < n → StandsIn e.reference (x c).holder → ⊥
  pub reserves_nothing : (c : ℕ) → c < n → StandsIn e.reference (x c).reservation → ⊥

-- "refused for want of a circuit": answered by 30 or 31
abbrev pub ForWant : List ℕ → Type 0
ForWant a = (answer_number a ≡ 30) ⊎ (answer_number a ≡ 31)

-- the whole answer for want of a circuit: ROUTINE gets 30 with cause 34, others 31 with cause 46; then come 65535 and zeros
abbrev pub want_octets : Bool → List ℕ
want_octets of_routine =
    cond of_routine (answer_fields 30 34 no_detail nobody_lost nobody_lost) (answer_fields 31 46 no_detail nobody_lost nobody_lost)

-- a loser in an answer: 1 and its reference where a call stands, zeros where none does
abbrev pub loser_octets : Part → List ℕ
loser_octets p = cond p.present (somebody_lost p.reference) nobody_lost

-- the whole answer to a call that gets circuit i, which was y: 2 if anybody stood there, else 1; no cause; the circuit; the losers
abbrev pub seized_octets : ℕ → Circuit → List ℕ
seized_octets i y =
    answer_fields (cond (y.holder.present || y.reservation.present) number.seized_with_loss number.seized) 0 i
    (loser_octets y.holder) (loser_octets y.reservation)

-- event e gets a circuit by answer a; what the history shows was x and is y afterwards
pub record Gets (n : ℕ) (x y : ℕ → Circuit) (e : Event) (a : List ℕ) : Type 0 where
  pub circuit : ℕ
  -- "it gets the first free one, failing that the lowest-precedence one by 01's tie rule"
  pub chosen : FirstFree x n circuit ⊎ Lowest x n e.mark circuit
  -- "the losers named are exactly those the history shows there"
  pub answer : a ≡ seized_octets circuit (x circuit)
  -- the circuit then holds the call, which rings, with no reservation, and the others are as they were
  pub holds : y circuit ≡ record { holder = caller e; reservation = nobody; clock = 0; ringing = true }
  pub others : (c : ℕ) → c < n → c ≢ circuit → y c ≡ x c

-- what demand 3 says of the answer a to event e
pub record Answered (n : ℕ) (x y : ℕ → Circuit) (e : Event) (a : List ℕ) : Type 0 where
  -- "is refused for want of a circuit exactly if none is free and none stands under a strictly lower precedence in the same domain"
  pub exactly : ForWant a ↔ (NoneFree x n × NoneLower x n e.mark)
  -- where a set-up is refused for want of a circuit, want_octets is the whole answer, and the history shows what it showed
  pub refused : ForWant a → (a ≡ want_octets (is_routine e.mark.level)) × ((c : ℕ) → c < n → y c ≡ x c)
  -- "else it gets .."
  pub otherwise : (ForWant a → ⊥) → Gets n x y e a

-- DEMAND 3 holds of a set-up given to the list entry as a list of one event, after any lists given to it
abbrev pub Demand3 : Type 0
Demand3 =
    (n : ℕ) → 1 ≤ n → n ≤ most_circuits
    → (lists : List EventList) (e place : List ℕ) → length e ≡ event_size → length place ≡ answer_size
    → NewSetUp n (history (past (empty_table n) lists)) (event_at e)
    → Answered n (history (past (empty_table n) lists))
    (history (past (empty_table n) (lists ++ record { events = e; places = place } ∷ [])))
    (event_at e) (list_answers (table_after (empty_table n) lists) e place)

-- demand 3 holds of a set-up that stands anywhere in any list: before and later are the rest of the past
abbrev pub Demand3Within : Type 0
Demand3Within =
    (n : ℕ) (lists : List EventList) (before : List Turn) (p : Turn) (later : List Turn)
    → past (empty_table n) lists ≡ before ++ p ∷ later
    → NewSetUp n (history before) (asked p)
    → Answered n (history before) (history (before ++ p ∷ [])) (asked p) p.answer
