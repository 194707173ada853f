-- The customer says of a call that still rings (02, L7): "Operators lose calls in set-up. By source 002 circuits in transition aren't considered; 01
-- was too simple." And: "Octet 30 becomes 1 at set-up and 0 at a new event kind 7 (answered, by reference, zero parameter)."
use Rattle.std.specs.Prelude.{ℕ, ◌<◌, ◌≡◌, ◌↔◌, ◌≢◌, ◌⊎◌, true, false, List, [], ◌∷◌, ◌++◌, length}
use Rattle.octets.specs.Number.{Octets}
use Rattle.rules.specs.declared.mark.Mark.{Mark}
use Rattle.rules.specs.declared.circuit.Circuit.{Circuit}
use Rattle.rules.specs.Numbers as number
use Rattle.rules.specs.Records.{ringing_octet, circuit_at, circuits, check_number, answer_size, answer_number, answer_detail, nobody_lost, answer_fields, empty_table}
use Rattle.route.specs.Entries.{event_number, event_table, event_answer}
use Rattle.claims.specs.History.{Turn, asked, history}
use Rattle.claims.specs.Lists.{EventList, past}
use Rattle.claims.specs.Demand.{StandsIn}
use Rattle.claims.specs.Chosen.{Lower}
use Rattle.claims.specs.Accidents.{Own, OwnAmong}
use Rattle.claims.specs.OnHolder.{HolderEvent}

-- ---- one event
-- event f over table t ends the ringing of the holder of circuit c
pub record EndsRinging (t f place : List ℕ) (c : ℕ) : Type 0 where
  -- "9 is the accepting number, with the circuit in octets 2-3"
  pub accepted : event_number t f place ≡ number.now_answered
  pub answer : event_answer t f place ≡ answer_fields number.now_answered 0 c nobody_lost nobody_lost
  -- octet 30 becomes 0; the holder stays under its mark, and a reservation with its clock
  pub octet : ringing_octet (event_table t f place) c ≡ 0
  pub circuit :
      circuit_at (event_table t f place) c
      ≡ record { holder = (circuit_at t c).holder; reservation = (circuit_at t c).reservation; clock = (circuit_at t c).clock; ringing = false }
  pub others : (d : ℕ) → d < circuits t → d ≢ c → circuit_at (event_table t f place) d ≡ circuit_at t d
  -- where the holder did not ring, as one of a table from before does not, the table stays, octet for octet
  pub stays : Octets t → (circuit_at t c).ringing ≡ false → event_table t f place ≡ t

-- over a table that the check takes, a kind 7 ends the ringing of the holder with this reference: "27 with no holder"
abbrev pub RingingEnds : Type 0
RingingEnds =
    (t f place r : List ℕ) → check_number t ≡ number.done → HolderEvent 7 r f → length place ≡ answer_size
    → ((c : ℕ) → c < circuits t → StandsIn r (circuit_at t c).holder → EndsRinging t f place c)
    × (((c : ℕ) → c < circuits t → StandsIn r (circuit_at t c).holder → ⊥) → event_number t f place ≡ 27)

-- ---- any turns from an empty table
-- turn p is answered by 1 or 2 and circuit c: a call seized the circuit
abbrev pub SeizedBy : ℕ → Turn → Type 0
SeizedBy c p =
    ((answer_number p.answer ≡ number.seized) ⊎ (answer_number p.answer ≡ number.seized_with_loss)) × (answer_detail p.answer ≡ c)

-- among these turns is the set-up by which circuit c, which is y after them, came to its holder: no call seized the circuit since
pub record HeldSince (c : ℕ) (y : Circuit) (turns : List Turn) : Type 0 where
  pub before : List Turn
  pub turn : Turn
  pub since : List Turn
  pub split : turns ≡ before ++ turn ∷ since
  pub is_set_up : (asked turn).kind ≡ 1
  pub call : (asked turn).reference ≡ y.holder.reference
  pub seized : SeizedBy c turn
  pub last : (earlier : List Turn) (p : Turn) (later : List Turn) → since ≡ earlier ++ p ∷ later → SeizedBy c p → ⊥

-- the holder of circuit c, which is y after these turns, was set up by one of them, and rings exactly if no turn since then is its own kind 7
-- answered by 9
pub record RingsExactly (c : ℕ) (y : Circuit) (turns : List Turn) : Type 0 where
  pub held : HeldSince c y turns
  pub exactly : (y.ringing ≡ true) ↔ (OwnAmong 7 number.now_answered c y.holder.reference held.since → ⊥)
  -- and where it does not ring, that turn is there
  pub otherwise : y.ringing ≡ false → OwnAmong 7 number.now_answered c y.holder.reference held.since

-- RINGS UNTIL ANSWERED: after any lists from an empty table, and after each event of them, of each holder that the history shows
abbrev pub RingsUntilAnswered : Type 0
RingsUntilAnswered =
    (n : ℕ) (lists : List EventList) (turns later : List Turn) → past (empty_table n) lists ≡ turns ++ later
    → (c : ℕ) → c < n → (history turns c).holder.present ≡ true → RingsExactly c (history turns c) turns

-- the holder of circuit c, which is y after these turns, was answered since its set-up
pub record AnsweredSince (c : ℕ) (y : Circuit) (turns : List Turn) : Type 0 where
  pub held : HeldSince c y turns
  pub answered : OwnAmong 7 number.now_answered c y.holder.reference held.since

-- COUNTED ONLY ANSWERED: "Demand 3 counts a holder as takeable only when the history has its answered event, accepted by 9, since its set-up"
abbrev pub CountedOnlyAnswered : Type 0
CountedOnlyAnswered =
    (n : ℕ) (lists : List EventList) (turns later : List Turn) → past (empty_table n) lists ≡ turns ++ later
    → (c : ℕ) → c < n → (history turns c).holder.present ≡ true → (m : Mark) → Lower m (history turns c)
    → AnsweredSince c (history turns c) turns

-- TAKEN ONLY ANSWERED: a holder that is gone after a turn which is not its own release was answered since its set-up, so no call in set-up is lost
abbrev pub TakenOnlyAnswered : Type 0
TakenOnlyAnswered =
    (n : ℕ) (lists : List EventList) (before : List Turn) (p : Turn) (later : List Turn)
    → past (empty_table n) lists ≡ before ++ p ∷ later
    → (c : ℕ) → c < n → (history before c).holder.present ≡ true
    → (Own 2 c (history before c).holder p → ⊥)
    → (StandsIn (history before c).holder.reference (history (before ++ p ∷ []) c).holder → ⊥)
    → AnsweredSince c (history before c) before
