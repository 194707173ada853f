-- This is 02, L4, of one event: a kind 6 takes the mark off the holder of a circuit. That nobody takes the circuit from then on is `NeverTaken`
-- (Accidents).
use Rattle.std.specs.Prelude.{ℕ, ◌<◌, ◌≡◌, ◌≢◌, List, length}
use Rattle.rules.specs.Numbers as number
use Rattle.rules.specs.Circuit.{nobody}
use Rattle.rules.specs.Records.{circuit_at, circuits, check_number, answer_size, nobody_lost, answer_fields}
use Rattle.route.specs.Entries.{event_number, event_table, event_answer}
use Rattle.claims.specs.History.{unmarked_call}
use Rattle.claims.specs.Demand.{StandsIn, loser_octets}
use Rattle.claims.specs.OnHolder.{HolderEvent}

-- event f over table t takes the mark off the call with reference r, which holds circuit c
pub record ComesOff (t f place r : List ℕ) (c : ℕ) : Type 0 where
  -- "8 is the accepting number, with the circuit in octets 2-3"; a reservation above the holder is "named in octets 10-15"
  pub accepted : event_number t f place ≡ number.unmarked
  pub answer : event_answer t f place ≡ answer_fields number.unmarked 0 c nobody_lost (loser_octets (circuit_at t c).reservation)
  -- "the holder's level becomes 15 and its domain zero", its reference stays, it rings if it did, and the reservation "is lost", with its clock
  pub circuit :
      circuit_at (event_table t f place) c ≡ record { holder = unmarked_call r; reservation = nobody; clock = 0; ringing = (circuit_at t c).ringing }
  pub others : (d : ℕ) → d < circuits t → d ≢ c → circuit_at (event_table t f place) d ≡ circuit_at t d

-- over a table that the check takes, the mark comes off the holder with this reference: "27 where there is no such holder"
abbrev pub MarkComesOff : Type 0
MarkComesOff =
    (t f place r : List ℕ) → check_number t ≡ number.done → HolderEvent 6 r f → length place ≡ answer_size
    → ((c : ℕ) → c < circuits t → StandsIn r (circuit_at t c).holder → ComesOff t f place r c)
    × (((c : ℕ) → c < circuits t → StandsIn r (circuit_at t c).holder → ⊥) → event_number t f place ≡ 27)
