-- This is 02, L4 and L7, of an event by a call that holds a circuit: a kind 6 says that it reached somebody without the service, and a kind 7 that
-- it was answered. What the one makes of the circuit is said in NoService, and what the other makes of it in Ringing.
use Rattle.std.specs.Prelude.{ℕ, ◌≡◌, ◌≢◌, true, false, List, length}
use Rattle.rules.specs.Numbers as number
use Rattle.rules.specs.Records.{event_size, event_at, answer_size, answer_detail, nobody_lost, answer_fields}
use Rattle.route.specs.Entries.{event_number, event_table, event_answer}

-- `OfHolder k m`: k is such a kind, and m "is the accepting number"
pub data OfHolder : ℕ → ℕ → Type 0 where
  without_service : OfHolder 6 number.unmarked
  answered : OfHolder 7 number.now_answered

-- "with a reference and a zero parameter": f is an event of kind k, and r its reference
pub record HolderEvent (k : ℕ) (r f : List ℕ) : Type 0 where
  pub octets : length f ≡ event_size
  pub kind : (event_at f).kind ≡ k
  pub parameter : (event_at f).parameterless ≡ true
  pub reference : (event_at f).reference ≡ r

-- so an event of such a kind with another parameter is malformed, over any table
abbrev pub ZeroParameter : Type 0
ZeroParameter =
    (k m : ℕ) → OfHolder k m
    → (t f place : List ℕ) → event_number t f place ≢ number.wrong_length → (event_at f).kind ≡ k → (event_at f).parameterless ≡ false
    → event_number t f place ≡ 22

-- event f over table u is accepted by number m and circuit c, nobody is lost, and the table stays, octet for octet
pub record StaysSo (m : ℕ) (u f place : List ℕ) (c : ℕ) : Type 0 where
  pub accepted : event_number u f place ≡ m
  pub table : event_table u f place ≡ u
  pub answer : event_answer u f place ≡ answer_fields m 0 c nobody_lost nobody_lost

-- "A second such event changes nothing and is accepted", and "A second kind 7 changes nothing and is accepted": it follows event e, which was
-- accepted over any table, and is of the same kind and call
abbrev pub SecondAccepted : Type 0
SecondAccepted =
    (k m : ℕ) → OfHolder k m
    → (t e place f next : List ℕ) → event_number t e place ≡ m → HolderEvent k (event_at e).reference f → length next ≡ answer_size
    → StaysSo m (event_table t e place) f next (answer_detail (event_answer t e place))
