-- The history tells who holds and who has reserved each circuit, under which mark and since which clock, and whether the holder rings, from
-- the past events and their answers alone. It looks at no table. What it takes from the rules are words for a circuit with another holder or
-- reservation; what these come to is said apart from them, by `NoMarkLeft`, `NoReservationLost`, `NoHolderLost` and `NeverTaken` (Accidents) and
-- by `RingsUntilAnswered` (Ringing).
use Rattle.std.specs.Prelude.{ℕ, ◌+◌, ◌-◌, ◌%◌, Bool, true, false, cond, ◌&&◌, ◌||◌, List, [], ◌∷◌, eqb, leb}
use Rattle.rules.specs.declared.part.Part.{Part}
use Rattle.rules.specs.declared.circuit.Circuit.{Circuit}
use Rattle.rules.specs.declared.event.Event.{Event}
use Rattle.rules.specs.Circuit.{nobody, no_precedence, without_precedence, with_holder, with_reservation, unreserved}
use Rattle.rules.specs.Numbers as number
use Rattle.rules.specs.Records.{event_at, answer_number, answer_detail}

-- an event and the answer that was given to it, both in their octets
pub record Turn : Type 0 where
  pub event : List ℕ
  pub answer : List ℕ

abbrev pub asked : Turn → Event  -- what the event of a turn says
asked p = event_at p.event

abbrev pub caller : Event → Part  -- the event's call as it stands in a part: present, under the event's mark, by its reference
caller e = record { present = true; mark = e.mark; reference = e.reference }

abbrev pub unmarked_call : List ℕ → Part  -- the call with reference r as it stands in a part under no precedence
unmarked_call r = record { present = true; mark = no_precedence; reference = r }

-- what event e, answered by number k, makes of the circuit y that the answer names
unfoldable pub named : Event → ℕ → Circuit → Circuit
named e k y =
    -- 1 / 2 seized: the call holds the circuit and rings, with no reservation
    cond (eqb k number.seized || eqb k number.seized_with_loss) (with_holder (caller e) true (unreserved y))
    -- 3 / 4 reserved: the call has reserved the circuit since the event's clock, and a holder stays
    (cond (eqb k number.reserved || eqb k number.reserved_with_loss) (with_reservation (caller e) e.clock y)
    -- 5 released: nobody holds the circuit, and a reservation stays
    (cond (eqb k number.released) (with_holder nobody false y)
    -- 6 cancelled: nobody has reserved the circuit, and a holder stays
    (cond (eqb k number.cancelled) (unreserved y)
    -- 8 unmarked: the same call holds the circuit under no precedence, and rings if it did, and nobody has reserved it
    (cond (eqb k number.unmarked) (with_holder (without_precedence y.holder) y.ringing (unreserved y))
    -- 9 answered: the holder rings no more, and a reservation stays
    (cond (eqb k number.now_answered) (with_holder y.holder false y) y)))))

-- the circuit has a reservation that was made 3,000 steps ago or more, modulo 4,294,967,296
abbrev pub old : ℕ → Circuit → Bool
old clock y = y.reservation.present && leb 3000 ((clock + 4294967296 - y.clock) % 4294967296)

-- what circuit c, which was y, is after event e was answered by number k with detail i: 7, a clock event that was taken, removes
-- each old reservation, and any other answer speaks of the circuit that it names
unfoldable pub after_answer : Event → ℕ → ℕ → ℕ → Circuit → Circuit
after_answer e k i c y =
    cond (eqb k number.clock_taken) (cond (old e.clock y) (unreserved y) y) (cond (eqb i c) (named e k y) y)

abbrev pub after_turn : Turn → ℕ → Circuit → Circuit  -- what circuit c, which was y, is after turn p
after_turn p c y = after_answer (asked p) (answer_number p.answer) (answer_detail p.answer) c y

-- circuit c after these turns, the oldest first, if it was y before them
abbrev pub history_from : Circuit → List Turn → ℕ → Circuit
history_from y [] c = y
history_from y (p ∷ ps) c = history_from (after_turn p c y) ps c

abbrev pub empty : Circuit  -- nobody holds the circuit, and nobody has reserved it
empty = record { holder = nobody; reservation = nobody; clock = 0; ringing = false }

abbrev pub history : List Turn → ℕ → Circuit  -- circuit c, by all that ever was asked and answered
history ps c = history_from empty ps c
