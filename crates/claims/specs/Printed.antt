-- The customer says of number 28, which 01 prints as "set-up on its reservation, holder there not strictly lower in the same domain" (02, L6):
-- "Trainers ask how to provoke 28 and nobody can: a valid table has each reservation strictly above its holder in the same domain, and L4 drops it
-- with the mark. Prove that no input gives 28, and take it out of the table, the order and the callers."
use Rattle.std.specs.Prelude.{ℕ, ◌/◌, ◌<◌, ◌≡◌, ◌⊎◌, ◌≢◌, Bool, true, false, cond, ◌||◌, not, List, [], ◌∷◌, ◌++◌, length, eqb, Err}
use Rattle.rules.specs.declared.circuit.Circuit.{Circuit}
use Rattle.rules.specs.declared.event.Event.{Event}
use Rattle.rules.specs.declared.outcome.Act.TheVariants.{Seize}
use Rattle.rules.specs.declared.outcome.Refusal.TheVariants.{MarkDiffers}
use Rattle.rules.specs.Outcome.{Outcome, does}
use Rattle.rules.specs.Circuit.{outranks, same_mark, unreserved}
use Rattle.rules.specs.Decision.{on_reservation}
use Rattle.rules.specs.Numbers.{done}
use Rattle.rules.specs.Records.{circuit_at, circuits, check_number, event_size, answer_number, answer_in}
use Rattle.fields.specs.declared.precedence.Precedence.{Precedence}
use Rattle.fields.specs.declared.reference.Reference.{Reference}
use Rattle.fields.specs.Precedence as precedence
use Rattle.fields.specs.Reference as reference
use Rattle.optional.specs.Part.{parameter_at}
use Rattle.optional.specs.Search.{find}
use Rattle.optional.specs.Write as optional
use Rattle.lamps.specs.Lamps.{lamp_map}
use Rattle.route.specs.Entries.{event_number, event_answer, list_number, list_answers}
use Rattle.tally.specs.Places as place
use Rattle.tally.specs.Entry.{figures_number, figures_answers, figures_totals}
use Rattle.claims.specs.Chosen.{Lower}
use Rattle.claims.specs.Demand.{StandsIn}
use Rattle.claims.specs.Figures.{total}

-- ---- the holder below a reservation
-- event e is of the call that has reserved circuit y, and comes with its reservation's level and domain
pub record ComesAsReserved (e : Event) (y : Circuit) : Type 0 where
  pub reserved : StandsIn e.reference y.reservation
  pub level : e.mark.level.0 ≡ y.reservation.mark.level.0
  pub domain : e.mark.domain ≡ y.reservation.mark.domain

-- ALWAYS ABOVE: on any table that the check takes, where a call comes as reserved for a circuit, nobody holds the circuit, or the holder is strictly
-- lower in the same domain, has a mark and does not ring: were the reservation not there, the circuit would stand under a strictly lower precedence
abbrev pub AlwaysAbove : Type 0
AlwaysAbove =
    (t : List ℕ) → check_number t ≡ done → (i : ℕ) → i < circuits t → (e : Event) → ComesAsReserved e (circuit_at t i)
    → ((circuit_at t i).holder.present ≡ false) ⊎ Lower e.mark (unreserved (circuit_at t i))

-- ---- the rule as 01 prints it
pub data Decided : Type 0 where  -- what is decided: an outcome of the rules, or a refusal by a number that the rules no longer have
  decides : Outcome → Decided
  refuses : ℕ → Decided

-- nobody holds circuit y, or the holder is strictly lower than the event's call in the same domain
abbrev pub holder_lower : Event → Circuit → Bool
holder_lower e y = not y.holder.present || outranks e.mark y.holder.mark

-- 01's rule for a set-up on its own reservation, on circuit i, which is y, with the test of 28 where 01 has it, after that of 26. No contract cites it.
abbrev pub printed : Event → Circuit → ℕ → Decided
printed e y i =
    cond (same_mark e.mark y.reservation.mark) (cond (holder_lower e y) (decides (does Seize i)) (refuses 28)) (decides (Err MarkDiffers))

-- AS PRINTED: on any table that the check takes, the rule with the test of 28 decides what the rule without it decides, for each event and each
-- circuit that the event's call has reserved. So no input had 28, and no decision went with its test.
abbrev pub AsPrinted : Type 0
AsPrinted =
    (t : List ℕ) → check_number t ≡ done → (i : ℕ) → i < circuits t → (e : Event) → StandsIn e.reference (circuit_at t i).reservation
    → printed e (circuit_at t i) i ≡ decides (on_reservation e (circuit_at t i).reservation i)

-- ---- the numbers that each entry gives
abbrev pub among : ℕ → List ℕ → Bool  -- k is one of these numbers
among k [] = false
among k (j ∷ js) = eqb k j || among k js

abbrev pub accepting : List ℕ  -- an event is carried out
accepting = 1 ∷ 2 ∷ 3 ∷ 4 ∷ 5 ∷ 6 ∷ 7 ∷ 8 ∷ 9 ∷ []

abbrev pub reasons : List ℕ  -- a table is not valid
reasons = 41 ∷ 42 ∷ 43 ∷ 44 ∷ 45 ∷ []

-- an event of right length is answered by one of these, the refusals in the order in which they are tried
abbrev pub answering : List ℕ
answering = accepting ++ 22 ∷ reasons ++ 23 ∷ 24 ∷ 25 ∷ 26 ∷ 27 ∷ 30 ∷ 31 ∷ 32 ∷ []

abbrev pub checking : List ℕ  -- the check and the lamp map
checking = 0 ∷ 20 ∷ reasons

abbrev pub stepping : List ℕ  -- one step through an optional part
stepping = 0 ∷ 61 ∷ 62 ∷ []

abbrev pub finding : List ℕ  -- the search for precedence through all of it
finding = 0 ∷ 61 ∷ 62 ∷ 63 ∷ 22 ∷ []

-- `Gives ks k`: an entry gives number k, for some octets of some lengths, and ks are the numbers that are named for it
pub data Gives : List ℕ → ℕ → Type 0 where
  -- what the event entry gives back, and octet 0 of the answer that it writes: at 20 it writes none
  event : (t e place : List ℕ) → Gives (20 ∷ answering) (event_number t e place)
  answer : (t e place : List ℕ) → event_number t e place ≢ 20 → Gives answering (answer_number (event_answer t e place))
  -- what the list entry gives back, and octet 0 of each answer of a list that is carried out
  list : (t es places : List ℕ) → Gives (0 ∷ 20 ∷ []) (list_number t es places)
  list-answers :
      (t es places : List ℕ) → list_number t es places ≡ 0 → (k : ℕ) → k < length es / event_size
      → Gives answering (answer_number (answer_in (list_answers t es places) k))
  -- the same of a list that is to be added to the figures f
  figures : (t es places f : List ℕ) → Gives (0 ∷ 20 ∷ 60 ∷ []) (figures_number t es places f)
  figures-answers :
      (t es places f : List ℕ) → figures_number t es places f ≡ 0 → (k : ℕ) → k < length es / event_size
      → Gives answering (answer_number (answer_in (figures_answers t es places f) k))
  check : (t : List ℕ) → Gives checking (check_number t)
  lamps : (t : List ℕ) → Gives checking (lamp_map t).number
  -- the fields, read from s and written into b
  read-precedence : (s : List ℕ) → Gives (0 ∷ 20 ∷ 22 ∷ []) (precedence.read_precedence s).number
  write-precedence : (b : List ℕ) (v : Precedence) → Gives (0 ∷ 20 ∷ 22 ∷ []) (precedence.write_number b v)
  read-reference : (s : List ℕ) → Gives (0 ∷ 20 ∷ []) (reference.read_reference s).number
  write-reference : (b : List ℕ) (v : Reference) → Gives (0 ∷ 20 ∷ 22 ∷ []) (reference.write_number b v)
  -- the reader of an optional part s, from a place in it or through all of it, and the writer of a list l into b
  next-parameter : (s : List ℕ) (at : ℕ) → Gives stepping (parameter_at s at).number
  find-precedence : (s : List ℕ) → Gives finding (find s).number
  write_optional : (b l : List ℕ) → Gives (0 ∷ 20 ∷ 22 ∷ 63 ∷ []) (optional.write b l).number

-- NUMBERS GIVEN: no entry gives a number that is not named for it
abbrev pub NumbersGiven : Type 0
NumbersGiven = (ks : List ℕ) (k : ℕ) → Gives ks k → among k ks ≡ true

-- NEVER 28: "no input gives 28", as the number of any entry or answer
abbrev pub Never28 : Type 0
Never28 = (ks : List ℕ) (k : ℕ) → Gives ks k → k ≢ 28

-- so the day's figures never count 28: its total stays as it was lent
abbrev pub NeverCounted : Type 0
NeverCounted = (t es places f : List ℕ) → total (figures_totals t es places f) (place.answered 28) ≡ total f (place.answered 28)
