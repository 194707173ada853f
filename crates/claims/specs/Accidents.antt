-- The customer's two accidents cannot happen: a mark left on a circuit whose party is gone, and a reservation gone for no reason. Nor is
-- a holder gone for none, or taken while it rings or after its mark came off, and no call is in two parts.
use Rattle.std.specs.Prelude.{ℕ, ◌+◌, ◌-◌, ◌%◌, ◌<◌, ◌≤◌, ◌≡◌, ◌⊎◌, true, false, List, [], ◌∷◌, ◌++◌}
use Rattle.octets.specs.Span.{zeros}
use Rattle.rules.specs.Numbers as number
use Rattle.rules.specs.declared.part.Part.{Part}
use Rattle.rules.specs.declared.circuit.Circuit.{Circuit}
use Rattle.rules.specs.Circuit.{nobody, without_precedence}
use Rattle.rules.specs.Records.{circuit_at, holder_octets, reservation_octets, answer_number, answer_detail, lost_call, lost_reservation, somebody_lost, empty_table}
use Rattle.claims.specs.History.{Turn, asked, unmarked_call, after_turn, history}
use Rattle.claims.specs.Lists.{EventList, table_after, past}
use Rattle.claims.specs.Demand.{StandsIn}

-- what stands in record c of table t, where the history shows circuit y
pub record OnlyWithParty (t : List ℕ) (c : ℕ) (y : Circuit) : Type 0 where
  -- each party on record, its mark and its reference, is the one that the history shows
  pub shows : circuit_at t c ≡ y
  -- where the history shows no holder, every octet of the holder's part is zero, octet 30 with it; where it shows no reservation, all of the
  -- reservation's
  pub no_holder : y.holder.present ≡ false → zeros (holder_octets t c) ≡ true
  pub no_reservation : y.reservation.present ≡ false → zeros (reservation_octets t c) ≡ true

-- THE FIRST ACCIDENT: "a mark stands on a circuit only while the history shows its party there"
abbrev pub NoMarkLeft : Type 0
NoMarkLeft =
    (n : ℕ) (lists : List EventList) (c : ℕ) → c < n → OnlyWithParty (table_after (empty_table n) lists) c (history (past (empty_table n) lists) c)

-- turn p is the event of kind k of the call in part q itself, and its answer names circuit c
pub record Own (k c : ℕ) (q : Part) (p : Turn) : Type 0 where
  pub kind : (asked p).kind ≡ k
  pub party : StandsIn (asked p).reference q
  pub named : answer_detail p.answer ≡ c

-- turn p is that of a strictly higher call in the same domain than the call in part q, and its answer names circuit c and, as the
-- loser, the call in part q
pub record Taken (loser : List ℕ → List ℕ) (c : ℕ) (q : Part) (p : Turn) : Type 0 where
  pub domain : (asked p).mark.domain ≡ q.mark.domain
  pub level : (asked p).mark.level.0 < q.mark.level.0
  pub named : answer_detail p.answer ≡ c
  pub lost : loser p.answer ≡ somebody_lost q.reference

-- after any lists from an empty table: the call that the history shows in this part of a circuit stays at each turn, or goes by it. The
-- circuit has number c, and was y before turn p and is z after it: `stays c p y z`, `goes c p y`.
abbrev pub StaysOrGoes : (Circuit → Part) → (ℕ → Turn → Circuit → Circuit → Type 0) → (ℕ → Turn → Circuit → Type 0) → Type 0
StaysOrGoes part stays goes =
    (n : ℕ) (lists : List EventList) (before : List Turn) (p : Turn) (later : List Turn)
    → past (empty_table n) lists ≡ before ++ p ∷ later
    → (c : ℕ) → c < n → (part (history before c)).present ≡ true
    → stays c p (history before c) (history (before ++ p ∷ []) c) ⊎ goes c p (history before c)

-- the clock less the stored clock of circuit y, modulo 4,294,967,296, is 3,000 or more
abbrev pub Old : ℕ → Circuit → Type 0
Old clock y = 3000 ≤ (clock + 4294967296 - y.clock) % 4294967296

-- turn p takes the reservation of circuit c, which is y, away
pub data Goes (c : ℕ) (p : Turn) (y : Circuit) : Type 0 where
  -- a reservation goes by its own set-up, answered by 1 or 2: the call then holds the circuit
  own_set_up : Own 1 c y.reservation p → (answer_number p.answer ≡ number.seized) ⊎ (answer_number p.answer ≡ number.seized_with_loss) → Goes c p y
  -- a reservation goes by its cancel, answered by 6
  cancelled : Own 4 c y.reservation p → answer_number p.answer ≡ number.cancelled → Goes c p y
  -- a reservation goes by a set-up or look-ahead of a strictly higher call in the same domain, whose answer names it
  higher-call : ((asked p).kind ≡ 1) ⊎ ((asked p).kind ≡ 3) → Taken lost_reservation c y.reservation p → Goes c p y
  -- a reservation goes by a clock event, answered by 7, at 3,000 steps or more
  overdue : (asked p).kind ≡ 5 → answer_number p.answer ≡ number.clock_taken → Old (asked p).clock y → Goes c p y
  -- a reservation goes where the mark of the holder below it comes off, by that holder's kind 6, answered by 8 and the reservation's name
  marked_off :
      Own 6 c y.holder p → answer_number p.answer ≡ number.unmarked
      → lost_reservation p.answer ≡ somebody_lost y.reservation.reference → Goes c p y

abbrev pub Stays : Circuit → Circuit → Type 0  -- the same party has the circuit reserved since the same clock
Stays y z = (z.reservation ≡ y.reservation) × (z.clock ≡ y.clock)

-- THE SECOND ACCIDENT: "a reservation goes only by its own set-up, its cancel, a strictly higher call in the same domain whose answer
-- names it, or a clock event at 3,000 steps or more", or (02, L4) where the mark of the holder below it comes off and the answer names it
abbrev pub NoReservationLost : Type 0
NoReservationLost = StaysOrGoes (λ y. y.reservation) (λ c p. Stays) Goes

-- by the history, which by HistoryTells is the table's own, a clock event that was taken removes each old reservation, and no other
abbrev pub OldOnesGo : Type 0
OldOnesGo =
    (p : Turn) (c : ℕ) (y : Circuit) → answer_number p.answer ≡ number.clock_taken → y.reservation.present ≡ true
    → (Old (asked p).clock y → (after_turn p c y).reservation ≡ nobody) × ((Old (asked p).clock y → ⊥) → Stays y (after_turn p c y))

-- turn p takes the holder of circuit c, which is y, away
pub data HolderGoes (c : ℕ) (p : Turn) (y : Circuit) : Type 0 where
  -- a holder goes by its release, answered by 5
  released : Own 2 c y.holder p → answer_number p.answer ≡ number.released → HolderGoes c p y
  -- a holder of level 0 to 4 that does not ring goes by a strictly higher call's set-up in the same domain, with a reservation or not, answered
  -- by 2 and the holder's name
  higher_set_up :
      (asked p).kind ≡ 1 → answer_number p.answer ≡ number.seized_with_loss
      → Taken lost_call c y.holder p → y.holder.mark.level.0 ≤ 4 → y.ringing ≡ false → HolderGoes c p y

-- the same party holds circuit c, which was y before turn p and is z after it
pub data HolderStays (c : ℕ) (p : Turn) (y z : Circuit) : Type 0 where
  under_its_mark : z.holder ≡ y.holder → HolderStays c p y z  -- a holder stays under its mark
  -- a holder's mark comes off by its own kind 6, answered by 8
  unmarked :
      Own 6 c y.holder p → answer_number p.answer ≡ number.unmarked
      → z.holder ≡ without_precedence y.holder → HolderStays c p y z

-- a holder stays under its mark, or under none by its own kind 6 (02, L4); it goes only by its release or, if its level is 0 to 4 and it does not
-- ring (02, L7), by the set-up of a strictly higher call in the same domain whose answer names it: at a look-ahead "a holder stays", at a cancel
-- "the other part stays", and a clock event takes reservations alone
abbrev pub NoHolderLost : Type 0
NoHolderLost = StaysOrGoes (λ y. y.holder) HolderStays HolderGoes

-- among these turns is the event of kind k, accepted by number m with circuit c, of the call with reference r
pub record OwnAmong (k m c : ℕ) (r : List ℕ) (turns : List Turn) : Type 0 where
  pub before : List Turn
  pub turn : Turn
  pub later : List Turn
  pub split : turns ≡ before ++ turn ∷ later
  pub kind : (asked turn).kind ≡ k
  pub reference : (asked turn).reference ≡ r
  pub answer : answer_number turn.answer ≡ m
  pub named : answer_detail turn.answer ≡ c

-- 02, L4: "such a holder is never takeable", in 001's words "to eliminate any chance that an MLPP call to a non-MLPP user will be preempted after
-- the call is in service": a call whose kind 6 was answered by 8 holds the circuit that the answer names, under no precedence, until its own release
abbrev pub NeverTaken : Type 0
NeverTaken =
    (n : ℕ) (lists : List EventList) (before : List Turn) (p : Turn) (since later : List Turn)
    → past (empty_table n) lists ≡ before ++ p ∷ (since ++ later)
    → answer_number p.answer ≡ number.unmarked
    → let c = answer_detail p.answer in
    let r = (asked p).reference in
    ((history (before ++ p ∷ since) c).holder ≡ unmarked_call r) ⊎ OwnAmong 2 number.released c r since

-- call reference r stands in one part at most, where x c is what the history shows of circuit c
pub record InOnePart (n : ℕ) (x : ℕ → Circuit) (r : List ℕ) : Type 0 where
  pub one-held : (c d : ℕ) → c < n → d < n → StandsIn r (x c).holder → StandsIn r (x d).holder → c ≡ d
  pub one-reserved : (c d : ℕ) → c < n → d < n → StandsIn r (x c).reservation → StandsIn r (x d).reservation → c ≡ d
  pub not_both : (c d : ℕ) → c < n → d < n → StandsIn r (x c).holder → StandsIn r (x d).reservation → ⊥

-- "no call reference is ever in two parts"
abbrev pub NeverTwice : Type 0
NeverTwice = (n : ℕ) (lists : List EventList) (r : List ℕ) → InOnePart n (history (past (empty_table n) lists)) r
