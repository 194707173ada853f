-- Each entry gives the numbers that are named for it; so it gives none that is not named.
use Prim.Native.Nat.{ℕ, ◌-◌, ◌/◌, ◌<◌}
use mathlib.Core.Path.{◌≡◌, refl, sym, ap, ◌∙◌, subst}
use mathlib.Core.Logic.{◌≢◌}
use mathlib.Core.Bool.{Bool, true, false, cond, ◌&&◌, ◌||◌, or-true, true≢false}
use mathlib.Core.List.{List, [], ◌∷◌}
use native.Mathlib.Omega.{arith}
use lib.ListN.{length}
use lib.Dec.{eqb, leb, ltb}
use borrow.Author.Tests.{eqb-true, leb-true, ltb-true}
use Rattle.octets.proofs.Tests.{and_left, and_right, by_so, by_test}
use Rattle.rules.specs.declared.circuit.Circuit.{Circuit}
use Rattle.rules.specs.declared.event.Event.{Event}
use Rattle.rules.specs.declared.outcome.Act.TheVariants.{Seize, Reserve, Release, Cancel, Unmark, Answered}
use Rattle.rules.specs.declared.outcome.Refusal.{Refusal}
use Rattle.rules.specs.declared.outcome.Refusal.TheVariants.{Malformed, BadRecord, NotAllowed, ByRoutine, AlreadyThere, MarkDiffers, NotThere, NoCircuitForRoutine, NoCircuit, NoCircuitToReserve}
use Rattle.rules.specs.Outcome.{Outcome}
use Rattle.std.specs.Prelude.{Ok, Err}
use Rattle.rules.specs.declared.outcome.Deed.TheVariants.{Do, Clock}
use Rattle.rules.specs.declared.verdict.Reason.{Reason}
use Rattle.rules.specs.declared.verdict.Reason.TheVariants.{FlagOrLevel, DigitOrPointCode, NotZero, NotAbove, Repeated}
use Rattle.rules.specs.Numbers.{reason_number, refusal_number}
use Rattle.rules.specs.Answer.{anothers, answer_of}
use Rattle.rules.specs.Run.{outcome_of, answered}
use Rattle.rules.specs.Records.{circuit_at, circuits, records, event_at, event_in, answer_in, answer_number, checked, check_number}
use Rattle.rules.proofs.Check.{by_check}
use Rattle.fields.specs.declared.precedence.Reading as precedence-reading
use Rattle.fields.specs.declared.reference.Reading as reference-reading
use Rattle.fields.specs.Precedence.{read_precedence}
use Rattle.fields.specs.Precedence as precedence
use Rattle.fields.specs.Reference.{read_reference}
use Rattle.fields.specs.Reference as reference
use Rattle.optional.specs.declared.write.Written.{Written}
use Rattle.optional.specs.List.{items, whole}
use Rattle.optional.specs.Write as optional
use Rattle.lamps.specs.declared.Lamps.{Lamps}
use Rattle.lamps.specs.Lamps.{lit_map, dark_map, lamp_map}
use Rattle.route.specs.Entries.{events_in, event_lengths, event_number, event_answer, list_lengths, list_number, list_answers}
use Rattle.route.proofs.Listed.{ran}
use Rattle.tally.specs.Places as place
use Rattle.tally.specs.Shares.{shares}
use Rattle.tally.specs.Entry.{has_room, figures_lengths, figures_number, is_added, figures_answers, figures_totals}
use Rattle.tally.proofs.Placed.{at_off, shares-answered}
use Rattle.tally.proofs.Shared.{events-none, level-place}
use Rattle.claims.specs.Printed.{among, answering, checking, Gives, event, answer, list, list-answers, figures, figures-answers, check, lamps, read-precedence, write-precedence, read-reference, write-reference, next-parameter, find-precedence, write_optional, NumbersGiven, Never28, NeverCounted}
use Rattle.claims.proofs.Octets.{answer-number}
use Rattle.claims.proofs.Added.{done-added, not_added, list_done, same_answers}
use Rattle.claims.proofs.Once.{from_six}
use Rattle.claims.specs.Figures.{total}
use Rattle.claims.proofs.Refused.{lengths_right, number_then, returns-number}
use Rattle.claims.proofs.Passed.{answer-left}
use Rattle.claims.proofs.Sought.{step_given, find-given}

abbrev Answers : ℕ → Type 0  -- k is a number of an answer
Answers k = among k answering ≡ true

abbrev Checks : ℕ → Type 0  -- k is a number of the check
Checks k = among k checking ≡ true

-- what holds of 41 to 45 holds of each reason's number
by_reason : (P : ℕ → Type 0) → P 41 → P 42 → P 43 → P 44 → P 45 → (r : Reason) → P (reason_number r)
by_reason P a b c d e FlagOrLevel = a
by_reason P a b c d e DigitOrPointCode = b
by_reason P a b c d e NotZero = c
by_reason P a b c d e NotAbove = d
by_reason P a b c d e Repeated = e

-- ---- an event
refusal_answers : (r : Refusal) → Answers (refusal_number r)
refusal_answers Malformed = refl
refusal_answers (BadRecord r i) = by_reason Answers refl refl refl refl refl r
refusal_answers NotAllowed = refl
refusal_answers ByRoutine = refl
refusal_answers AlreadyThere = refl
refusal_answers MarkDiffers = refl
refusal_answers NotThere = refl
refusal_answers NoCircuitForRoutine = refl
refusal_answers NoCircuit = refl
refusal_answers NoCircuitToReserve = refl

outcome_answers : (x : ℕ → Circuit) (n : ℕ) (e : Event) (o : Outcome) → Answers (answer_of x n e o).number
unfolding answer_of
outcome_answers x n e (Err r) = refusal_answers r
outcome_answers x n e (Ok (Do Seize i)) =
    by_test Answers ((x i).holder.present || (anothers e.reference (x i).reservation).present) 2 1 (λ q. refl) (λ q. refl)
outcome_answers x n e (Ok (Do Reserve i)) = by_test Answers (x i).reservation.present 4 3 (λ q. refl) (λ q. refl)
outcome_answers x n e (Ok (Do Release i)) = refl
outcome_answers x n e (Ok (Do Cancel i)) = refl
outcome_answers x n e (Ok (Do Unmark i)) = refl
outcome_answers x n e (Ok (Do Answered i)) = refl
outcome_answers x n e (Ok Clock) = refl

answered-answers : (t e : List ℕ) → Answers (answered records t e).number
unfolding answered records
answered-answers t e = outcome_answers (circuit_at t) (circuits t) (event_at e) (outcome_of records t (event_at e))

event-given : (t e place : List ℕ) → among (event_number t e place) (20 ∷ answering) ≡ true
unfolding event_number
event-given t e place =
    let k = (answered records t e).number in
    by_test (λ (n : ℕ). among n (20 ∷ answering) ≡ true) (event_lengths t e place) k 20
    (λ q. ap (λ (b : Bool). eqb k 20 || b) (answered-answers t e) ∙ or-true (eqb k 20)) (λ q. refl)

event-answers : (t e place : List ℕ) → event_number t e place ≢ 20 → Answers (answer_number (event_answer t e place))
event-answers t e place written =
    subst Answers (sym (number_then t e place (lengths_right t e place written)) ∙ returns-number t e place written) (answered-answers t e)

list-answered : (t es places : List ℕ) → list_number t es places ≡ 0 → (k : ℕ) → k < length es / 16 → Answers (answer_number (answer_in (list_answers t es places) k))
list-answered t es places carried k l =
    let u = ran t es k in
    let e = event_in es k in
    subst Answers (sym (ap answer_number (answer-left t es places carried k l) ∙ answer-number u e)) (answered-answers u e)

figures-answered : (t es places f : List ℕ) → figures_number t es places f ≡ 0 → (k : ℕ) → k < length es / 16 → Answers (answer_number (answer_in (figures_answers t es places f) k))
figures-answered t es places f done k l =
    let h = done-added t es places f done in
    subst (λ (written : List ℕ). Answers (answer_number (answer_in written k))) (sym (same_answers t es places f h))
    (list-answered t es places (list_done t es places f h) k l)

-- ---- the check
check-given : (t : List ℕ) → Checks (check_number t)
check-given t = by_check (λ c. Checks c.number) t (λ l. refl) (λ l v. refl) (λ l r i v. by_reason Checks refl refl refl refl refl r)

-- ---- what is given by two tests, one after the other
module _ {A : Type 0} (number : A → ℕ) (ks : List ℕ) where
  abbrev Given : A → Type 0
  Given x = among (number x) ks ≡ true

  by_two : (a b : Bool) (x y z : A) → Given x → Given y → Given z → Given (cond a (cond b x y) z)
  by_two a b x y z p q r = by_test Given a (cond b x y) z (λ h. by_test Given b x y (λ g. p) (λ g. q)) (λ h. r)

written-given : (b l : List ℕ) → among (optional.write b l).number (0 ∷ 20 ∷ 22 ∷ 63 ∷ []) ≡ true
unfolding optional.write
written-given b l =
    let is = items l in
    let ks : List ℕ = 0 ∷ 20 ∷ 22 ∷ 63 ∷ [] in
    let number : Written → ℕ = λ w. w.number in
    let refused : ℕ → Written = λ k. record { number = k; end = 0 } in
    let put : Written = record { number = 0; end = optional.room is } in
    let once = leb (optional.precedences is) 1 in
    let sound = optional.all_sound is in
    by_two number ks (whole l) (leb (optional.room is) (length b)) (cond sound (cond once put (refused 63)) (refused 22)) (refused 20) (refused 20)
    (by_two number ks sound once put (refused 63) (refused 22) refl refl refl) refl refl

pub numbers-given : NumbersGiven
unfolding list_number figures_number lamp_map read_precedence precedence.write_number read_reference reference.write_number
numbers-given _ _ (event t e place) = event-given t e place
numbers-given _ _ (answer t e place written) = event-answers t e place written
numbers-given ks _ (list t es places) = by_test (λ (k : ℕ). among k ks ≡ true) (list_lengths t es places) 0 20 (λ q. refl) (λ q. refl)
numbers-given _ _ (list-answers t es places carried k l) = list-answered t es places carried k l
numbers-given ks _ (figures t es places f) = by_two (λ (k : ℕ). k) ks (figures_lengths t es places f) (has_room f) 0 60 20 refl refl refl
numbers-given _ _ (figures-answers t es places f done k l) = figures-answered t es places f done k l
numbers-given _ _ (check t) = check-given t
numbers-given _ _ (lamps t) =
    by_test (λ (m : Lamps). Checks m.number) (eqb (check_number t) 0) (lit_map t) (dark_map (checked t)) (λ q. refl) (λ q. check-given t)
numbers-given ks _ (read-precedence s) =
    let values : precedence-reading.Reading = record { number = 0; value = precedence.values_of s } in
    by_two (λ (r : precedence-reading.Reading). r.number) ks (eqb (length s) 6) (precedence.readable s) values (precedence.refused 22) (precedence.refused 20)
    refl refl refl
numbers-given ks _ (write-precedence b v) = by_two (λ (k : ℕ). k) ks (eqb (length b) 6) (precedence.writable v) 0 22 20 refl refl refl
numbers-given ks _ (read-reference s) =
    let values : reference-reading.Reading = record { number = 0; value = reference.values_of s } in
    by_test (λ (r : reference-reading.Reading). among r.number ks ≡ true) (eqb (length s) 5) values (reference.refused 20) (λ q. refl) (λ q. refl)
numbers-given ks _ (write-reference b v) = by_two (λ (k : ℕ). k) ks (eqb (length b) 5) (reference.writable v) 0 22 20 refl refl refl
numbers-given _ _ (next-parameter s at) = step_given s at
numbers-given _ _ (find-precedence s) = find-given s
numbers-given _ _ (write_optional b l) = written-given b l

-- ---- a number that is named for no entry
abbrev every : List ℕ  -- all that are named
every = 0 ∷ 20 ∷ 60 ∷ 61 ∷ 62 ∷ 63 ∷ answering

abbrev within : List ℕ → Bool  -- these are named
within [] = true
within (k ∷ ks) = among k every && within ks

unnamed : (n : ℕ) → among n every ≡ false → (ks : List ℕ) → within ks ≡ true → among n ks ≡ false
unnamed n none [] h = refl
unnamed n none (k ∷ ks) h =
    by_so (eqb n k)
    (λ q. absurd (true≢false (sym (and_left (among k every) (within ks) h) ∙ ap (λ (m : ℕ). among m every) (sym (eqb-true n k q)) ∙ none)))
    (λ q. ap (λ (b : Bool). b || among n ks) q ∙ unnamed n none ks (and_right (among k every) (within ks) h))

all_named : (ks : List ℕ) (k : ℕ) → Gives ks k → within ks ≡ true
all_named _ _ (event t e place) = refl
all_named _ _ (answer t e place written) = refl
all_named _ _ (list t es places) = refl
all_named _ _ (list-answers t es places carried k l) = refl
all_named _ _ (figures t es places f) = refl
all_named _ _ (figures-answers t es places f done k l) = refl
all_named _ _ (check t) = refl
all_named _ _ (lamps t) = refl
all_named _ _ (read-precedence s) = refl
all_named _ _ (write-precedence b v) = refl
all_named _ _ (read-reference s) = refl
all_named _ _ (write-reference b v) = refl
all_named _ _ (next-parameter s at) = refl
all_named _ _ (find-precedence s) = refl
all_named _ _ (write_optional b l) = refl

-- a number of some is none that is not among them
apart : (ks : List ℕ) (k n : ℕ) → among k ks ≡ true → among n ks ≡ false → k ≢ n
apart ks k n in_them not_in h = true≢false (sym in_them ∙ ap (λ (m : ℕ). among m ks) h ∙ not_in)

pub never_28 : Never28
never_28 ks k g = apart ks k _ (numbers-given ks k g) (unnamed _ refl ks (all_named ks k g))

-- no event adds to the total of a number that is none of an answer
module _ (t es places f : List ℕ) where
  abbrev Stays : ℕ → Type 0  -- total j stays as it was lent
  Stays j = total (figures_totals t es places f) j ≡ total f j

  module _ (k : ℕ) (few : k < 64) (none : among k answering ≡ false) where
    adds_none : (u e : List ℕ) → shares (records.event e) (answered records u e) (place.answered k) ≡ 0
    adds_none u e =
        let n = (answered records u e).number in
        shares-answered (records.event e) (answered records u e) (level-place records u e) k
        ∙ at_off n 1 k (apart answering n k (answered-answers u e) none)

    total-stays : Stays (place.answered k)
    total-stays =
        by_so (is_added t es places f)
        (λ h.
        from_six t es places f h (place.answered k) (omega arith) (omega arith)
        ∙ omega (arith, events-none records (place.answered k) adds_none (events_in es) t))
        (λ h. ap (λ (g : List ℕ). total g (place.answered k)) (not_added t es places f h).2)

  -- by the place of its total
  place-stays : (j : ℕ) → leb 31 j ≡ true → ltb j place.figures ≡ true → among (j - 31) answering ≡ false → Stays j
  place-stays j low high none =
      let l = leb-true 31 j low in
      let h = ltb-true j place.figures high in
      let there : place.answered (j - 31) ≡ j = omega arith in
      subst Stays there (total-stays (j - 31) (omega arith) none)

pub never_counted : NeverCounted
never_counted t es places f = place-stays t es places f _ refl refl refl
