-- Demand 3 of one set-up: from any valid table, if circuit by circuit it shows what the history says.
use Rattle.rules.specs.Event.{kind_of}
use Prim.Native.Nat.{ℕ, ◌+◌, ◌*◌, ◌/◌, ◌%◌, ◌<◌, ◌≤◌}
use mathlib.Core.Path.{◌≡◌, refl, sym, ap, ap₂, ◌∙◌, subst}
use mathlib.Core.Logic.{◌⊎◌, inl, inr}
use mathlib.Core.Bool.{Bool, true, false, cond, ◌||◌}
use mathlib.Core.List.{List, ◌∷◌, ◌++◌}
use native.Mathlib.Omega.{arith}
use lib.ListN.{length, replicate}
use lib.Dec.{eqb}
use borrow.Author.Tests.{eq-eqb, ne_eqb}
use Rattle.octets.specs.Span.{span}
use Rattle.octets.proofs.Width.{value-octets}
use Rattle.octets.proofs.Spans.{length-span, span_all}
use Rattle.rules.specs.declared.part.Part.{Part}
use Rattle.rules.specs.declared.circuit.Circuit.{Circuit}
use Rattle.rules.specs.declared.event.Event.{Event}
use Rattle.std.specs.Prelude.{Option, Some, None, Err}
use Rattle.rules.specs.declared.outcome.Act.TheVariants.{Seize}
use Rattle.rules.specs.declared.outcome.Refusal.TheVariants.{Malformed, NoCircuitForRoutine, NoCircuit}
use Rattle.rules.specs.Outcome.{does}
use Rattle.rules.specs.Verdict.{Verdict}
use Rattle.rules.specs.Search.{found}
use Rattle.rules.specs.Circuit.{is_routine, nobody, is_of, made}
use Rattle.rules.specs.Choice.{held_by, reserved_by, choice}
use Rattle.rules.specs.Decision.{unless, blocked, set_up, decision}
use Rattle.rules.specs.Numbers.{refusal_number, cause_of}
use Rattle.rules.specs.Answer.{refusal_detail, no_loser, losers, anothers, answer_of}
use Rattle.rules.specs.Layout.{Layout}
use Rattle.rules.specs.Valid.{verdict, valid}
use Rattle.rules.specs.Run.{if_sound, outcome_of, answered, answer_record}
use Rattle.rules.specs.Records.{circuit_at, flag, loser, answer_octets, records, circuits, circuit_size, answer_number, answer_detail}
use Rattle.rules.proofs.Lawful.{Tidy}
use Rattle.rules.proofs.Records.{lawful}
use Rattle.rules.proofs.Searches.{first_none}
use Rattle.rules.proofs.Choice.{ChoiceIs, choice_is}
use Rattle.rules.proofs.Faults.{valid_is, valid_facts}
use Rattle.claims.specs.History.{Turn, asked, after_answer, after_turn, history_from}
use Rattle.claims.specs.Demand.{StandsIn, NewSetUp, ForWant, want_octets, loser_octets, seized_octets, Answered}
use Rattle.claims.proofs.Answers.{after_refusal, after_seizure}
use Rattle.claims.proofs.Ran.{Ran, stood}
use Rattle.claims.proofs.Plain.{not_in, none-chosen, one-chosen, chosen_not_none}

-- ---- in any layout: the choice decides
module _ (x : ℕ → Circuit) (n : ℕ) (e : Event) (new : NewSetUp n x e) where
  no_holder : held_by x n e.reference ≡ None
  unfolding held_by
  no_holder =
      first_none (λ i. is_of e.reference (x i).holder) n (λ c l. not_in e.reference (x c).holder (new.holds-nothing c l))

  no_reservation : reserved_by x n e.reference ≡ None
  unfolding reserved_by
  no_reservation =
      first_none (λ i. is_of e.reference (x i).reservation) n (λ c l. not_in e.reference (x c).reservation (new.reserves_nothing c l))

  new-decision : decision x n e ≡ found (choice x n e.mark) (does Seize) (Err (blocked e))
  unfolding decision kind_of set_up
  new-decision = simp (new.is_set_up, no_holder, no_reservation)

new-decided : {S : Type 0} (L : Layout S) (s : S) (e : Event) → valid L s ≡ true → NewSetUp (L.count s) (L.view s) e → outcome_of L s e ≡ found (choice (L.view s) (L.count s) e.mark) (does Seize) (Err (blocked e))
unfolding outcome_of valid
new-decided L s e v new =
    ap₂ (λ (b : Bool) (w : Verdict). unless b Malformed (if_sound w (decision (L.view s) (L.count s) e))) new.is_well_formed (valid_is (verdict L s) v)
    ∙ new-decision (L.view s) (L.count s) e new

-- ---- the octets of the two answers
want_octets_lem : (b : Bool) → let r = cond b NoCircuitForRoutine NoCircuit in answer_octets (no_loser (refusal_number r) (refusal_detail r)) ≡ want_octets b
want_octets_lem true = refl
want_octets_lem false = refl

want_number : (b : Bool) → ForWant (want_octets b)
want_number true = inl refl
want_number false = inr refl

seized-number : (b : Bool) → (◌≡◌ {A = ℕ} (cond b 2 1) 30) ⊎ (◌≡◌ {A = ℕ} (cond b 2 1) 31) → ⊥
seized-number true (inl q) = omega arith
seized-number true (inr q) = omega arith
seized-number false (inl q) = omega arith
seized-number false (inr q) = omega arith

pub loser-octets : (p : Part) → length p.reference ≡ 5 → (p.present ≡ false → p ≡ nobody) → loser p ≡ loser_octets p
loser-octets p five absent = go p.present refl
  where
    said : (b : Bool) → p.present ≡ b → cond b (1 ∷ p.reference) (replicate 6 0) ≡ loser_octets p
    said b h = sym (ap (λ (z : Bool). cond z (1 ∷ p.reference) (replicate 6 0)) h)

    go : (b : Bool) → p.present ≡ b → loser p ≡ loser_octets p
    go true h =
        ap (λ (z : Bool). flag z ∷ span p.reference 0 5) h ∙ ap (λ (l : List ℕ). 1 ∷ l) (span_all p.reference 5 five) ∙ said true h
    go false h = ap loser (absent h) ∙ said false h

module _ (y : Circuit) (i : ℕ) (r : List ℕ) where
  seized-octets : length y.holder.reference ≡ 5 → length y.reservation.reference ≡ 5 → Tidy y → is_of r y.reservation ≡ false → answer_octets (losers 1 2 i y.holder (anothers r y.reservation)) ≡ seized_octets i y
  seized-octets five also t h =
      ap (λ (b : Bool). answer_octets (losers 1 2 i y.holder (cond b nobody y.reservation))) h
      ∙ (λ d.
      cond (y.holder.present || y.reservation.present) 2 1
      ∷ cause (y.holder.present || y.reservation.present) d
      ∷ i % 256
      ∷ i / 256
      ∷ loser-octets y.holder five t.holder d ++ loser-octets y.reservation also t.reservation d)
    where
      cause : (b : Bool) → cause_of (cond b 2 1) ≡ 0
      cause true = refl
      cause false = refl

-- ---- over a valid table t, circuit by circuit as x says; p is the set-up with its answer
module _ (t : List ℕ) (v : valid records t ≡ true) (x : ℕ → Circuit) (q : (c : ℕ) → c < circuits t → circuit_at t c ≡ x c) (p : Turn) (turn_tells : p.answer ≡ answer_record records t p.event) where
  abbrev n : ℕ
  n = circuits t

  abbrev e : Event
  e = asked p

  abbrev then_shown : ℕ → Circuit
  then_shown c = after_turn p c (x c)

  -- the history after an answer of which number and place are known
  heard_by : (k i : ℕ) → answer_number p.answer ≡ k → answer_detail p.answer ≡ i → (c : ℕ) → then_shown c ≡ after_answer e k i c (x c)
  heard_by k i a b c = ap₂ (λ (g h : ℕ). after_answer e g h c (x c)) a b

  seized : (i : ℕ) → ChoiceIs (circuit_at t) n e.mark (Some i) → p.answer ≡ seized_octets i (x i) → Answered n x then_shown e p.answer
  seized i h a =
      let one = one-chosen (circuit_at t) x n q e.mark i h in
      record {
        exactly = (λ w. absurd (not_want w), λ g. absurd (chosen_not_none x n e.mark i one g));
        refused = λ w. absurd (not_want w);
        otherwise =
            λ g.
            record {
              circuit = i;
              chosen = one;
              answer = a;
              holds = shown_then i ∙ ap (λ (b : Bool). cond b (made e Seize (x i)) (x i)) (eq-eqb i i refl);
              others = λ c l ne. shown_then c ∙ ap (λ (b : Bool). cond b (made e Seize (x c)) (x c)) (ne_eqb i c (λ z. ne (sym z)));
            };
      }
    where
      lost : Bool
      lost = (x i).holder.present || (x i).reservation.present

      not_want : ForWant p.answer → ⊥
      not_want w = seized-number lost (subst ForWant a w)

      shown_then : (c : ℕ) → then_shown c ≡ cond (eqb i c) (made e Seize (x c)) (x c)
      shown_then c =
          heard_by (cond lost 2 1) i (ap answer_number a) (ap answer_detail a ∙ value-octets 1 i) c ∙ after_seizure e i c (x c) lost

  refused : ChoiceIs (circuit_at t) n e.mark None → p.answer ≡ want_octets (is_routine e.mark.level) → Answered n x then_shown e p.answer
  refused h a =
      let want : ForWant p.answer = subst ForWant (sym a) (want_number (is_routine e.mark.level)) in
      record {
        exactly = (λ w. none-chosen (circuit_at t) x n q e.mark h, λ g. want);
        refused = λ w. (a, λ c l. after_refusal e (answer_detail p.answer) c (x c) (answer_number p.answer) (high want));
        otherwise = λ g. absurd (g want);
      }
    where
      high : ForWant p.answer → 20 ≤ answer_number p.answer
      high (inl z) = omega arith
      high (inr z) = omega arith

  served : NewSetUp n x e → Answered n x then_shown e p.answer
  unfolding records answer_record answered answer_of
  served new = go (choice X n e.mark) (choice_is X n e.mark) (turn_tells ∙ ap answer_octets said)
    where
      X : ℕ → Circuit
      X = circuit_at t

      over : NewSetUp n X e
      over =
          record {
            is_well_formed = new.is_well_formed;
            is_set_up = new.is_set_up;
            holds-nothing = λ c l h. new.holds-nothing c l (subst (λ (y : Circuit). StandsIn e.reference y.holder) (q c l) h);
            reserves_nothing = λ c l h. new.reserves_nothing c l (subst (λ (y : Circuit). StandsIn e.reference y.reservation) (q c l) h);
          }

      said : answered records t p.event ≡ answer_of X n e (found (choice X n e.mark) (does Seize) (Err (blocked e)))
      said = ap (answer_of X n e) (new-decided records t e v over)

      go : (r : Option ℕ) → ChoiceIs X n e.mark r → p.answer ≡ answer_octets (answer_of X n e (found r (does Seize) (Err (blocked e)))) → Answered n x then_shown e p.answer
      go None h a = refused h (a ∙ want_octets_lem (is_routine e.mark.level))
      go (Some i) h a =
          let l = h.0 in
          seized i h
          (a
          ∙ seized-octets (X i) i e.reference (length-span t (32 * i + 7) 5) (length-span t (32 * i + 12 + 7) 5) (lawful.tidy_view t i ((valid_facts records t v).blank i l)) (not_in e.reference (X i).reservation (over.reserves_nothing i l))
          ∙ ap (seized_octets i) (q i l))

-- ---- at any place of a past that began at a valid table t, which shows circuits y
module _ (t : List ℕ) (v : valid records t ≡ true) (y : ℕ → Circuit) (q : (c : ℕ) → c < circuits t → circuit_at t c ≡ y c) where
  abbrev since : List Turn → ℕ → Circuit
  since ps c = history_from (y c) ps c

  pub served_within : (before : List Turn) (p : Turn) (later : List Turn) (u : List ℕ) → Ran t (before ++ p ∷ later) u → NewSetUp (circuits t) (since before) (asked p) → Answered (circuits t) (since before) (λ c. after_turn p c (since before c)) (asked p) p.answer
  served_within before p later u ran =
      let s = stood p later u before t v y q ran in
      let x : ℕ → Circuit = since before in
      let then_shown : ℕ → Circuit = λ c. after_turn p c (x c) in
      subst (λ (m : ℕ). ((c : ℕ) → c < m / circuit_size → circuit_at s.table c ≡ x c) → NewSetUp (m / circuit_size) x (asked p) → Answered (m / circuit_size) x then_shown (asked p) p.answer) s.shows.as_long
      (λ f. served s.table s.shows.still-valid x f p s.answer) s.shows.tells
