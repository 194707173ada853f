-- In any lawful layout, once a kind 6 has taken the mark off a holder, another kind 6 of the same call changes nothing and is accepted; and
-- once a kind 7 has ended a holder's ringing, another kind 7.
use Rattle.std.proofs.Common.{◌≡◌, ℕ, ◌<◌, Bool, true, false, cond, ◌||◌, eqb, List, sym, refl, ap, ◌∙◌, subst, arith, eq-eqb}
use Rattle.octets.proofs.Tests.{by_test}
use Rattle.rules.specs.declared.circuit.Circuit.{Circuit}
use Rattle.rules.specs.declared.event.Event.{Event}
use Rattle.std.specs.Prelude.{Option, Ok, Err}
use Rattle.rules.specs.declared.outcome.Act.{Act}
use Rattle.rules.specs.declared.outcome.Act.TheVariants.{Seize, Reserve, Release, Cancel, Unmark, Answered}
use Rattle.rules.specs.declared.outcome.Refusal.{Refusal}
use Rattle.rules.specs.declared.outcome.Refusal.TheVariants.{Malformed, BadRecord, NotThere}
use Rattle.rules.specs.Outcome.{Outcome, does}
use Rattle.rules.specs.declared.outcome.Deed.TheVariants.{Do, Clock}
use Rattle.rules.specs.Verdict.{Verdict}
use Rattle.rules.specs.Numbers.{unmarked, now_answered}
use Rattle.rules.specs.Search.{found}
use Rattle.rules.specs.Circuit.{is_of, made}
use Rattle.rules.specs.Choice.{held_by}
use Rattle.rules.specs.Event.{well_formed, kind_of}
use Rattle.rules.specs.Decision.{unless, on_holder, decision}
use Rattle.rules.specs.Answer.{anothers, may_lose, no_loser, becomes, answer_of}
use Rattle.rules.specs.Layout.{Layout}
use Rattle.rules.specs.Valid.{verdict, valid}
use Rattle.rules.specs.Run.{if_sound, outcome_of, effect, after, answered}
use Rattle.rules.proofs.Lawful.{Lawful}
use Rattle.rules.proofs.Numbers.{refusal_high}
use Rattle.rules.proofs.Searches.{first_cong}
use Rattle.rules.proofs.Faults.{valid_is, by_verdict}
use Rattle.rules.proofs.Grounds.{OnOwn, Held, Grounds, decided}
use Rattle.rules.proofs.Kept.{count-after, view-after, after-valid}

-- ---- what is answered by 8 or by 9 is the act of kind 6 or of kind 7
either_below : (b : Bool) {j k m : ℕ} → j < m → k < m → cond b j k < m
either_below true p q = p
either_below false p q = q

module _ (x : ℕ → Circuit) (n : ℕ) (e : Event) where
  by_number : (o : Outcome) → ((answer_of x n e o).number ≡ unmarked → o ≡ does Unmark (answer_of x n e o).detail) × ((answer_of x n e o).number ≡ now_answered → o ≡ does Answered (answer_of x n e o).detail)
  unfolding answer_of
  by_number (Err r) = let high = refusal_high r in (λ q. absurd (omega arith), λ q. absurd (omega arith))
  by_number (Ok (Do Seize i)) =
      let low : (answer_of x n e (does Seize i)).number < 8 = either_below ((x i).holder.present || (anothers e.reference (x i).reservation).present) (omega arith) (omega arith) in
      (λ q. absurd (omega arith), λ q. absurd (omega arith))
  by_number (Ok (Do Reserve i)) =
      let low : (answer_of x n e (does Reserve i)).number < 8 = either_below (x i).reservation.present (omega arith) (omega arith) in
      (λ q. absurd (omega arith), λ q. absurd (omega arith))
  by_number (Ok (Do Release i)) = (λ q. absurd (omega arith), λ q. absurd (omega arith))
  by_number (Ok (Do Cancel i)) = (λ q. absurd (omega arith), λ q. absurd (omega arith))
  by_number (Ok (Do Unmark i)) = (λ q. refl, λ q. absurd (omega arith))
  by_number (Ok (Do Answered i)) = (λ q. absurd (omega arith), λ q. refl)
  by_number (Ok Clock) = (λ q. absurd (omega arith), λ q. absurd (omega arith))

-- ---- an act on the circuit that a call holds, by a kind of event and with an accepting number, that leaves the call there and that a second
-- event of its kind does over again
pub record Lasting (a : Act) (kind number : ℕ) : Type 0 where
  pub low : number < 20
  pub by_accepted : (x : ℕ → Circuit) (n : ℕ) (e : Event) (o : Outcome) → (answer_of x n e o).number ≡ number → o ≡ does a (answer_of x n e o).detail
  pub by_kind : (x : ℕ → Circuit) (n : ℕ) (e : Event) → e.kind ≡ kind → decision x n e ≡ on_holder x n a e
  pub well_formed_lem : (e : Event) → e.kind ≡ kind → e.parameterless ≡ true → well_formed e ≡ true
  pub malformed : (e : Event) → e.kind ≡ kind → e.parameterless ≡ false → well_formed e ≡ false
  pub own : (x : ℕ → Circuit) (n : ℕ) (e : Event) (i : ℕ) → Grounds x n e (does a i) → OnOwn x n e kind (Held x n e) i
  pub same_call : (e : Event) (c : Circuit) (r : List ℕ) → is_of r (made e a c).holder ≡ is_of r c.holder
  pub once : (e f : Event) (c : Circuit) → made f a (made e a c) ≡ made e a c
  pub nobody-lost : (x : ℕ → Circuit) (n : ℕ) (e f : Event) (i : ℕ) (c : Circuit) → x i ≡ made e a c → answer_of x n f (does a i) ≡ no_loser number i

pub no_service_lem : Lasting Unmark 6 unmarked
unfolding decision well_formed kind_of answer_of
no_service_lem =
    record {
      low = omega arith;
      by_accepted = λ x n e o. (by_number x n e o).0;
      by_kind = λ x n e k. simp (k);
      well_formed_lem = λ e k p. simp (k, p);
      malformed = λ e k p. simp (k, p);
      own = λ x n e i g. g;
      same_call = λ e c r. refl;
      once = λ e f c. refl;
      nobody-lost = λ x n e f i c q. ap (λ (y : Circuit). may_lose unmarked i y.reservation) q;
    }

pub answered-call : Lasting Answered 7 now_answered
unfolding decision well_formed kind_of answer_of
answered-call =
    record {
      low = omega arith;
      by_accepted = λ x n e o. (by_number x n e o).1;
      by_kind = λ x n e k. simp (k);
      well_formed_lem = λ e k p. simp (k, p);
      malformed = λ e k p. simp (k, p);
      own = λ x n e i g. g;
      same_call = λ e c r. refl;
      once = λ e f c. refl;
      nobody-lost = λ x n e f i c q. refl;
    }

-- over a valid table such an event is an act on the circuit that its call holds
pub by_holder : {a : Act} {kind number : ℕ} → Lasting a kind number → {S : Type 0} (L : Layout S) (s : S) (e : Event) → valid L s ≡ true → e.kind ≡ kind → e.parameterless ≡ true → outcome_of L s e ≡ on_holder (L.view s) (L.count s) a e
unfolding outcome_of valid
by_holder K L s e v k zero =
    let decides = decision (L.view s) (L.count s) e in
    ap (λ (b : Bool). unless b Malformed (if_sound (verdict L s) decides)) (K.well_formed_lem e k zero)
    ∙ ap (λ (w : Verdict). if_sound w decides) (valid_is (verdict L s) v)
    ∙ K.by_kind (L.view s) (L.count s) e k

-- ---- event e over table s was accepted by this number
module _ {a : Act} {kind number : ℕ} (K : Lasting a kind number) {S : Type 0} (L : Layout S) (s : S) (e : List ℕ) (accepted : (answered L s e).number ≡ number) where
  abbrev ev : Event
  ev = L.event e

  abbrev x : ℕ → Circuit
  x = L.view s

  abbrev n : ℕ
  n = L.count s

  abbrev i : ℕ  -- the circuit that the answer names
  i = (answered L s e).detail

  decided_so : outcome_of L s ev ≡ does a i
  unfolding answered
  decided_so = K.by_accepted x n ev (outcome_of L s ev) accepted

  not_refused : (r : Refusal) → (answer_of x n ev (Err r)).number ≡ number → ⊥
  unfolding answer_of
  not_refused r q = omega (arith, K.low, refusal_high r)

  by_rules : (valid L s ≡ true) × (outcome_of L s ev ≡ decision x n ev)
  unfolding outcome_of valid answered
  by_rules =
      by_test P (well_formed ev) _ (Err Malformed)
      (λ w. by_verdict P (verdict L s) (decision x n ev) (λ v q. (v, refl)) (λ r j z q. absurd (not_refused (BadRecord r j) q)))
      (λ w q. absurd (not_refused Malformed q)) accepted
    where
      P : Outcome → Type 0
      P o = (answer_of x n ev o).number ≡ number → (valid L s ≡ true) × (o ≡ decision x n ev)

  -- the event is of this kind, and its call holds the circuit
  pub accepted_own : OnOwn x n ev kind (Held x n ev) i
  accepted_own = K.own x n ev i (subst (Grounds x n ev) decided_so (decided L s ev))

  -- ---- in a lawful layout
  module _ (W : Lawful L) where
    abbrev u : S  -- the table that e leaves
    u = after L s e

    stands : (c : ℕ) → c < n → L.view u c ≡ becomes ev (does a i) c (x c)
    stands c l = view-after L W s e by_rules.0 c l ∙ ap (λ (o : Outcome). becomes ev o c (x c)) decided_so

    stands-there : L.view u i ≡ made ev a (x i)
    stands-there = stands i accepted_own.there ∙ ap (λ (b : Bool). cond b (made ev a (x i)) (x i)) (eq-eqb i i refl)

    -- each call holds the circuit that it held
    same_held : (r : List ℕ) → held_by (L.view u) (L.count u) r ≡ held_by x n r
    unfolding held_by
    same_held r =
        ap (λ (m : ℕ). held_by (L.view u) m r) (count-after L W s e)
        ∙ first_cong (λ c. is_of r (L.view u c).holder) (λ c. is_of r (x c).holder) n
        (λ c l.
        ap (λ (y : Circuit). is_of r y.holder) (stands c l)
        ∙ by_test (λ (y : Circuit). is_of r y.holder ≡ is_of r (x c).holder) (eqb i c) (made ev a (x c)) (x c) (λ q. K.same_call ev (x c) r) (λ q. refl))

    -- ---- event f is of the same kind and of the same call
    module _ (f : List ℕ) (again : (L.event f).kind ≡ kind) (zero : (L.event f).parameterless ≡ true) (call : (L.event f).reference ≡ ev.reference) where
      abbrev fv : Event
      fv = L.event f

      decided-again : outcome_of L u fv ≡ does a i
      unfolding on_holder
      decided-again =
          let acts : Option ℕ → Outcome = λ h. found h (does a) (Err NotThere) in
          by_holder K L u fv (after-valid L W s e by_rules.0) again zero
          ∙ ap (λ (r : List ℕ). acts (held_by (L.view u) (L.count u) r)) call
          ∙ ap acts (same_held ev.reference)
          ∙ sym (K.by_kind x n ev accepted_own.kind) ∙ sym by_rules.1 ∙ decided_so

      -- the first event stored what the act made of the circuit, and the second stores the same again
      pub table-again : after L u f ≡ u
      unfolding after effect
      table-again =
          let y = made ev a (x i) in
          let left : u ≡ L.store s i y = ap (effect L s ev) decided_so in
          ap (effect L u fv) decided-again
          ∙ ap (λ (c : Circuit). L.store u i (made fv a c)) stands-there
          ∙ ap (L.store u i) (K.once ev fv (x i))
          ∙ ap (λ (t : S). L.store t i y) left
          ∙ W.store-again s i y accepted_own.there ∙ sym left

      pub answer-again : answered L u f ≡ no_loser number i
      unfolding answered
      answer-again =
          ap (answer_of (L.view u) (L.count u) fv) decided-again
          ∙ K.nobody-lost (L.view u) (L.count u) ev fv i (x i) stands-there
