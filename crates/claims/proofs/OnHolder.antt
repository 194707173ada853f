-- An event of kind 6 or 7 acts on the circuit that its call holds, and a second one of the same call changes nothing.
use Prim.Native.Nat.{ℕ, ◌<◌}
use mathlib.Core.Path.{◌≡◌, refl, sym, ap, ◌∙◌, subst}
use mathlib.Core.Logic.{◌≢◌}
use mathlib.Core.Bool.{Bool, true, cond}
use mathlib.Core.List.{List}
use native.Mathlib.Omega.{arith}
use lib.ListN.{length}
use borrow.Author.Tests.{eq-eqb, ne_eqb}
use Rattle.octets.proofs.Tests.{and_both}
use Rattle.rules.specs.declared.circuit.Circuit.{Circuit}
use Rattle.rules.specs.declared.event.Event.{Event}
use Rattle.rules.specs.declared.answer.Answer.{Answer}
use Rattle.std.specs.Prelude.{Option, Err}
use Rattle.rules.specs.declared.outcome.Act.{Act}
use Rattle.rules.specs.declared.outcome.Act.TheVariants.{Unmark, Answered}
use Rattle.rules.specs.declared.outcome.Refusal.TheVariants.{Malformed, NotThere}
use Rattle.rules.specs.Outcome.{Outcome, does}
use Rattle.rules.specs.Numbers.{cause_of}
use Rattle.rules.specs.Numbers as number
use Rattle.rules.specs.Search.{found}
use Rattle.rules.specs.Circuit.{is_of, made}
use Rattle.rules.specs.Choice.{held_by}
use Rattle.rules.specs.Decision.{unless, on_holder, decision}
use Rattle.rules.specs.Answer.{becomes, answer_of}
use Rattle.rules.specs.Valid.{verdict, valid}
use Rattle.rules.specs.Run.{if_sound, outcome_of, effect, after, answered, answer_record}
use Rattle.rules.specs.Records.{circuit_at, circuits, put_circuit, check_number, table_length, event_size, event_at, nobody_lost, answer_fields, answer_octets, answer_detail, answer_size, records}
use Rattle.rules.proofs.Records.{lawful}
use Rattle.rules.proofs.Searches.{first_of, first_none}
use Rattle.rules.proofs.Faults.{valid_facts}
use Rattle.rules.proofs.Check.{check_done}
use Rattle.rules.proofs.Kept.{view-after, after-valid}
use Rattle.rules.proofs.Again.{Lasting, no_service_lem, answered-call, by_holder, table-again, answer-again}
use Rattle.route.specs.Entries.{event_lengths, event_number, event_table, event_answer}
use Rattle.claims.specs.Demand.{StandsIn}
use Rattle.claims.specs.OnHolder.{OfHolder, HolderEvent, ZeroParameter, StaysSo, SecondAccepted}
use Rattle.claims.specs.OnHolder as kind
use Rattle.claims.proofs.Plain.{so_in, not_in}
use Rattle.claims.proofs.Twice.{in_one_part}
use Rattle.claims.proofs.Octets.{answer-detail, length-after}
use Rattle.claims.proofs.Refused.{lengths_right, table_right, number_then, table_then, answer_then}

-- the act of such a kind
act_of : {k m : ℕ} → OfHolder k m → (a : Act) × Lasting a k m
act_of kind.without_service = (Unmark, no_service_lem)
act_of kind.answered = (Answered, answered-call)

-- the lengths of such an event, over a table of right length
right_lengths : (t f place : List ℕ) {k : ℕ} {r : List ℕ} → table_length (length t) ≡ true → HolderEvent k r f → length place ≡ answer_size → event_lengths t f place ≡ true
unfolding event_lengths
right_lengths t f place l g long =
    and_both _ _ l (and_both _ _ (eq-eqb (length f) event_size g.octets) (eq-eqb (length place) answer_size long))

-- ---- over any table
pub zero-parameter : ZeroParameter
unfolding records answered answer_of outcome_of
zero-parameter k m h t f place right kind p =
    number_then t f place (lengths_right t f place right)
    ∙ ap (λ (b : Bool). (answer_of (circuit_at t) (circuits t) (event_at f) (unless b Malformed (if_sound (verdict records t) (decision (circuit_at t) (circuits t) (event_at f))))).number)
    ((act_of h).1.malformed (event_at f) kind p)

-- ---- over a table that the check takes
module _ {a : Act} {k m : ℕ} (K : Lasting a k m) (t f place r : List ℕ) (takes : check_number t ≡ number.done) (g : HolderEvent k r f) (long : length place ≡ answer_size) where
  abbrev x : ℕ → Circuit
  x = circuit_at t

  abbrev n : ℕ
  n = circuits t

  abbrev e : Event
  e = event_at f

  sound : valid records t ≡ true
  sound = (check_done t takes).1

  right : event_lengths t f place ≡ true
  right = right_lengths t f place (check_done t takes).0 g long

  -- and the table that the event leaves is valid too
  pub still-sound : valid records (event_table t f place) ≡ true
  still-sound = ap (valid records) (table_then t f place right) ∙ after-valid records lawful t f sound

  -- what is decided by the circuit that the call holds
  by_held : {h : Option ℕ} → held_by x n r ≡ h → outcome_of records t e ≡ found h (does a) (Err NotThere)
  unfolding records on_holder
  by_held q =
      by_holder K records t e sound g.kind g.parameter
      ∙ ap (λ (s : List ℕ). found (held_by x n s) (does a) (Err NotThere)) g.reference
      ∙ ap (λ (h : Option ℕ). found h (does a) (Err NotThere)) q

  pub nobody-holds : ((c : ℕ) → c < n → StandsIn r (x c).holder → ⊥) → event_number t f place ≡ 27
  unfolding records answered answer_of held_by
  nobody-holds none =
      number_then t f place right
      ∙ ap (λ (o : Outcome). (answer_of x n e o).number) (by_held (first_none (λ c. is_of r (x c).holder) n (λ c l. not_in r (x c).holder (none c l))))

  -- the call holds circuit c, and no other
  module _ (c : ℕ) (l : c < n) (holds : StandsIn r (x c).holder) where
    decides : outcome_of records t e ≡ does a c
    unfolding records held_by
    decides =
        by_held
        (first_of (λ d. is_of r (x d).holder) n c l
        (λ d m.
        not_in r (x d).holder
        (λ s. let same = (in_one_part x n (valid_facts records t sound).unique r).one-held d c (omega arith) l s holds in omega arith))
        (so_in r (x c).holder holds))

    answers : answered records t f ≡ answer_of x n e (does a c)
    unfolding records answered
    answers = ap (answer_of x n e) decides

    pub number-given : event_number t f place ≡ (answer_of x n e (does a c)).number
    number-given = number_then t f place right ∙ ap (λ (a : Answer). a.number) answers

    pub answer-given : event_answer t f place ≡ answer_octets (answer_of x n e (does a c))
    unfolding records answer_record
    answer-given = answer_then t f place right ∙ ap answer_octets answers

    pub table-made : event_table t f place ≡ put_circuit t c (made e a (x c))
    unfolding records after effect
    table-made = table_then t f place right ∙ ap (effect records t e) decides

    becomes_so : (d : ℕ) → d < n → circuit_at (event_table t f place) d ≡ becomes e (does a c) d (x d)
    unfolding records
    becomes_so d m =
        ap (λ (u : List ℕ). circuit_at u d) (table_then t f place right)
        ∙ view-after records lawful t f sound d m
        ∙ ap (λ (o : Outcome). becomes e o d (x d)) decides

    pub circuit-made : circuit_at (event_table t f place) c ≡ made e a (x c)
    circuit-made = becomes_so c l ∙ ap (λ (b : Bool). cond b (made e a (x c)) (x c)) (eq-eqb c c refl)

    pub others_stay : (d : ℕ) → d < n → d ≢ c → circuit_at (event_table t f place) d ≡ x d
    others_stay d m ne = becomes_so d m ∙ ap (λ (b : Bool). cond b (made e a (x d)) (x d)) (ne_eqb c d (λ z. ne (sym z)))

-- ---- over the table that a first event leaves
-- an accepting number has no cause
no_cause : {k : ℕ} → k < 20 → cause_of k ≡ 0
no_cause {k} l = simp (ne_eqb k 30 (λ z. omega arith), ne_eqb k 31 (λ z. omega arith))

module _ {a : Act} {k m : ℕ} (K : Lasting a k m) (t e f next : List ℕ) (first : (answered records t e).number ≡ m) (g : HolderEvent k (event_at e).reference f) where
  stays_so : event_lengths (after records t e) f next ≡ true → StaysSo m (after records t e) f next (answered records t e).detail
  unfolding records answer_record
  stays_so q =
      let u = after records t e in
      let said = answer-again K records t e first lawful f g.kind g.parameter g.reference in
      record {
        accepted = number_then u f next q ∙ ap (λ (a : Answer). a.number) said;
        table = table_then u f next q ∙ table-again K records t e first lawful f g.kind g.parameter g.reference;
        answer = answer_then u f next q ∙ ap answer_octets said ∙ ap (λ (cause : ℕ). answer_fields m cause (answered records t e).detail nobody_lost nobody_lost) (no_cause K.low);
      }

pub second_accepted : SecondAccepted
second_accepted k m h t d place f next first g long =
    let K = (act_of h).1 in
    let q = lengths_right t d place (λ z. omega (arith, K.low)) in
    let right = right_lengths (after records t d) f next (ap table_length (length-after t d) ∙ table_right t d place q) g long in
    let same : (answered records t d).detail ≡ answer_detail (event_answer t d place) = sym (ap answer_detail (answer_then t d place q) ∙ answer-detail t d) in
    subst (λ (c : ℕ). StaysSo m (event_table t d place) f next c) same
    (subst (λ (u : List ℕ). StaysSo m u f next (answered records t d).detail) (sym (table_then t d place q))
    (stays_so K t d f next (sym (number_then t d place q) ∙ first) g right))
