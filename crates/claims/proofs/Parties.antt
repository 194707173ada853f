-- A party in either part of a circuit: what it goes by; and what holds of one turn over a valid table holds at every turn of a past.
use Prim.Native.Nat.{ℕ, ◌<◌}
use mathlib.Core.Path.{◌≡◌, refl, sym, ap, ap₂, ◌∙◌, subst}
use mathlib.Core.Logic.{◌⊎◌, inl, inr}
use mathlib.Core.Bool.{Bool, true, false, cond, true≢false}
use mathlib.Core.List.{List, [], ◌∷◌, ◌++◌}
use native.Mathlib.Omega.{arith}
use lib.ListN.{length}
use lib.Dec.{eqb}
use borrow.Author.Tests.{eq-eqb, ne_eqb}
use Rattle.octets.proofs.Tests.{by_eq}
use Rattle.octets.proofs.Spans.{span_all}
use Rattle.rules.specs.declared.part.Part.{Part}
use Rattle.rules.specs.declared.circuit.Circuit.{Circuit}
use Rattle.rules.specs.declared.event.Event.{Event}
use Rattle.rules.specs.declared.outcome.Act.{Act}
use Rattle.rules.specs.Outcome.{Outcome}
use Rattle.rules.specs.Circuit.{is_of, standing, made}
use Rattle.rules.specs.Answer.{becomes, answer_of}
use Rattle.rules.specs.Valid.{valid}
use Rattle.rules.specs.Run.{outcome_of, answered, answer_record}
use Rattle.rules.specs.Records.{circuit_at, flag, loser, somebody_lost, answer_octets, records, circuits, answer_detail, empty_table}
use Rattle.claims.specs.History.{Turn, asked, after_turn, empty, history}
use Rattle.claims.specs.Lists.{EventList, table_after, past}
use Rattle.claims.specs.Chosen.{Free}
use Rattle.claims.specs.Accidents.{Own, Taken, StaysOrGoes}
use Rattle.claims.proofs.Answers.{answer_tells}
use Rattle.claims.proofs.Plain.{stands_in_lem, free_so, Above, lower_so}
use Rattle.rules.proofs.Grounds.{Open, Grounds, decided}
use Rattle.claims.proofs.Ran.{turn_as_answered, stood}
use Rattle.claims.proofs.Start.{start-valid}
use Rattle.claims.proofs.Demanded.{start-count, start-shows, history_then, ran_split}

-- the octets of a loser are those of somebody lost
pub loser-named : (q : Part) → q.present ≡ true → length q.reference ≡ 5 → loser q ≡ somebody_lost q.reference
loser-named q there five = ap₂ (λ (b : Bool) (r : List ℕ). flag b ∷ r) there (span_all q.reference 5 five)

-- ---- what stands in part q of circuit i goes by turn p; l is the answer, which names the circuit
module _ (p : Turn) (l : List ℕ) (a : p.answer ≡ l) (i : ℕ) (names : answer_detail l ≡ i) (q : Part) where
  pub by_own : (k : ℕ) → (asked p).kind ≡ k → is_of (asked p).reference q ≡ true → Own k i q p
  by_own k h own = record { kind = h; party = stands_in_lem (asked p).reference q own; named = ap answer_detail a ∙ names }

  pub by_higher : (lost : List ℕ → List ℕ) → q.present ≡ true → length q.reference ≡ 5 → Above (asked p).mark q.mark → lost l ≡ loser q → Taken lost i q p
  by_higher lost there five h is =
      record {
        domain = h.0;
        level = h.1;
        named = ap answer_detail a ∙ names;
        lost = ap lost a ∙ is ∙ loser-named q there five;
      }

-- ---- a call to which circuit i is open is above a reservation there
module _ (x : ℕ → Circuit) (n : ℕ) (e : Event) (i : ℕ) where
  above-standing : Open x n e i → (Free (x i) → ⊥) → Above e.mark (standing (x i))
  above-standing (inl f) g = absurd (g (free_so (x i) f))
  above-standing (inr o) g = let w = lower_so e.mark (x i) o in (sym w.domain, w.level)

  pub above-reservation : Open x n e i → (x i).reservation.present ≡ true → Above e.mark (x i).reservation.mark
  above-reservation o there =
      let standing-one = ap (λ (b : Bool). cond b (x i).reservation.mark (x i).holder.mark) there in
      subst (Above e.mark) standing-one (above-standing o (λ f. true≢false (sym there ∙ f.1)))

-- ---- Q is said of circuit c, which was y before turn p and is z after it, and holds of a turn over any valid table, answered by any outcome that has
-- its grounds
module _ (Q : ℕ → Turn → Circuit → Circuit → Type 0) (at_turn : (t : List ℕ) → valid records t ≡ true → (p : Turn) (c : ℕ) (o : Outcome) → Grounds (circuit_at t) (circuits t) (asked p) o → p.answer ≡ answer_octets (answer_of (circuit_at t) (circuits t) (asked p) o) → Q c p (circuit_at t c) (becomes (asked p) o c (circuit_at t c))) where
  -- what the history tells of a circuit that it showed as the table does
  turn_tells : (t : List ℕ) → valid records t ≡ true → (p : Turn) → p.answer ≡ answer_record records t p.event → (c : ℕ) → Q c p (circuit_at t c) (after_turn p c (circuit_at t c))
  unfolding records answer_record answered
  turn_tells t v p a c =
      let x = circuit_at t in
      let o = outcome_of records t (asked p) in
      subst (Q c p (x c)) (sym (turn_as_answered t p a c (x c) ∙ answer_tells x (circuits t) (asked p) c o))
      (at_turn t v p c o (decided records t (asked p)) a)

  -- it holds at each turn after any lists from an empty table
  pub each_turn : (n : ℕ) (lists : List EventList) (before : List Turn) (p : Turn) (later : List Turn) → past (empty_table n) lists ≡ before ++ p ∷ later → (c : ℕ) → c < n → Q c p (history before c) (history (before ++ p ∷ []) c)
  each_turn n lists before p later split c l =
      let s = stood p later (table_after (empty_table n) lists) before (empty_table n) (start-valid n) (λ d. empty) (start-shows n) (ran_split n lists (before ++ p ∷ later) split) in
      subst (λ (h : ℕ → Circuit). Q c p (history before c) (h c)) (sym (history_then before p))
      (subst (λ (y : Circuit). Q c p y (after_turn p c y)) (s.shows.tells c (omega (arith, start-count n))) (turn_tells s.table s.shows.still-valid p s.answer c))

-- ---- a party in this part of a circuit stays or goes
module _ (part : Circuit → Part) (stays : ℕ → Turn → Circuit → Circuit → Type 0) (goes : ℕ → Turn → Circuit → Type 0) where
  abbrev pub After : ℕ → Turn → Circuit → Circuit → Type 0  -- of circuit c, which was y before turn p and is z after it
  After c p y z = stays c p y z ⊎ goes c p y

  -- at an act on circuit i, which is this one or another
  module _ (still : (c : ℕ) (p : Turn) (y : Circuit) → stays c p y y) (x : ℕ → Circuit) (p : Turn) (c : ℕ) (there : (part (x c)).present ≡ true) (a : Act) (i : ℕ) where
    abbrev then : ℕ → Circuit
    then d = cond (eqb i d) (made (asked p) a (x d)) (x d)

    is_then : (d : ℕ) (b : Bool) → eqb i d ≡ b → cond b (made (asked p) a (x d)) (x d) ≡ then d
    is_then d b q = sym (ap (λ (t : Bool). cond t (made (asked p) a (x d)) (x d)) q)

    pub acted : ((part (x i)).present ≡ true → After i p (x i) (made (asked p) a (x i))) → After c p (x c) (then c)
    acted f =
        by_eq i c
        (λ z.
        subst (λ (d : ℕ). After d p (x d) (then d)) z
        (subst (After i p (x i)) (is_then i true (eq-eqb i i refl)) (f (ap (λ (d : ℕ). (part (x d)).present) z ∙ there))))
        (λ z. inl (subst (stays c p (x c)) (is_then c false (ne_eqb i c z)) (still c p (x c))))

  -- at turn p over a valid table t, answered by any outcome that has its grounds
  abbrev pub AtTurn : List ℕ → Turn → Type 0
  AtTurn t p =
      (c : ℕ) → (part (circuit_at t c)).present ≡ true
      → (o : Outcome) → Grounds (circuit_at t) (circuits t) (asked p) o
      → p.answer ≡ answer_octets (answer_of (circuit_at t) (circuits t) (asked p) o)
      → After c p (circuit_at t c) (becomes (asked p) o c (circuit_at t c))

  pub stays_or_goes : ((t : List ℕ) → valid records t ≡ true → (p : Turn) → AtTurn t p) → StaysOrGoes part stays goes
  stays_or_goes at_turn =
      each_turn (λ c p y z. (part y).present ≡ true → After c p y z) (λ t v p c o h a there. at_turn t v p c there o h a)
