-- A list is its events one by one.
use Prim.Native.Nat.{ℕ, zero, suc, ◌*◌, ◌/◌}
use mathlib.Core.Path.{◌≡◌, refl, sym, ap, ap₂, ◌∙◌, subst}
use mathlib.Core.Bool.{Bool, true, cond, ◌&&◌}
use mathlib.Core.List.{List, [], ◌∷◌, ◌++◌, flatten, append-nil}
use lib.ListN.{length, replicate}
use lib.Dec.{eqb}
use borrow.Author.Tests.{eq-eqb}
use Rattle.octets.proofs.Tests.{and_left, and_both, by_so, by_test}
use Rattle.octets.proofs.Spans.{length-span, span_all}
use Rattle.rules.specs.Numbers.{wrong_length}
use Rattle.rules.specs.Run.{after, answer_record, run, answer_records}
use Rattle.rules.specs.Records.{records, table_length, list_length}
use Rattle.route.specs.Entries.{event_lengths, event_table, event_answer, events_to, events_in, list_lengths, list_number, list_table, list_answers}
use Rattle.claims.specs.History.{Turn}
use Rattle.claims.specs.Lists.{EventList, turns_to, turns, table_after, past}
use Rattle.claims.specs.OneByOne.{EventByEvent, OneByOne, ListOfOne}
use Rattle.claims.proofs.Octets.{length-after}
use Rattle.claims.proofs.Ran.{Ran}
use Rattle.claims.proofs.Cut.{list_ran}
use Rattle.claims.proofs.Refused.{table_then, answer_then}

-- ---- each event of a past has 16 octets
abbrev Sixteens : List Turn → Type 0
Sixteens [] = Unit {0}
Sixteens (p ∷ ps) = (length p.event ≡ 16) × Sixteens ps

sixteens_append : (ps qs : List Turn) → Sixteens ps → Sixteens qs → Sixteens (ps ++ qs)
sixteens_append [] qs h g = g
sixteens_append (p ∷ ps) qs h g = (h.0, sixteens_append ps qs h.1 g)

sixteens_to : (es answers : List ℕ) (n : ℕ) → Sixteens (turns_to es answers n)
sixteens_to es answers zero = tt
sixteens_to es answers (suc n) = sixteens_append (turns_to es answers n) _ (sixteens_to es answers n) (length-span es (16 * n) 16, tt)

sixteens : (t : List ℕ) (k : EventList) → Sixteens (turns t k)
unfolding turns
sixteens t k =
    by_test Sixteens (eqb (list_number t k.events k.places) 0) (turns_to k.events (list_answers t k.events k.places) (length k.events / 16)) []
    (λ q. sixteens_to k.events (list_answers t k.events k.places) (length k.events / 16)) (λ q. tt)

-- ---- so over a table the event entry goes the same way
alone : (ps : List Turn) (t u : List ℕ) → table_length (length t) ≡ true → Sixteens ps → Ran t ps u → EventByEvent t ps u
unfolding event_lengths
alone [] t u l h r = r
alone (p ∷ ps) t u l h r =
    let e = p.event in
    let q : event_lengths t e (replicate 16 0) ≡ true = and_both (table_length (length t)) (eqb (length e) 16 && true) l (and_both (eqb (length e) 16) true (eq-eqb (length e) 16 h.0) refl) in (
      r.0 ∙ sym (answer_then t e (replicate 16 0) q),
      subst (λ (s : List ℕ). EventByEvent s ps u) (sym (table_then t e (replicate 16 0) q))
          (alone ps (after records t e) u (ap table_length (length-after t e) ∙ l) h.1 r.1),
    )

by_event_append : (ps qs : List Turn) (t u v : List ℕ) → EventByEvent t ps u → EventByEvent u qs v → EventByEvent t (ps ++ qs) v
by_event_append [] qs t u v h g = subst (λ (s : List ℕ). EventByEvent s qs v) (sym h) g
by_event_append (p ∷ ps) qs t u v h g =
    (h.0, by_event_append ps qs (event_table t p.event (replicate 16 0)) u v h.1 g)

-- one list; one that is refused adds nothing
list_alone : (t : List ℕ) (k : EventList) → EventByEvent t (turns t k) (list_table t k.events k.places)
unfolding turns list_number list_table list_lengths
list_alone t k =
    let es = k.events in
    let room = k.places in
    by_so (list_lengths t es room)
    (λ q. alone (turns t k) t (list_table t es room) (and_left (table_length (length t)) (list_length (length es) (length room)) q) (sixteens t k) (list_ran t k))
    (λ q.
    subst (λ (b : Bool). EventByEvent t (cond (eqb (cond b 0 wrong_length) 0) (turns_to es (list_answers t es room) (length es / 16)) []) (cond b (run records t (events_in es)) t)) (sym q) refl)

pub one_by_one : OneByOne
one_by_one t [] = refl
one_by_one t (k ∷ ks) =
    let u = list_table t k.events k.places in
    by_event_append (turns t k) (past u ks) t u (table_after u ks) (list_alone t k) (one_by_one u ks)

-- ---- a list of one event
module _ (t e place : List ℕ) (sixteen : length e ≡ 16) where
  pub same_lengths : list_lengths t e place ≡ event_lengths t e place
  unfolding list_lengths event_lengths list_length
  same_lengths =
      ap (λ (m : ℕ). table_length (length t) && list_length m (length place)) sixteen
      ∙ sym (ap (λ (m : ℕ). table_length (length t) && (eqb m 16 && eqb (length place) 16)) sixteen)

  its_event : events_in e ≡ e ∷ []
  unfolding events_in
  its_event = ap (λ (m : ℕ). events_to e (m / 16)) sixteen ∙ ap (λ (l : List ℕ). l ∷ []) (span_all e 16 sixteen)

pub list_of_one : ListOfOne
unfolding list_table list_answers event_table event_answer flatten
list_of_one t e place sixteen = (
  ap₂ (λ (b : Bool) (es : List (List ℕ)). cond b (run records t es) t) (same_lengths t e place sixteen) (its_event t e place sixteen),
  ap₂ (λ (b : Bool) (es : List (List ℕ)). cond b (flatten (answer_records records t es)) place) (same_lengths t e place sixteen) (its_event t e place sixteen)
      ∙ ap (λ (l : List ℕ). cond (event_lengths t e place) l place) (append-nil (answer_record records t e)),
)
