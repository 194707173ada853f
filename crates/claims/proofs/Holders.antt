-- By which turn a holder goes.
use Prim.Native.Nat.{ℕ, ◌+◌, ◌*◌, ◌<◌}
use mathlib.Core.Path.{◌≡◌, refl, ap, ◌∙◌}
use mathlib.Core.Logic.{inl, inr}
use mathlib.Core.Bool.{Bool, true, cond, ◌||◌}
use mathlib.Core.List.{List}
use borrow.Author.Tests.{leb-true}
use Rattle.octets.proofs.Tests.{by_test}
use Rattle.octets.proofs.Width.{value-octets}
use Rattle.octets.proofs.Spans.{length-span}
use Rattle.rules.specs.declared.circuit.Circuit.{Circuit}
use Rattle.rules.specs.declared.event.Event.{Event}
use Rattle.rules.specs.declared.outcome.Act.{Act}
use Rattle.rules.specs.declared.outcome.Act.TheVariants.{Seize, Reserve, Release, Cancel, Unmark, Answered}
use Rattle.std.specs.Prelude.{Ok, Err}
use Rattle.rules.specs.declared.outcome.Deed.TheVariants.{Do, Clock}
use Rattle.rules.specs.Outcome.{does}
use Rattle.rules.specs.Circuit.{made, overdue}
use Rattle.rules.specs.Answer.{becomes, anothers, answer_of}
use Rattle.rules.specs.Valid.{pair_ok, valid}
use Rattle.rules.specs.Records.{circuit_at, answer_octets, records, circuits, answer_number, lost_call}
use Rattle.rules.proofs.Faults.{valid_facts}
use Rattle.claims.specs.History.{Turn, asked}
use Rattle.claims.specs.Accidents.{HolderGoes, released, higher_set_up, HolderStays, under_its_mark, unmarked, NoHolderLost}
use Rattle.claims.proofs.Plain.{above_so}
use Rattle.rules.proofs.Grounds.{Grounds}
use Rattle.rules.proofs.Taken.{holder_yields}
use Rattle.claims.proofs.Parties.{by_own, by_higher, After, acted, AtTurn, stays_or_goes}

-- ---- valid table t shows circuits x; p is an event over it with its answer
module _ (t : List ℕ) (v : valid records t ≡ true) (p : Turn) where
  abbrev x : ℕ → Circuit
  x = circuit_at t

  abbrev n : ℕ
  n = circuits t

  abbrev e : Event
  e = asked p

  order : (i : ℕ) → i < n → pair_ok (x i) ≡ true
  unfolding records
  order = (valid_facts records t v).pair

  by_seizure : (i : ℕ) → Grounds x n e (does Seize i) → p.answer ≡ answer_octets (answer_of x n e (does Seize i)) → (x i).holder.present ≡ true → HolderGoes i p (x i)
  unfolding answer_of
  by_seizure i r a there =
      let yields = holder_yields x n e i (order i r.there) there r in
      higher_set_up r.set_up_lem
      (ap answer_number a ∙ ap (λ (b : Bool). cond {A = ℕ} (b || (anothers e.reference (x i).reservation).present) 2 1) there)
      (by_higher p _ a i (value-octets 1 i) (x i).holder lost_call there (length-span t (32 * i + 7) 5) (above_so e.mark (x i).holder.mark yields.2) refl)
      (leb-true (x i).holder.mark.level.0 4 yields.0) yields.1

  by_release : (i : ℕ) → Grounds x n e (does Release i) → p.answer ≡ answer_octets (answer_of x n e (does Release i)) → HolderGoes i p (x i)
  unfolding answer_of
  by_release i r a = released (by_own p _ a i (value-octets 1 i) _ _ r.kind r.own) (ap answer_number a)

  by_no_service : (i : ℕ) → Grounds x n e (does Unmark i) → p.answer ≡ answer_octets (answer_of x n e (does Unmark i)) → HolderStays i p (x i) (made e Unmark (x i))
  unfolding answer_of
  by_no_service i r a = unmarked (by_own p _ a i (value-octets 1 i) _ _ r.kind r.own) (ap answer_number a) refl

  at_act : (c : ℕ) → (x c).holder.present ≡ true → (a : Act) (i : ℕ) → ((x i).holder.present ≡ true → After (λ y. y.holder) HolderStays HolderGoes i p (x i) (made e a (x i))) → After (λ y. y.holder) HolderStays HolderGoes c p (x c) (becomes e (does a i) c (x c))
  at_act = acted (λ y. y.holder) HolderStays HolderGoes (λ c p y. under_its_mark refl) x p

  at_turn : AtTurn (λ y. y.holder) HolderStays HolderGoes t p
  unfolding answer_of
  at_turn c there (Err r) h a = inl (under_its_mark refl)
  at_turn c there (Ok (Do Seize i)) h a = at_act c there Seize i (λ q. inr (by_seizure i h a q))
  at_turn c there (Ok (Do Reserve i)) h a = at_act c there Reserve i (λ q. inl (under_its_mark refl))
  at_turn c there (Ok (Do Release i)) h a = at_act c there Release i (λ q. inr (by_release i h a))
  at_turn c there (Ok (Do Cancel i)) h a = at_act c there Cancel i (λ q. inl (under_its_mark refl))
  at_turn c there (Ok (Do Unmark i)) h a = at_act c there Unmark i (λ q. inl (by_no_service i h a))
  at_turn c there (Ok (Do Answered i)) h a = at_act c there Answered i (λ q. inl (under_its_mark refl))
  at_turn c there (Ok Clock) h a =
      inl (by_test (HolderStays c p (x c)) (overdue e.clock (x c)) (made e Cancel (x c)) (x c) (λ z. under_its_mark refl) (λ z. under_its_mark refl))

pub no_holder_lost : NoHolderLost
no_holder_lost = stays_or_goes (λ y. y.holder) HolderStays HolderGoes at_turn
