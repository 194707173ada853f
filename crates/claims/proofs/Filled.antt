-- An answer names a lost holder at 2 alone, and a lost reservation at 2, 4 and 8.
use Prim.Native.Nat.{ℕ, ◌<◌}
use mathlib.Core.Path.{◌≡◌, refl, ap, ◌∙◌}
use mathlib.Core.Logic.{◌≢◌}
use mathlib.Core.Bool.{Bool, true, false, cond, ◌||◌}
use mathlib.Core.List.{List}
use Rattle.octets.proofs.Tests.{by_so, by_test}
use Rattle.rules.specs.declared.part.Part.{Part}
use Rattle.rules.specs.declared.circuit.Circuit.{Circuit}
use Rattle.rules.specs.declared.event.Event.{Event}
use Rattle.rules.specs.declared.answer.Answer.{Answer}
use Rattle.rules.specs.declared.outcome.Act.TheVariants.{Seize, Reserve, Release, Cancel, Unmark, Answered}
use Rattle.rules.specs.Outcome.{Outcome}
use Rattle.std.specs.Prelude.{Ok, Err}
use Rattle.rules.specs.declared.outcome.Deed.TheVariants.{Do, Clock}
use Rattle.rules.specs.Circuit.{nobody, is_of}
use Rattle.rules.specs.Numbers.{refusal_number}
use Rattle.rules.specs.Answer.{refusal_detail, no_loser, anothers, answer_of}
use Rattle.rules.specs.Valid.{valid}
use Rattle.rules.specs.Run.{outcome_of, answered, answer_record}
use Rattle.rules.specs.Records.{circuit_at, loser, event_at, records, circuits, lost_call, lost_reservation}
use Rattle.rules.proofs.Lawful.{Tidy}
use Rattle.rules.proofs.Records.{lawful}
use Rattle.rules.proofs.Faults.{valid_facts}
use Rattle.rules.proofs.Kept.{not_valid_refused}
use Rattle.claims.specs.OneByOne.{NamedOnlyAt}
use Rattle.rules.proofs.Grounds.{Grounds, decided}
use Rattle.claims.proofs.Refused.{lengths_right, number_then, answer_then}

-- who is lost by an answer
record Lost (a : Answer) : Type 0 where
  call : a.number ≢ 2 → a.call ≡ nobody
  reservation : a.number ≢ 2 → a.number ≢ 4 → a.number ≢ 8 → a.reservation ≡ nobody

nobody-lost : (k i : ℕ) → Lost (no_loser k i)
nobody-lost k i = record { call = λ a. refl; reservation = λ a b c. refl }

-- of either part: number b is given if somebody was lost
none-lost : (h r : Bool) (a b : ℕ) → cond (h || r) b a ≢ b → (h ≡ false) × (r ≡ false)
none-lost true r a b n = absurd (n refl)
none-lost false true a b n = absurd (n refl)
none-lost false false a b n = (refl, refl)

-- over circuits x, in each of which an absent part is nobody
module _ (x : ℕ → Circuit) (n : ℕ) (tidy : (i : ℕ) → i < n → Tidy (x i)) (e : Event) where
  who_is_lost : (o : Outcome) → Grounds x n e o → Lost (answer_of x n e o)
  unfolding answer_of
  who_is_lost (Err r) h = nobody-lost (refusal_number r) (refusal_detail r)
  who_is_lost (Ok (Do Seize i)) h =
      let q = anothers e.reference (x i).reservation in
      let none = none-lost (x i).holder.present q.present 1 2 in
      record {
        call = λ a. (tidy i h.there).holder (none a).0;
        reservation =
            λ a b c.
            by_test (λ (p : Part). p.present ≡ false → p ≡ nobody) (is_of e.reference (x i).reservation) nobody (x i).reservation (λ z g. refl) (λ z. (tidy i h.there).reservation) (none a).1;
      }
  who_is_lost (Ok (Do Reserve i)) h =
      record { call = λ a. refl; reservation = λ a b c. (tidy i h.there).reservation (none-lost false (x i).reservation.present 3 4 b).1 }
  who_is_lost (Ok (Do Release i)) h = nobody-lost 5 i
  who_is_lost (Ok (Do Cancel i)) h = nobody-lost 6 i
  who_is_lost (Ok (Do Unmark i)) h = record { call = λ a. refl; reservation = λ a b c. absurd (c refl) }
  who_is_lost (Ok (Do Answered i)) h = nobody-lost 9 i
  who_is_lost (Ok Clock) h = nobody-lost 7 _

-- over any table: one that is not valid is refused
answered-lost : (t e : List ℕ) → Lost (answered records t e)
unfolding records answered answer_of
answered-lost t e =
    by_so (valid records t)
    (λ v.
    who_is_lost (circuit_at t) (circuits t) (λ i l. lawful.tidy_view t i ((valid_facts records t v).blank i l)) (event_at e) (outcome_of records t (event_at e)) (decided records t (event_at e)))
    (λ v. not_valid_refused records (λ o. Lost (answer_of (circuit_at t) (circuits t) (event_at e) o)) t (event_at e) v (λ r. nobody-lost (refusal_number r) (refusal_detail r)))

pub named_only_at : NamedOnlyAt
unfolding records answer_record
named_only_at t e place right =
    let q = lengths_right t e place right in
    let k = number_then t e place q in
    let lost = answered-lost t e in
    let said = answer_then t e place q in
    record {
      call = λ two. ap lost_call said ∙ ap loser (lost.call (λ z. two (k ∙ z)));
      reservation = λ two four eight. ap lost_reservation said ∙ ap loser (lost.reservation (λ z. two (k ∙ z)) (λ z. four (k ∙ z)) (λ z. eight (k ∙ z)));
    }
