-- What is refused names the record that the check gives, at 41 to 45, and no record at the other numbers.
use Prim.Native.Nat.{ℕ}
use mathlib.Core.Path.{◌≡◌, refl, sym, ap, ◌∙◌}
use mathlib.Core.Bool.{Bool, true, cond, ◌&&◌}
use mathlib.Core.List.{List}
use lib.ListN.{length}
use lib.Dec.{leb}
use Rattle.octets.proofs.Tests.{by_test}
use Rattle.rules.specs.declared.circuit.Circuit.{Circuit}
use Rattle.rules.specs.declared.event.Event.{Event}
use Rattle.rules.specs.declared.outcome.Refusal.{Refusal}
use Rattle.rules.specs.declared.outcome.Refusal.TheVariants.{Malformed}
use Rattle.rules.specs.Outcome.{Outcome}
use Rattle.std.specs.Prelude.{Ok, Err}
use Rattle.rules.specs.declared.outcome.Deed.TheVariants.{Do, Clock}
use Rattle.rules.specs.declared.verdict.Reason.{Reason}
use Rattle.rules.specs.declared.verdict.Reason.TheVariants.{FlagOrLevel, DigitOrPointCode, NotZero, NotAbove, Repeated}
use Rattle.rules.specs.Verdict.{Verdict}
use Rattle.rules.specs.Event.{well_formed}
use Rattle.rules.specs.Decision.{decision}
use Rattle.rules.specs.Numbers.{reason_number, refusal_number}
use Rattle.rules.specs.Answer.{no_detail, refusal_detail}
use Rattle.rules.specs.Valid.{verdict}
use Rattle.rules.specs.Run.{outcome_of}
use Rattle.rules.specs.Records.{circuit_at, table_length, circuits, records, checked}
use Rattle.rules.proofs.Faults.{by_verdict}
use Rattle.rules.proofs.Grounds.{GroundsOr, grounds}
use Rattle.rules.proofs.Check.{check_by}

-- d is the record that the check gives
module _ (d : ℕ) where
  abbrev detail_at : ℕ → ℕ
  detail_at k = cond (leb 41 k && leb k 45) d no_detail

  abbrev Named : Refusal → Type 0
  Named r = refusal_detail r ≡ detail_at (refusal_number r)

  abbrev pub Detailed : Outcome → Type 0
  Detailed (Err r) = Named r
  Detailed (Ok (Do a i)) = Unit {0}
  Detailed (Ok Clock) = Unit {0}

  by_fault : (r : Reason) → d ≡ detail_at (reason_number r)
  by_fault FlagOrLevel = refl
  by_fault DigitOrPointCode = refl
  by_fault NotZero = refl
  by_fault NotAbove = refl
  by_fault Repeated = refl

  module _ (x : ℕ → Circuit) (n : ℕ) (e : Event) where
    by_grounds : (o : Outcome) → GroundsOr x n e Named o → Detailed o
    by_grounds (Err r) h = h
    by_grounds (Ok (Do a i)) h = tt
    by_grounds (Ok Clock) h = tt

    -- the rules refuse for no record
    by_rules : well_formed e ≡ true → Detailed (decision x n e)
    by_rules w =
        by_grounds (decision x n e) (grounds x n e Named (λ r f. f.0 ∙ sym (ap (λ (b : Bool). cond b d no_detail) f.1)) w)

-- of any event over a table of right length
pub decided-detail : (t : List ℕ) (e : Event) → table_length (length t) ≡ true → Detailed (checked t).detail (outcome_of records t e)
unfolding outcome_of records checked
decided-detail t e l =
    let d = (checked t).detail in
    by_test (Detailed d) (well_formed e) _ (Err Malformed)
    (λ w.
    by_verdict (Detailed d) (verdict records t) (decision (circuit_at t) (circuits t) e) (λ v. by_rules d (circuit_at t) (circuits t) e w)
    (λ r i f. sym (ap (λ (v : Verdict). (check_by true v).detail) f) ∙ sym (ap (λ (b : Bool). (check_by b (verdict records t)).detail) l) ∙ by_fault d r))
    (λ w. refl)
