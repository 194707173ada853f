-- What the check gives: what its number says of a table, and that its record is one of the table's.
use Rattle.std.proofs.Common.{◌≡◌, ℕ, ◌/◌, ◌%◌, ◌≤◌, Bool, true, false, cond, List, length, refl, ap, ap₂, arith, eqb-true, leb-true}
use Rattle.octets.proofs.Tests.{halves}
use Rattle.rules.specs.declared.verdict.Check.{Check}
use Rattle.rules.specs.declared.verdict.Reason.{Reason}
use Rattle.rules.specs.Verdict.{Verdict, fault, no_fault}
use Rattle.std.specs.Prelude.{Ok, Err}
use Rattle.rules.specs.Numbers.{done, wrong_length}
use Rattle.rules.specs.Answer.{no_detail}
use Rattle.rules.specs.Valid.{is_valid, check_of, verdict, valid}
use Rattle.rules.specs.Records.{circuits, circuit_size, most_circuits, table_length, records, checked, check_number}
use Rattle.rules.proofs.Numbers.{reason-within}
use Rattle.rules.proofs.Faults.{valid_is}
use Rattle.rules.proofs.FirstFault.{fault-there}

-- a right length is that of 1 to 256 whole circuits
pub length_facts : (n : ℕ) → table_length n ≡ true → (n % circuit_size ≡ 0) × (1 ≤ n / circuit_size) × (n / circuit_size ≤ most_circuits)
unfolding table_length
length_facts n h =
    let whole = halves h in
    let within = halves whole.1 in
    (eqb-true (n % circuit_size) 0 whole.0, leb-true 1 (n / circuit_size) within.0, leb-true (n / circuit_size) most_circuits within.1)

-- what the check gives, by whether the length is right, and by the verdict
abbrev pub check_by : Bool → Verdict → Check
check_by b v = cond b (check_of v) (record { number = wrong_length; detail = no_detail })

-- what holds at a wrong length, of a valid table, and of each first fault, holds of what the check gives
pub by_check : (P : Check → Type 0) (t : List ℕ) → (table_length (length t) ≡ false → P (check_by false no_fault)) → (table_length (length t) ≡ true → verdict records t ≡ no_fault → P (check_of no_fault)) → (table_length (length t) ≡ true → (r : Reason) (i : ℕ) → verdict records t ≡ fault r i → P (check_of (fault r i))) → P (checked t)
unfolding checked
by_check P t f g h = go (table_length (length t)) (verdict records t) refl refl
  where
    go : (b : Bool) (v : Verdict) → table_length (length t) ≡ b → verdict records t ≡ v → P (check_by b v)
    go true (Ok u) l e = g l e
    go true (Err flaw) l e = h l flaw.reason flaw.at e
    go false v l e = f l

-- a valid table of right length is one of which the check gives 0, and such a table alone
pub valid-done : (t : List ℕ) → table_length (length t) ≡ true → valid records t ≡ true → check_number t ≡ done
unfolding checked valid
valid-done t l v = ap₂ (λ (b : Bool) (w : Verdict). (check_by b w).number) l (valid_is (verdict records t) v)

pub check_done : (t : List ℕ) → check_number t ≡ done → (table_length (length t) ≡ true) × (valid records t ≡ true)
unfolding valid
check_done t =
    by_check (λ c. c.number ≡ done → (table_length (length t) ≡ true) × (valid records t ≡ true)) t (λ l h. absurd (omega arith)) (λ l v h. (l, ap is_valid v))
    (λ l r i v h. absurd (omega (arith, (reason-within r).0)))

-- where the check gives 0 it names no record
pub done-detail : (t : List ℕ) → check_number t ≡ done → (checked t).detail ≡ no_detail
done-detail t =
    by_check (λ c. c.number ≡ done → c.detail ≡ no_detail) t (λ l h. refl) (λ l v h. refl) (λ l r i v h. absurd (omega (arith, (reason-within r).0)))

pub check-most : (t : List ℕ) → check_number t ≡ done → circuits t ≤ most_circuits
check-most t h = (length_facts (length t) (check_done t h).0).2

-- the record of a fault has room in 16 bits
pub detail-fits : (t : List ℕ) → circuits t ≤ most_circuits → (check_of (verdict records t)).detail ≤ no_detail
unfolding records
detail-fits t most = go (verdict records t) refl
  where
    go : (v : Verdict) → verdict records t ≡ v → (check_of v).detail ≤ no_detail
    go (Ok u) e = omega arith
    go (Err flaw) e = let there = fault-there records t flaw.reason flaw.at e in omega arith
