-- The verdict on the records is that on the first that has a fault.
use Prim.Native.Nat.{ℕ, zero, suc, ◌<◌}
use mathlib.Core.Path.{◌≡◌, sym, ap, ◌∙◌, subst}
use mathlib.Core.List.{List}
use native.Mathlib.Decide.{dec_lt}
use native.Mathlib.Omega.{arith}
use Rattle.std.specs.Prelude.{Err}
use Rattle.rules.specs.declared.verdict.Fault.{Fault}
use Rattle.rules.specs.Verdict.{Verdict, no_fault}
use Rattle.rules.specs.Valid.{or_fault, record_verdict, records_to}
use Rattle.rules.specs.Records.{records}

module _ (t : List ℕ) (i : ℕ) (sound : records_to records t i ≡ no_fault) where
  -- record i has this one
  module _ (flaw : Fault) (e : Err flaw ≡ record_verdict records t i) where
    first-there : (n : ℕ) → i < n → Err flaw ≡ records_to records t n
    first-there zero l = absurd (omega arith)
    first-there (suc n) l =
        elim (dec_lt i n) [
          | yes a ↦ ap (λ (v : Verdict). or_fault v (record_verdict records t n)) (first-there n a)
          | no a ↦
              let here : i ≡ n = omega arith in
              subst (λ (n : ℕ). Err flaw ≡ or_fault (records_to records t n) (record_verdict records t n)) here
              (e ∙ sym (ap (λ (v : Verdict). or_fault v (record_verdict records t i)) sound))
        ]

    pub first-fault : {n m : ℕ} → i < n → n ≡ m → Err flaw ≡ records_to records t m
    first-fault {m = m} l s = first-there m (omega arith)
