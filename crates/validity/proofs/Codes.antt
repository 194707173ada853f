-- A code says what its verdict says.
use Prim.Native.Nat.{ℕ, ◌/◌, ◌%◌}
use mathlib.Core.Path.{◌≡◌, refl, sym, ap, ap₂, ◌∙◌}
use mathlib.Core.Logic.{◌≢◌}
use native.Mathlib.Omega.{arith}
use Rattle.octets.proofs.Tests.{if_ne}
use Rattle.rules.specs.declared.verdict.Reason.{Reason}
use Rattle.rules.specs.declared.verdict.Reason.TheVariants.{FlagOrLevel, DigitOrPointCode, NotZero, NotAbove, Repeated}
use Rattle.rules.specs.Verdict.{Verdict, fault}
use Rattle.std.specs.Prelude.{Ok, Err}
use Rattle.rules.proofs.Numbers.{reason-within}
use Rattle.validity.specs.Code.{reason_digit, code_of, reason_of, verdict_of}

-- the last digit of a reason's number gives the reason back
reason_back : (r : Reason) → reason_of (reason_digit r) ≡ r
unfolding reason_of
reason_back FlagOrLevel = refl
reason_back DigitOrPointCode = refl
reason_back NotZero = refl
reason_back NotAbove = refl
reason_back Repeated = refl

-- the code of a fault is not 0; its last digit of eight is the reason's, and the others are the record
module _ (r : Reason) (i : ℕ) where
  abbrev its : ℕ
  its = code_of (fault r i)

  parts : (its ≢ 0) × (its % 8 ≡ reason_digit r) × (its / 8 ≡ i)
  unfolding code_of
  parts = let w = reason-within r in ((λ e. omega arith), omega arith, omega arith)

-- a code gives its verdict back
verdict_back : (v : Verdict) → verdict_of (code_of v) ≡ v
unfolding code_of
verdict_back (Ok u) = refl
verdict_back (Err flaw) =
    let p = parts flaw.reason flaw.at in
    sym (if_ne _ _ (its flaw.reason flaw.at) 0 p.0 (ap₂ fault (sym (reason_back flaw.reason) ∙ ap reason_of (sym p.1)) (sym p.2)))

pub decoded-back : {k : ℕ} {v w : Verdict} → k ≡ code_of w → v ≡ verdict_of k → v ≡ w
decoded-back {w = w} e q = q ∙ ap verdict_of e ∙ verdict_back w
