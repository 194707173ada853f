-- The code of a verdict is one number for its reason and its record.
use Rattle.std.specs.Prelude.{ℕ, ◌+◌, ◌-◌, ◌*◌, ◌/◌, ◌%◌, cond, eqb, Ok, Err}
use Rattle.rules.specs.declared.verdict.Reason.{Reason}
use Rattle.rules.specs.declared.verdict.Reason.TheVariants.{FlagOrLevel, DigitOrPointCode, NotZero, NotAbove, Repeated}
use Rattle.rules.specs.Verdict.{Verdict, fault, no_fault}
use Rattle.rules.specs.Numbers.{reason_number}

abbrev pub reason_digit : Reason → ℕ  -- the last digit of a reason's number
reason_digit r = reason_number r - 40

unfoldable pub code_of : Verdict → ℕ  -- 0 for a valid table, else 8 times the record and the digit of the reason
code_of (Ok u) = 0
code_of (Err flaw) = 8 * flaw.at + reason_digit flaw.reason

unfoldable pub reason_of : ℕ → Reason  -- the reason whose number has this last digit
reason_of d =
    cond (eqb d 1) FlagOrLevel
    (cond (eqb d 2) DigitOrPointCode (cond (eqb d 3) NotZero (cond (eqb d 4) NotAbove Repeated)))

abbrev pub verdict_of : ℕ → Verdict  -- the verdict whose code this is
verdict_of k = cond (eqb k 0) no_fault (fault (reason_of (k % 8)) (k / 8))
