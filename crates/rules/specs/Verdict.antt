-- A verdict is what the check of a table finds: nothing, or the first fault, by its reason and its record (02, L2).
use Rattle.std.specs.Prelude.{ℕ, Result, Ok, Err}
use Rattle.rules.specs.declared.verdict.Reason.{Reason}
use Rattle.rules.specs.declared.verdict.Fault.{Fault}

abbrev pub Verdict : Type 0
Verdict = Result Unit Fault

abbrev pub fault : Reason → ℕ → Verdict  -- a fault of record i, for reason r
fault r i = Err (record { reason = r; at = i })

abbrev pub no_fault : Verdict  -- the table is valid
no_fault = Ok tt
