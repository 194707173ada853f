-- The records that the loop has passed have no fault.
use Rattle.std.proofs.Common.{◌≡◌}
use Rattle.rules.specs.Verdict.{no_fault}
use Rattle.rules.specs.Valid.{records_to}
use Rattle.rules.specs.Records.{records}
use Rattle.validity.proofs.each_record.Given as goal

abbrev pub invariant-loop-number : goal.invariant-loop-number
invariant-loop-number l = records_to records l.t l.number ≡ no_fault
