-- The numbers of refusals stand apart from those of what is accepted, and none is 21: each is above it. Each is below 64. Those of
-- the reasons stand together.
use Rattle.std.proofs.Common.{◌<◌, ◌≤◌, arith}
use Rattle.rules.specs.declared.verdict.Reason.{Reason}
use Rattle.rules.specs.declared.verdict.Reason.TheVariants.{FlagOrLevel, DigitOrPointCode, NotZero, NotAbove, Repeated}
use Rattle.rules.specs.declared.outcome.Refusal.{Refusal}
use Rattle.rules.specs.declared.outcome.Refusal.TheVariants.{Malformed, BadRecord, NotAllowed, ByRoutine, AlreadyThere, MarkDiffers, NotThere, NoCircuitForRoutine, NoCircuit, NoCircuitToReserve}
use Rattle.rules.specs.Numbers.{reason_number, refusal_number}

pub reason-within : (r : Reason) → (41 ≤ reason_number r) × (reason_number r ≤ 45)
reason-within FlagOrLevel = omega arith
reason-within DigitOrPointCode = omega arith
reason-within NotZero = omega arith
reason-within NotAbove = omega arith
reason-within Repeated = omega arith

refusal_within : (r : Refusal) → (21 < refusal_number r) × (refusal_number r < 64)
refusal_within Malformed = omega arith
refusal_within (BadRecord r i) = let w = reason-within r in omega arith
refusal_within NotAllowed = omega arith
refusal_within ByRoutine = omega arith
refusal_within AlreadyThere = omega arith
refusal_within MarkDiffers = omega arith
refusal_within NotThere = omega arith
refusal_within NoCircuitForRoutine = omega arith
refusal_within NoCircuit = omega arith
refusal_within NoCircuitToReserve = omega arith

pub refusal_high : (r : Refusal) → 21 < refusal_number r
refusal_high r = (refusal_within r).0

pub refusal_below : (r : Refusal) → refusal_number r < 64
refusal_below r = (refusal_within r).1
