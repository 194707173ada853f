-- This is 01, "Lamp map": the lowest lit lamp, if there is one, is the circuit that a search takes; and 02, L2, of the lamp map.
use Rattle.std.specs.Prelude.{ℕ, ◌<◌, ◌≡◌, false, List, Some, None}
use Rattle.rules.specs.declared.mark.Mark.{Mark}
use Rattle.rules.specs.Circuit.{free}
use Rattle.rules.specs.Choice.{choice}
use Rattle.rules.specs.Records.{circuit_at, circuits, checked}
use Rattle.rules.specs.Numbers.{done}
use Rattle.lamps.specs.Lamps.{lowest_in, lamp_map}

-- the lowest lit lamp is the circuit that a search takes, whatever the mark of the call that searches
abbrev pub LowestTaken : Type 0
LowestTaken =
    (t : List ℕ) (m : Mark) (i : ℕ) → (lamp_map t).number ≡ done → lowest_in (lamp_map t).words ≡ Some i → choice (circuit_at t) (circuits t) m ≡ Some i

-- where no lamp is lit, no circuit is free
abbrev pub NoneLit : Type 0
NoneLit =
    (t : List ℕ) → (lamp_map t).number ≡ done → lowest_in (lamp_map t).words ≡ None → (i : ℕ) → i < circuits t → free (circuit_at t i) ≡ false

-- "Everything that passes 21 on now passes reason and record on": number and record are those that the check gives, so never 21
abbrev pub PassedOn : Type 0
PassedOn = (t : List ℕ) → ((lamp_map t).number ≡ (checked t).number) × ((lamp_map t).detail ≡ (checked t).detail)
