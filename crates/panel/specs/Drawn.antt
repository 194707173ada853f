-- The panel of a table is its lamp map, drawn.
use Rattle.std.specs.Prelude.{ℕ, ◌+◌, ◌*◌, ◌<◌, ◌≡◌, true, List, get_or, Some}
use Rattle.rules.specs.declared.mark.Mark.{Mark}
use Rattle.rules.specs.Circuit.{free}
use Rattle.rules.specs.Choice.{choice}
use Rattle.rules.specs.Records.{circuit_at, circuits, check_number}
use Rattle.rules.specs.Numbers.{done}
use Rattle.lamps.specs.Lamps.{lit_at, lowest_in, lamp_map}
use Rattle.lines.specs.Panel.{lamp, drawing}

unfoldable pub panel : List ℕ → List ℕ
panel t = drawing (lamp_map t).words (lamp_map t).lit (lowest_in (lamp_map t).words)

-- in row j and column i stands `*` where circuit 64 × j + i is free, and `.` where it is not or the table has no such circuit; a row has
-- 65 letters, its end being one
abbrev pub FreeShown : Type 0
FreeShown =
    (t : List ℕ) → check_number t ≡ done → (j i : ℕ) → j < 4 → i < 64 → get_or (panel t) (65 * j + i) 0 ≡ get_or (lamp (lit_at t (64 * j + i))) 0 0

-- after "first" stands the free circuit that a search takes, whatever the mark of the call that searches
abbrev pub FirstTaken : Type 0
FirstTaken =
    (t : List ℕ) (m : Mark) (i : ℕ) → check_number t ≡ done → i < circuits t → free (circuit_at t i) ≡ true → choice (circuit_at t) (circuits t) m ≡ Some i
    → panel t ≡ drawing (lamp_map t).words (lamp_map t).lit (Some i)
