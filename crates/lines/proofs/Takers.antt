-- The rows of the first takers.
use Rattle.std.specs.Prelude.{ℕ, zero, suc, List, [], ◌∷◌, ◌++◌, get_or}
use Rattle.lines.specs.Text.{letters}
use Rattle.lines.specs.Figures.{row}

abbrev pub takers : List (List ℕ)
takers = letters "FLASH_OVERRIDE" ∷ letters "FLASH" ∷ letters "IMMEDIATE" ∷ letters "PRIORITY" ∷ letters "ROUTINE" ∷ []

abbrev pub rows_to : List ℕ → ℕ → List ℕ
rows_to f zero = []
rows_to f (suc k) = rows_to f k ++ row f k (get_or takers k [])
