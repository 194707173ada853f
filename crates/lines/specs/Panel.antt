-- The lamp map on a terminal is four rows of 64 lamps, then the number lit and the first lamp lit.
use Rattle.std.specs.Prelude.{ℕ, zero, suc, Bool, cond, List, [], ◌++◌, get_or, Option, Some, None}
use Rattle.octets.specs.Bit.{bit}
use Rattle.lines.specs.Text.{letters, decimal}

abbrev pub lamp : Bool → List ℕ  -- a lamp is `*` where it is lit and `.` where it is dark
lamp on = cond on (letters "*") (letters ".")

abbrev pub lamps_to : ℕ → ℕ → List ℕ  -- the first i lamps of a word, that of bit 0 first
lamps_to w zero = []
lamps_to w (suc i) = lamps_to w i ++ lamp (bit w i)

unfoldable pub row : ℕ → List ℕ
row w = lamps_to w 64 ++ letters "\n"

abbrev pub rows_to : List ℕ → ℕ → List ℕ  -- the rows of the first j words
rows_to words zero = []
rows_to words (suc j) = rows_to words j ++ row (get_or words j 0)

abbrev pub first_lit : Option ℕ → List ℕ  -- the number of the first lamp lit, where one is
first_lit (Some i) = letters ", first " ++ decimal i
first_lit None = []

unfoldable pub last_line : ℕ → Option ℕ → List ℕ  -- the line under the rows: the number lit, and the first lamp lit
last_line lit first = letters "lit " ++ decimal lit ++ first_lit first ++ letters "\n"

unfoldable pub drawing : List ℕ → ℕ → Option ℕ → List ℕ  -- the lamp map drawn by its four words, the number lit and the first lamp lit
drawing words lit first = rows_to words 4 ++ last_line lit first

-- a drawing is never longer than this: four rows of 65 letters, two numbers of at most 20 digits, their words and the end of the line
abbrev pub most_letters : ℕ
most_letters = 313
