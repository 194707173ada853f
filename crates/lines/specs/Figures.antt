-- This is 02, L1, "The day's figures": the lines of the totals, as the program writes them.
use Rattle.std.specs.Prelude.{ℕ, zero, suc, cond, List, [], ◌++◌, get_or, eqb}
use Rattle.tally.specs.Places as place
use Rattle.lines.specs.Text.{letters, decimal, field}

abbrev pub counted : List ℕ → ℕ → List ℕ  -- the line of a sum: a word and its number
counted word n = word ++ decimal n ++ letters "\n"

-- holders at the start, what was seized, released and lost, and holders at the end; the program counts the holders of the tables itself
unfoldable pub sums : ℕ → ℕ → List ℕ → List ℕ
sums start end f =
    counted (letters "start ") start
    ++ counted (letters "seized ") (get_or f place.seized 0)
    ++ counted (letters "released ") (get_or f place.released 0)
    ++ counted (letters "lost ") (get_or f place.lost 0)
    ++ counted (letters "end ") end

-- the line of answer number k, which n events got; there is none where no event did
unfoldable pub answer : ℕ → ℕ → List ℕ
answer k n = cond (eqb n 0) [] (letters "answer" ++ field (decimal k) ++ field (decimal n) ++ letters "\n")

abbrev pub answers_to : List ℕ → ℕ → List ℕ  -- the lines of the answer numbers below k, in rising order
answers_to f zero = []
answers_to f (suc k) = answers_to f k ++ answer k (get_or f (place.answered k) 0)

abbrev pub head : List ℕ  -- the line above the rows: a column for each level of the loser
head = letters "taker FLASH_OVERRIDE FLASH IMMEDIATE PRIORITY ROUTINE\n"

abbrev pub cells_to : List ℕ → ℕ → ℕ → List ℕ  -- the first k cells of a taker's row: how many holders of each level it took circuits from
cells_to f taker zero = []
cells_to f taker (suc k) = cells_to f taker k ++ field (decimal (get_or f (place.lost_by_level taker k) 0))

unfoldable pub row : List ℕ → ℕ → List ℕ → List ℕ  -- the row of a taker's level, after its name
row f taker name = name ++ cells_to f taker 5 ++ letters "\n"

unfoldable pub rows : List ℕ → List ℕ  -- a row for each level of the taker
rows f =
    row f 0 (letters "FLASH_OVERRIDE")
    ++ row f 1 (letters "FLASH")
    ++ row f 2 (letters "IMMEDIATE")
    ++ row f 3 (letters "PRIORITY")
    ++ row f 4 (letters "ROUTINE")

-- the whole text of the totals f, where the tables had so many holders at their start and so many at their end
unfoldable pub figures_text : ℕ → ℕ → List ℕ → List ℕ
figures_text start end f = sums start end f ++ answers_to f 64 ++ head ++ rows f

-- no text of totals is longer than this: five sums, 64 answers, the line above the rows and five rows, each number of at most 20 digits
abbrev pub most_letters : ℕ
most_letters = 4200

abbrev pub too_many : List ℕ  -- the last line where a list was refused by 60
too_many = letters "60\n"
