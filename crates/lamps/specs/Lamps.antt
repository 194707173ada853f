-- This is 01, "Lamp map", with the record of 02, L2: four words of 64 lamps, lit where free, and the number lit.
use Rattle.std.specs.Prelude.{ℕ, zero, suc, ◌+◌, ◌*◌, ◌/◌, ◌%◌, Bool, cond, ◌&&◌, List, [], ◌∷◌, get_or, replicate, eqb, ltb, Option}
use Rattle.octets.specs.Bit.{bit}
use Rattle.rules.specs.declared.circuit.Circuit.{Circuit}
use Rattle.rules.specs.declared.verdict.Check.{Check}
use Rattle.rules.specs.Search.{count_to, first_to}
use Rattle.rules.specs.Circuit.{free}
use Rattle.rules.specs.Records.{circuit_at, checked, check_number, circuits}
use Rattle.rules.specs.Numbers.{done}
use Rattle.rules.specs.Answer.{no_detail}
use Rattle.lamps.specs.declared.Lamps.{Lamps}

-- lamp c of a route is lit where circuit c is free; lamps past the table's end are dark
unfoldable pub lit : (ℕ → Circuit) → ℕ → ℕ → Bool
lit x n c = ltb c n && free (x c)

abbrev pub lit_at : List ℕ → ℕ → Bool  -- lamp c of a table is lit
lit_at t = lit (circuit_at t) (circuits t)

-- the word of k lamps from lamp b on: lamp b is at bit 0, each next lamp at the next bit
unfoldable pub word_from : (ℕ → Bool) → ℕ → ℕ → ℕ
word_from f b zero = 0
word_from f b (suc k) = cond (f b) 1 0 + 2 * word_from f (suc b) k

abbrev pub word : (ℕ → Bool) → ℕ → ℕ  -- lamp 64 × j + i is at bit i of word j
word f j = word_from f (64 * j) 64

abbrev pub four_words : (ℕ → Bool) → List ℕ  -- four words of 64 lamps
four_words f = word f 0 ∷ word f 1 ∷ word f 2 ∷ word f 3 ∷ []

unfoldable pub lamp_in : List ℕ → ℕ → Bool  -- lamp c is lit, as four words show it
lamp_in ws c = bit (get_or ws (c / 64) 0) (c % 64)

unfoldable pub number_in : List ℕ → ℕ  -- the number lit, of the 256 lamps of four words
number_in ws = count_to (lamp_in ws) 256

unfoldable pub lowest_in : List ℕ → Option ℕ  -- the lowest lit lamp of four words, if there is one
lowest_in ws = first_to (lamp_in ws) 256

-- the lamps of n circuits x, and how many of the circuits are free
abbrev pub lit_route : (ℕ → Circuit) → ℕ → Lamps
lit_route x n = record { number = done; lit = count_to (λ i. free (x i)) n; detail = no_detail; words = four_words (lit x n) }

abbrev pub lit_map : List ℕ → Lamps  -- the lamps of a table's circuits
lit_map t = lit_route (circuit_at t) (circuits t)

-- where the check refuses the table, its number and its record are passed on, and all words, and the number lit, are zero
abbrev pub dark_map : Check → Lamps
dark_map refused = record { number = refused.number; lit = 0; detail = refused.detail; words = replicate 4 0 }

-- the words come back as values with the number that the check gives
unfoldable pub lamp_map : List ℕ → Lamps
lamp_map t = cond (eqb (check_number t) done) (lit_map t) (dark_map (checked t))
