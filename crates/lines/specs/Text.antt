-- Lines are made of letters and decimal numbers, as octets, and stand in a buffer.
use Rattle.std.specs.Prelude.{ℕ, zero, suc, ◌+◌, ◌-◌, ◌*◌, ◌/◌, ◌%◌, ◌^◌, ◌<◌, ◌≡◌, cond, List, [], ◌∷◌, ◌++◌, length, ltb}
use Prim.Native.Char.{code}
use Prim.Native.String.{String, [] as nothing, ◌∷◌ as ◌then◌}
use Rattle.octets.specs.Span.{put}

abbrev pub letters : String → List ℕ  -- the letters of a text, an octet each
letters nothing = []
letters (c then s) = code c ∷ letters s

abbrev pub digit : ℕ → List ℕ  -- the letter of digit d, which is below 10
digit d = (48 + d) ∷ []

-- n in decimal, whose first digit is not 0 unless n is; w digits are enough for it
unfoldable pub decimal_in : ℕ → ℕ → List ℕ
decimal_in zero n = []
decimal_in (suc w) n = cond (ltb n 10) (digit n) (decimal_in w (n / 10) ++ digit (n % 10))

abbrev pub decimal : ℕ → List ℕ  -- any number of 64 bits, in decimal
decimal n = decimal_in 20 n

abbrev pub field : List ℕ → List ℕ  -- a field stands after a space
field text = letters " " ++ text

-- what digits say that stand after those that said n
abbrev pub says : ℕ → List ℕ → ℕ
says n [] = n
says n (d ∷ ds) = says (10 * n + (d - 48)) ds

abbrev pub ReadBack : Type 0  -- a number that is written in decimal is read again
ReadBack = (n : ℕ) → n < 10 ^ 20 → says 0 (decimal n) ≡ n

-- the buffer is as it was but for the text from octet `at` on, and what does not fit is left out; r is the octet after the text
pub record Written (before : List ℕ) (at : ℕ) (text after : List ℕ) (r : ℕ) : Type 0 where
  pub content : after ≡ put before at text
  pub end : r ≡ at + length text
