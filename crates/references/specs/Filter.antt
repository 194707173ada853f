-- A filter of references has three bits of one of 32 words for each. A pass over a table notes only the references whose stems lie in its
-- range, so that few stand in the filter at a time.
use Rattle.std.specs.Prelude.{ℕ, ◌+◌, ◌*◌, ◌/◌, ◌%◌, ◌<◌, ◌^◌, ◌≡◌, Bool, true, false, ◌&&◌, List, length, get_or, eqb, leb, ltb}
use Rattle.std.specs.Int.Bits.{bit_or}
use Rattle.octets.specs.Span.{number}
use Rattle.rules.specs.declared.circuit.Circuit.{Circuit}
use Rattle.rules.specs.Circuit.{is_of}
use Rattle.rules.specs.Search.{first_to, found}
use Rattle.rules.specs.Valid.{part_numbered, repeated}

abbrev pub stems : ℕ  -- the stems of references lie below this
stems = 4294967296

-- the stem of a reference: its first four octets as a number, spread over 32 bits
unfoldable pub stem : List ℕ → ℕ
stem r = number r 0 4 * 1540483477 % stems

-- the number that a reference is noted by
unfoldable pub spread : List ℕ → ℕ
spread r = stem r * 695872825 + 739982445 * get_or r 4 0

abbrev pub word_of : ℕ → ℕ  -- which of the 32 words a reference noted by v has
word_of v = v / 4294967296 % 32

abbrev pub single : ℕ → ℕ  -- the word in which bit b alone is set
single b = 1 * 2 ^ b % 18446744073709551616

abbrev pub bits_in : ℕ → ℕ  -- the three bits of its word that a reference noted by v has
bits_in v = bit_or (bit_or (single (v / 16384 % 64)) (single (v / 1048576 % 64))) (single (v / 67108864 % 64))

abbrev pub word_for : List ℕ → List ℕ → ℕ  -- the word of reference r in filter w
word_for w r = get_or w (word_of (spread r)) 0

-- the bits of reference r are set in filter w
abbrev pub already : List ℕ → List ℕ → Bool
already w r = eqb (bit_or (word_for w r) (bits_in (spread r))) (word_for w r)

abbrev pub in_range : ℕ → ℕ → List ℕ → Bool  -- the stem of reference r is `from` or more, and below `to`
in_range from to r = leb from (stem r) && ltb (stem r) to

-- bits that were set stay set, and if reference r is noted, its own are set
pub record Grown (w v r : List ℕ) (noted : Bool) : Type 0 where
  pub long : length v ≡ length w
  pub kept : (s : List ℕ) → already w s ≡ true → already v s ≡ true
  pub here : noted ≡ true → already v r ≡ true

-- each part before part j that is present and in range has the bits of its reference set
pub record Seen (x : ℕ → Circuit) (from to : ℕ) (w : List ℕ) (j : ℕ) : Type 0 where
  pub full : length w ≡ 32
  pub set : (k : ℕ) → k < j → (part_numbered x k).present ≡ true → in_range from to (part_numbered x k).reference ≡ true
      → already w (part_numbered x k).reference ≡ true

-- part k has a reference in range that stands in an earlier part
abbrev pub repeated_in : ℕ → ℕ → (ℕ → Circuit) → ℕ → Bool
repeated_in from to x k = in_range from to (part_numbered x k).reference && repeated x k

-- the call with reference r stands in one of the first n parts
unfoldable pub stands_to : (ℕ → Circuit) → List ℕ → ℕ → Bool
stands_to x r n = found (first_to (λ k. is_of r (part_numbered x k)) n) (λ k. true) false
