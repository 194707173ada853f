-- A number has bits, the lowest being bit 0.
use Rattle.std.specs.Prelude.{ℕ, ◌/◌, ◌%◌, ◌^◌, Bool, eqb}

abbrev pub bit : ℕ → ℕ → Bool  -- bit i of a word is 1
bit w i = eqb (w / 2 ^ i % 2) 1
