-- This is a table as it is read from its file.
use Rattle.std.specs.Prelude.{ℕ, ◌≤◌, ◌≡◌, ◌⊎◌, List, length, take}
use Rattle.rules.specs.Numbers.{done}
use Rattle.rules.specs.Records.{check_number}

-- the first n octets of a buffer are a table that the check takes, or n is 0 and there is none
pub record Checked (buffer : List ℕ) (n : ℕ) : Type 0 where
  pub within : n ≤ length buffer
  pub valid : (n ≡ 0) ⊎ (check_number (take n buffer) ≡ done)
