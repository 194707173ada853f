-- The version of the library, by which a host compares its header with its archive, is one number that grows.
use Rattle.std.specs.Prelude.{ℕ, ◌+◌, ◌*◌}

abbrev pub major : ℕ  -- the major part grows where a host that ignores the change would be wrong
major = 3

abbrev pub minor : ℕ  -- the minor part grows with each other change that a host sees
minor = 0

abbrev pub patch : ℕ  -- the patch part grows with a change that no host sees
patch = 0

abbrev pub version : ℕ
version = 10000 * major + 100 * minor + patch
