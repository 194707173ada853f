-- A glance at a circuit tells whether it is free, or better than those before.
use Rattle.std.specs.Prelude.{ℕ, Bool, cond, nat_lt}
use Rattle.choice.specs.declared.Glance.{Glance}
use Rattle.choice.specs.declared.Glance.TheVariants.{Free, Better, NoBetter}

abbrev pub above : ℕ → ℕ → Glance  -- a circuit of rank k is better if that is above the greatest so far
above top k = cond (nat_lt top k) (Better k) NoBetter

abbrev pub glanced : ℕ → Bool → ℕ → Glance  -- what a glance tells of a circuit of rank k, which is free or not
glanced top is_free k = cond is_free Free (above top k)
