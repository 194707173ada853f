-- What the entry gives is settled by its number.
use mathlib.Core.Path.{◌≡◌, refl}
use native.Mathlib.Omega.{arith}
use Rattle.std.specs.Prelude.{Result, Ok, Err}
use Rattle.tally.specs.declared.Refused.{Refused}
use Rattle.tally.specs.declared.Refused.TheVariants.{WrongLength, TooManyLists}
use Rattle.tally.specs.Entry.{number_of}

pub one-list : (x y : Result Unit Refused) → number_of x ≡ number_of y → x ≡ y
one-list (Ok u) (Ok v) p = refl
one-list (Ok u) (Err WrongLength) p = absurd (omega arith)
one-list (Ok u) (Err TooManyLists) p = absurd (omega arith)
one-list (Err WrongLength) (Ok u) p = absurd (omega arith)
one-list (Err TooManyLists) (Ok u) p = absurd (omega arith)
one-list (Err WrongLength) (Err WrongLength) p = refl
one-list (Err WrongLength) (Err TooManyLists) p = absurd (omega arith)
one-list (Err TooManyLists) (Err WrongLength) p = absurd (omega arith)
one-list (Err TooManyLists) (Err TooManyLists) p = refl
