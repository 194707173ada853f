-- What an entry gives is settled by its number, and for an event by whether it was refused.
use Prim.Native.Nat.{ℕ}
use mathlib.Core.Path.{◌≡◌, refl, sym, ap}
use mathlib.Core.Bool.{true≢false}
use native.Mathlib.Omega.{arith}
use Rattle.std.specs.Prelude.{Result, Ok, Err, is_ok}
use Rattle.route.specs.declared.WrongLength.{WrongLength}
use Rattle.route.specs.Entries.{event_number_of, list_number_of}

pub one-event : (x y : Result ℕ WrongLength) → event_number_of x ≡ event_number_of y → is_ok x ≡ is_ok y → x ≡ y
one-event (Ok n) (Ok m) p q = ap Ok p
one-event (Ok n) (Err r) p q = absurd (true≢false q)
one-event (Err r) (Ok m) p q = absurd (true≢false (sym q))
one-event (Err r) (Err s) p q = refl

pub one-list : (x y : Result Unit WrongLength) → list_number_of x ≡ list_number_of y → x ≡ y
one-list (Ok u) (Ok v) p = refl
one-list (Ok u) (Err r) p = absurd (omega arith)
one-list (Err r) (Ok u) p = absurd (omega arith)
one-list (Err r) (Err s) p = refl
