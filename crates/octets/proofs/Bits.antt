-- The bits of any number: the lowest, and those of its half.
use Prim.Native.Nat.{ℕ, zero, suc, ◌/◌, ◌%◌, ◌^◌}
use mathlib.Core.Path.{◌≡◌, refl, sym, ap, ◌∙◌}
use mathlib.Core.Bool.{Bool, true, false, cond}
use native.Mathlib.Nat.{div-div-eq-div-mul, pow-succ'}
use native.Mathlib.Omega.{arith}
use lib.Dec.{eqb}
use borrow.Author.Tests.{eq-eqb, ne_eqb}
use Rattle.octets.specs.Bit.{bit}

pub bit_low : (w : ℕ) (b : Bool) → w % 2 ≡ cond b 1 0 → bit w 0 ≡ b
bit_low w true e = eq-eqb (w / 2 ^ 0 % 2) 1 (omega arith)
bit_low w false e = ne_eqb (w / 2 ^ 0 % 2) 1 (λ h. omega arith)

pub bit_up : (w i : ℕ) → bit w (suc i) ≡ bit (w / 2) i
bit_up w i = ap (λ (v : ℕ). eqb (v % 2) 1) (ap (λ (p : ℕ). w / p) (pow-succ' 2 i) ∙ sym (div-div-eq-div-mul w 2 (2 ^ i)))

pub bit-zero : (i : ℕ) → bit 0 i ≡ false
bit-zero zero = refl
bit-zero (suc i) = bit_up 0 i ∙ bit-zero i
