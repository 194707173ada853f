-- This is 01, "Rules of choice", and 02, L4 and L7, in plain words and not through a search: x c is what the history shows of circuit c, of n circuits.
use Rattle.std.specs.Prelude.{ℕ, ◌<◌, ◌≤◌, ◌≡◌, ◌≢◌, true, false, List}
use Rattle.rules.specs.declared.mark.Mark.{Mark}
use Rattle.rules.specs.declared.circuit.Circuit.{Circuit}
use Rattle.rules.specs.Numbers.{done}
use Rattle.rules.specs.Circuit.{is_routine, standing}
use Rattle.rules.specs.Records.{circuit_at, check_number, circuits}

abbrev pub Free : Circuit → Type 0  -- a circuit is free if it has neither part
Free y = (y.holder.present ≡ false) × (y.reservation.present ≡ false)

-- circuit y stands under a strictly lower precedence than mark m in the same domain: its standing mark is the reservation's if there is
-- one, else the holder's, and the lower precedence has the greater level number; but a holder whose mark came off "stands there under no
-- precedence that a call could beat, also where the call's domain is zero", and a holder that rings "makes its circuit not takeable"
pub record Lower (m : Mark) (y : Circuit) : Type 0 where
  pub occupied : Free y → ⊥
  pub preemptable : y.holder.present ≡ true → y.holder.mark.level.0 ≤ 4
  pub answered : y.holder.present ≡ true → y.ringing ≡ false
  pub domain : (standing y).domain ≡ m.domain
  pub level : m.level.0 < (standing y).level.0

-- circuit i, which is y, is taken rather than circuit j, which is z
pub data Rather (i : ℕ) (y : Circuit) (j : ℕ) (z : Circuit) : Type 0 where
  -- the greatest level number is taken first
  lower-precedence : (standing z).level.0 < (standing y).level.0 → Rather i y j z
  -- at equal level one with no holder is taken before one with a holder
  no_holder : (standing y).level.0 ≡ (standing z).level.0 → y.holder.present ≡ false → z.holder.present ≡ true → Rather i y j z
  -- at equal level, both with a holder or both with none, the lowest number is taken
  lower-number : (standing y).level.0 ≡ (standing z).level.0 → y.holder.present ≡ z.holder.present → i < j → Rather i y j z

module _ (x : ℕ → Circuit) (n : ℕ) where
  abbrev pub NoneFree : Type 0
  NoneFree = (c : ℕ) → c < n → Free (x c) → ⊥

  abbrev pub NoneLower : Mark → Type 0
  NoneLower m = (c : ℕ) → c < n → Lower m (x c) → ⊥

  -- circuit i is the first free one
  pub record FirstFree (i : ℕ) : Type 0 where
    pub there : i < n
    pub free : Free (x i)
    pub first : (j : ℕ) → j < i → Free (x j) → ⊥

  -- no circuit is free, and circuit i is the one of lowest precedence, by 01's tie rule
  pub record Lowest (m : Mark) (i : ℕ) : Type 0 where
    pub there : i < n
    pub none_free : NoneFree
    pub lower : Lower m (x i)
    pub rather : (j : ℕ) → j < n → j ≢ i → Lower m (x j) → Rather i (x i) j (x j)

-- "So ROUTINE takes nothing", on any table that the check takes
abbrev pub RoutineTakesNothing : Type 0
RoutineTakesNothing =
    (t : List ℕ) → check_number t ≡ done → (m : Mark) → is_routine m.level ≡ true → NoneLower (circuit_at t) (circuits t) m
