-- The answer to an act hangs on its circuit alone.
use Prim.Native.Nat.{ℕ}
use mathlib.Core.Path.{◌≡◌, refl}
use Rattle.rules.specs.declared.circuit.Circuit.{Circuit}
use Rattle.rules.specs.declared.event.Event.{Event}
use Rattle.rules.specs.declared.outcome.Act.{Act}
use Rattle.rules.specs.declared.outcome.Act.TheVariants.{Seize, Reserve, Release, Cancel, Unmark, Answered}
use Rattle.rules.specs.Outcome.{does}
use Rattle.rules.specs.Answer.{answer_of}

module _ (x : ℕ → Circuit) (n : ℕ) (e : Event) where
  pub alone : (a : Act) (i : ℕ) → answer_of x n e (does a i) ≡ answer_of (λ _. x i) 0 e (does a i)
  unfolding answer_of
  alone Seize i = refl
  alone Reserve i = refl
  alone Release i = refl
  alone Cancel i = refl
  alone Unmark i = refl
  alone Answered i = refl
