-- Every answer's number is below 64.
use Prim.Native.Nat.{ℕ, ◌<◌}
use mathlib.Core.Bool.{Bool, true, false, cond, ◌||◌}
use mathlib.Core.List.{List}
use native.Mathlib.Omega.{arith}
use Rattle.rules.specs.declared.circuit.Circuit.{Circuit}
use Rattle.rules.specs.declared.event.Event.{Event}
use Rattle.rules.specs.declared.outcome.Act.TheVariants.{Seize, Reserve, Release, Cancel, Unmark, Answered}
use Rattle.rules.specs.Outcome.{Outcome}
use Rattle.std.specs.Prelude.{Ok, Err}
use Rattle.rules.specs.declared.outcome.Deed.TheVariants.{Do, Clock}
use Rattle.rules.specs.Answer.{anothers, answer_of}
use Rattle.rules.specs.Layout.{Layout}
use Rattle.rules.specs.Run.{outcome_of, answered}
use Rattle.rules.proofs.Numbers.{refusal_below}

either_below : (b : Bool) (j k : ℕ) → j < 64 → k < 64 → cond b j k < 64
either_below true j k p q = p
either_below false j k p q = q

module _ (x : ℕ → Circuit) (n : ℕ) (e : Event) where
  outcome_below : (o : Outcome) → (answer_of x n e o).number < 64
  unfolding answer_of
  outcome_below (Err r) = refusal_below r
  outcome_below (Ok (Do Seize i)) = either_below ((x i).holder.present || (anothers e.reference (x i).reservation).present) 2 1 (omega arith) (omega arith)
  outcome_below (Ok (Do Reserve i)) = either_below (x i).reservation.present 4 3 (omega arith) (omega arith)
  outcome_below (Ok (Do Release i)) = omega arith
  outcome_below (Ok (Do Cancel i)) = omega arith
  outcome_below (Ok (Do Unmark i)) = omega arith
  outcome_below (Ok (Do Answered i)) = omega arith
  outcome_below (Ok Clock) = omega arith

pub number_below : {S : Type 0} (L : Layout S) (s : S) (e : List ℕ) → (answered L s e).number < 64
unfolding answered
number_below L s e = outcome_below (L.view s) (L.count s) (L.event e) (outcome_of L s (L.event e))
