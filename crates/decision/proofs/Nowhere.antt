-- Whether a call stands anywhere, by the parts in their order, and what is decided of its set-up.
use Prim.Native.Nat.{ℕ, ◌+◌, ◌*◌, ◌/◌, ◌%◌, ◌<◌}
use mathlib.Core.Path.{◌≡◌, refl, sym, ap, ◌∙◌}
use mathlib.Core.Bool.{Bool, true, false, not, true≢false}
use mathlib.Core.List.{List}
use native.Mathlib.Omega.{arith}
use lib.Dec.{eqb}
use Rattle.octets.proofs.Tests.{by_test}
use Rattle.rules.specs.declared.part.Part.{Part}
use Rattle.rules.specs.declared.circuit.Circuit.{Circuit}
use Rattle.rules.specs.declared.event.Event.{Event}
use Rattle.std.specs.Prelude.{Option, Some, None, Err}
use Rattle.rules.specs.declared.outcome.Act.TheVariants.{Seize}
use Rattle.rules.specs.declared.outcome.Refusal.TheVariants.{AlreadyThere}
use Rattle.rules.specs.Search.{found}
use Rattle.rules.specs.Circuit.{is_of}
use Rattle.rules.specs.Choice.{held_by, reserved_by}
use Rattle.rules.specs.Decision.{blocked, chosen, set_up, stands_nowhere}
use Rattle.rules.specs.Valid.{part_numbered}
use Rattle.rules.proofs.Numbered.{even, odd}
use Rattle.rules.proofs.Searches.{by_first, nothing-found, some-found}
use Rattle.references.specs.Filter.{stands_to}

-- ---- a call stands nowhere if it stands in none of the parts of n circuits
module _ (x : ℕ → Circuit) (n : ℕ) (r : List ℕ) where
  stands : (k : ℕ) {p : Part} → k < 2 * n → part_numbered x k ≡ p → is_of r p ≡ true → false ≡ not (stands_to x r (2 * n))
  unfolding stands_to
  stands k l e h = sym (ap not (some-found (λ j. is_of r (part_numbered x j)) (2 * n) k l (ap (is_of r) e ∙ h)))

  none : ((i : ℕ) → i < n → is_of r (x i).holder ≡ false) → ((i : ℕ) → i < n → is_of r (x i).reservation ≡ false) → true ≡ not (stands_to x r (2 * n))
  unfolding stands_to
  none h g =
      sym
      (ap not (nothing-found (λ j. is_of r (part_numbered x j)) (2 * n) (λ j. true) false
      (λ k l. by_test (λ (p : Part). is_of r p ≡ false) (eqb (k % 2) 0) _ _ (λ t. h (k / 2) (omega arith)) (λ t. g (k / 2) (omega arith)))))

  pub nowhere : stands_nowhere x n r ≡ not (stands_to x r (2 * n))
  unfolding held_by reserved_by
  nowhere =
      by_first Is (λ i. is_of r (x i).holder) n (λ i. false) _
      (λ i l. stands (2 * i) (omega arith) (even (λ j. (x j).holder) (λ j. (x j).reservation) i))
      (λ h. by_first Is (λ i. is_of r (x i).reservation) n (λ i. false) true (λ i l. stands (2 * i + 1) (omega arith) (odd (λ j. (x j).holder) (λ j. (x j).reservation) i)) (none h))
    where
      Is : Bool → Type 0
      Is b = b ≡ not (stands_to x r (2 * n))

-- ---- of two searches, as for a holder and for a reservation
module _ {A : Type 0} where
  both_nothing : (f g : Option ℕ) (y z : ℕ → A) (w : A) → found f (λ i. false) (found g (λ i. false) true) ≡ true → w ≡ found f y (found g z w)
  both_nothing (Some i) g y z w h = absurd (true≢false (sym h))
  both_nothing None (Some i) y z w h = absurd (true≢false (sym h))
  both_nothing None None y z w h = refl

  first_found : (f g : Option ℕ) (y z : A) → found f (λ i. false) (found g (λ i. false) true) ≡ false → g ≡ None → y ≡ found f (λ i. y) z
  first_found (Some i) g y z h e = refl
  first_found None g y z h e = absurd (true≢false (sym (ap (λ (q : Option ℕ). found q (λ i. false) true) e) ∙ h))

-- ---- a set-up by a call that stands nowhere, and by one that stands somewhere and has reserved nothing
module _ (x : ℕ → Circuit) (n : ℕ) (e : Event) where
  pub choice_made : stands_nowhere x n e.reference ≡ true → set_up x n e ≡ chosen x n e Seize (blocked e)
  unfolding set_up
  choice_made h = sym (both_nothing (held_by x n e.reference) (reserved_by x n e.reference) _ _ _ h)

  pub holder_refused : stands_nowhere x n e.reference ≡ false → reserved_by x n e.reference ≡ None → set_up x n e ≡ Err AlreadyThere
  unfolding set_up
  holder_refused h none = sym (first_found (held_by x n e.reference) (reserved_by x n e.reference) _ _ h none)
