-- A sweep that has come to circuit i has not touched it, so it finds there what stood there at first.
use Prim.Native.Nat.{ℕ, zero, suc, ◌+◌, ◌≤◌}
use mathlib.Core.Path.{◌≡◌, refl, sym, ap, ◌∙◌}
use mathlib.Core.Bool.{cond}
use mathlib.Core.List.{List}
use native.Mathlib.Numerals.{add-one}
use native.Mathlib.Omega.{arith}
use Rattle.octets.proofs.Tests.{by_test}
use Rattle.rules.specs.declared.circuit.Circuit.{Circuit}
use Rattle.rules.specs.declared.event.Event.{Event}
use Rattle.rules.specs.declared.outcome.Act.TheVariants.{Cancel}
use Rattle.rules.specs.Circuit.{overdue, made}
use Rattle.rules.specs.Run.{sweep_to}
use Rattle.rules.specs.Records.{circuit_at, put_circuit, records, circuits}
use Rattle.rules.proofs.Records.{count-put, circuit_off}

module _ (t : List ℕ) (e : Event) where
  pub swept_count : (m : ℕ) → circuits (sweep_to records t e m) ≡ circuits t
  unfolding records
  swept_count zero = refl
  swept_count (suc m) =
      by_test (λ (u : List ℕ). circuits u ≡ circuits t) (overdue e.clock (circuit_at t m)) _ (sweep_to records t e m)
      (λ _. count-put (sweep_to records t e m) m (made e Cancel (circuit_at t m)) ∙ swept_count m)
      (λ _. swept_count m)

  swept_ahead : (m i : ℕ) → m ≤ i → circuit_at (sweep_to records t e m) i ≡ circuit_at t i
  unfolding records
  swept_ahead zero i l = refl
  swept_ahead (suc m) i l =
      let before = swept_ahead m i (omega arith) in
      by_test (λ (u : List ℕ). circuit_at u i ≡ circuit_at t i) (overdue e.clock (circuit_at t m)) _ (sweep_to records t e m)
      (λ _. circuit_off (sweep_to records t e m) m (made e Cancel (circuit_at t m)) i (λ q. omega arith) ∙ before)
      (λ _. before)

  -- one turn: what is done by what stands there now is done by what stood there at first
  pub swept_on : (i : ℕ) {u v : List ℕ} → u ≡ sweep_to records t e i → v ≡ cond (overdue e.clock (circuit_at u i)) (put_circuit u i (made e Cancel (circuit_at u i))) u → v ≡ sweep_to records t e (i + 1)
  unfolding records
  swept_on i p q =
      q
      ∙ ap (λ (u : List ℕ). cond (overdue e.clock (circuit_at u i)) (put_circuit u i (made e Cancel (circuit_at u i))) u) p
      ∙ ap (λ (c : Circuit). cond (overdue e.clock c) (put_circuit (sweep_to records t e i) i (made e Cancel c)) (sweep_to records t e i)) (swept_ahead i i (omega arith))
      ∙ ap (sweep_to records t e) (sym (add-one i))
