-- Where an act leaves one part of a circuit as it stands, writing the other part is writing the circuit.
use Prim.Native.Nat.{ℕ, ◌+◌, ◌*◌, ◌<◌}
use mathlib.Core.Path.{◌≡◌, refl, ap, ◌∙◌}
use mathlib.Core.Logic.{◌⊎◌, inl, inr}
use mathlib.Core.Bool.{true}
use mathlib.Core.List.{List, ◌++◌}
use lib.ListN.{get_or}
use Rattle.octets.specs.Number.{octets}
use Rattle.octets.specs.Span.{put}
use Rattle.rules.specs.declared.circuit.Circuit.{Circuit}
use Rattle.rules.specs.declared.event.Event.{Event}
use Rattle.rules.specs.declared.outcome.Act.{Act}
use Rattle.rules.specs.declared.outcome.Act.TheVariants.{Reserve, Release, Cancel, Answered}
use Rattle.rules.specs.Circuit.{made}
use Rattle.rules.specs.Records.{circuit_at, part_octets, state_octets, put_circuit, flags_at, blank_at}
use Rattle.rules.proofs.Records.{holder_alone, reservation_alone}

-- y is what was made, by act a, of circuit i, whose record is in order and was read as c
module _ (t : List ℕ) (i : ℕ) (e : Event) (octet : (k : ℕ) → get_or t k 0 < 256) (f : flags_at t i ≡ true) (b : blank_at t i ≡ true) (a : Act) {c y : Circuit} (read : c ≡ circuit_at t i) (is : y ≡ made e a c) where
  is_made : y ≡ made e a (circuit_at t i)
  is_made = is ∙ ap (made e a) read

  -- what two acts keep of a circuit, each of them keeps
  kept : {A : Type 0} (g : Circuit → A) {j k : Act} → g (made e j (circuit_at t i)) ≡ g (circuit_at t i) → g (made e k (circuit_at t i)) ≡ g (circuit_at t i) → (a ≡ j) ⊎ (a ≡ k) → g y ≡ g (circuit_at t i)
  kept g p q (inl h) = ap g is_made ∙ ap (λ (k : Act). g (made e k (circuit_at t i))) h ∙ p
  kept g p q (inr h) = ap g is_made ∙ ap (λ (k : Act). g (made e k (circuit_at t i))) h ∙ q

  pub holder_stays : (a ≡ Reserve) ⊎ (a ≡ Cancel) → {u : List ℕ} → u ≡ put t (32 * i + 12) (part_octets y.reservation ++ octets 4 y.clock) → u ≡ put_circuit t i (made e a (circuit_at t i))
  holder_stays h p =
      p ∙ reservation_alone t i octet f b y (kept (λ (k : Circuit). k.holder) refl refl h) (kept (λ (k : Circuit). k.ringing) refl refl h)
      ∙ ap (put_circuit t i) is_made

  pub reservation_stays : (a ≡ Release) ⊎ (a ≡ Answered) → {u : List ℕ} → u ≡ put (put t (32 * i) (part_octets y.holder)) (32 * i + 30) (state_octets y.ringing) → u ≡ put_circuit t i (made e a (circuit_at t i))
  reservation_stays h p =
      p ∙ holder_alone t i octet f b y (kept (λ (k : Circuit). k.reservation) refl refl h) (kept (λ (k : Circuit). k.clock) refl refl h)
      ∙ ap (put_circuit t i) is_made
