-- The number and the detail of an answer, and the length of a table after an event.
use Prim.Native.Nat.{ℕ, zero, suc}
use mathlib.Core.Path.{◌≡◌, refl, ◌∙◌}
use mathlib.Core.List.{List, [], ◌∷◌}
use lib.ListN.{length}
use Rattle.octets.proofs.Tests.{by_test}
use Rattle.octets.proofs.Spans.{length-put}
use Rattle.octets.proofs.Width.{value-octets}
use Rattle.rules.specs.declared.circuit.Circuit.{Circuit}
use Rattle.rules.specs.declared.event.Event.{Event}
use Rattle.rules.specs.declared.outcome.Act.TheVariants.{Cancel}
use Rattle.rules.specs.Outcome.{Outcome}
use Rattle.std.specs.Prelude.{Ok, Err}
use Rattle.rules.specs.declared.outcome.Deed.TheVariants.{Do, Clock}
use Rattle.rules.specs.Circuit.{overdue, made}
use Rattle.rules.specs.Run.{outcome_of, sweep_to, effect, after, answered, answer_record, run}
use Rattle.rules.specs.Records.{circuit_at, circuit_octets, put_circuit, event_at, records, circuits, answer_number, answer_detail}

pub answer-number : (t e : List ℕ) → answer_number (answer_record records t e) ≡ (answered records t e).number
unfolding answer_record records
answer-number t e = refl

pub answer-detail : (t e : List ℕ) → answer_detail (answer_record records t e) ≡ (answered records t e).detail
unfolding answer_record records
answer-detail t e = value-octets 1 (answered records t e).detail

-- ---- a table keeps its length
length-circuit : (t : List ℕ) (i : ℕ) (y : Circuit) → length (put_circuit t i y) ≡ length t
unfolding put_circuit
length-circuit t i y = length-put t _ (circuit_octets y)

length-sweep : (t : List ℕ) (e : Event) (n : ℕ) → length (sweep_to records t e n) ≡ length t
unfolding records
length-sweep t e zero = refl
length-sweep t e (suc n) =
    by_test (λ (u : List ℕ). length u ≡ length t) (overdue e.clock (circuit_at t n)) (put_circuit (sweep_to records t e n) n (made e Cancel (circuit_at t n))) (sweep_to records t e n)
    (λ q. length-circuit (sweep_to records t e n) n (made e Cancel (circuit_at t n)) ∙ length-sweep t e n) (λ q. length-sweep t e n)

length-effect : (t : List ℕ) (e : Event) (o : Outcome) → length (effect records t e o) ≡ length t
unfolding effect records
length-effect t e (Err r) = refl
length-effect t e (Ok (Do a i)) = length-circuit t i (made e a (circuit_at t i))
length-effect t e (Ok Clock) = length-sweep t e (circuits t)

pub length-after : (t e : List ℕ) → length (after records t e) ≡ length t
unfolding after records
length-after t e = length-effect t (event_at e) (outcome_of records t (event_at e))

pub length_run : (es : List (List ℕ)) (t : List ℕ) → length (run records t es) ≡ length t
length_run [] t = refl
length_run (e ∷ es) t = length_run es (after records t e) ∙ length-after t e
