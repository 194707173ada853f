-- An event that was read, decided, answered and done is an event applied.
use Prim.Native.Nat.{ℕ}
use mathlib.Core.Path.{◌≡◌, ap, ap₂, ◌∙◌}
use mathlib.Core.List.{List}
use Rattle.octets.specs.Span.{put}
use Rattle.rules.specs.declared.event.Event.{Event}
use Rattle.rules.specs.declared.answer.Answer.{Answer}
use Rattle.rules.specs.Outcome.{Outcome}
use Rattle.rules.specs.Answer.{answer_of}
use Rattle.rules.specs.Run.{outcome_of, effect, after, answered, answer_record}
use Rattle.rules.specs.Records.{circuit_at, event_at, answer_octets, records, circuits}

-- the octets o say e, of which d was decided
module _ (t o : List ℕ) {e : Event} {d : Outcome} (read : e ≡ event_at o) (decided : d ≡ outcome_of records t e) where
  settled : d ≡ outcome_of records t (event_at o)
  settled = decided ∙ ap (outcome_of records t) read

  pub applied_answer : {r : Answer} → r ≡ answer_of (circuit_at t) (circuits t) e d → r ≡ answered records t o
  unfolding answered records
  applied_answer q = q ∙ ap₂ (answer_of (circuit_at t) (circuits t)) read settled

  pub applied_table : {u : List ℕ} → u ≡ effect records t e d → u ≡ after records t o
  unfolding after records
  applied_table q = q ∙ ap₂ (effect records t) read settled

  pub applied_octets : {r : Answer} → r ≡ answer_of (circuit_at t) (circuits t) e d → (a : List ℕ) (p : ℕ) {b : List ℕ} → b ≡ put a p (answer_octets r) → b ≡ put a p (answer_record records t o)
  unfolding answer_record records
  applied_octets q a p h = h ∙ ap (λ (r : Answer). put a p (answer_octets r)) (applied_answer q)
