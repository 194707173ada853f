-- A past over 01's records: its parts, and what the table shows in the end.
use Prim.Native.Nat.{ℕ, ◌<◌}
use mathlib.Core.Path.{◌≡◌, refl, sym, ap, ◌∙◌, subst}
use mathlib.Core.Bool.{true}
use mathlib.Core.List.{List, [], ◌∷◌, ◌++◌}
use lib.ListN.{length}
use Rattle.octets.proofs.Width.{value-octets}
use Rattle.rules.specs.declared.circuit.Circuit.{Circuit}
use Rattle.rules.specs.Valid.{valid}
use Rattle.rules.specs.Run.{after, answered, answer_record}
use Rattle.rules.specs.Records.{circuit_at, records, circuits}
use Rattle.rules.proofs.Records.{lawful}
use Rattle.claims.specs.History.{Turn, asked, after_answer, after_turn, history_from}
use Rattle.claims.proofs.Octets.{length-after}
use Rattle.claims.proofs.Simulation.{Legible, RanIn, history_in, turn-answered, simulation}

abbrev pub Ran : List ℕ → List Turn → List ℕ → Type 0  -- over 01's records
Ran = RanIn records

pub ran_append : (ps qs : List Turn) (t u v : List ℕ) → Ran t ps u → Ran u qs v → Ran t (ps ++ qs) v
ran_append [] qs t u v h g = subst (λ (w : List ℕ). Ran w qs v) (sym h) g
ran_append (p ∷ ps) qs t u v h g = (h.0, ran_append ps qs (after records t p.event) u v h.1 g)

ran_long : (ps : List Turn) (t u : List ℕ) → Ran t ps u → length u ≡ length t
ran_long [] t u h = ap length (sym h)
ran_long (p ∷ ps) t u h = ran_long ps (after records t p.event) u h.1 ∙ length-after t p.event

legible : Legible records
unfolding records
legible = record { number = λ a. refl; detail = λ a. value-octets 1 a.detail }

pub turn_as_answered : (t : List ℕ) (p : Turn) → p.answer ≡ answer_record records t p.event → (c : ℕ) (y : Circuit) → after_turn p c y ≡ after_answer (asked p) (answered records t p.event).number (answered records t p.event).detail c y
unfolding records
turn_as_answered = turn-answered records legible

-- ---- from any valid table t that shows circuits y, what the table shows in the end is what the history tells
pub record Shown (t : List ℕ) (y : ℕ → Circuit) (ps : List Turn) (u : List ℕ) : Type 0 where
  pub still-valid : valid records u ≡ true
  pub as_long : length u ≡ length t
  pub tells : (c : ℕ) → c < circuits t → circuit_at u c ≡ history_from (y c) ps c

history_in_lem : (ps : List Turn) (y : Circuit) (c : ℕ) → history_in records y ps c ≡ history_from y ps c
unfolding records
history_in_lem [] y c = refl
history_in_lem (p ∷ ps) y c = history_in_lem ps (after_turn p c y) c

pub shown : (ps : List Turn) (t u : List ℕ) → valid records t ≡ true → (y : ℕ → Circuit) → ((c : ℕ) → c < circuits t → circuit_at t c ≡ y c) → Ran t ps u → Shown t y ps u
unfolding records
shown ps t u v y q h =
    let r = simulation records lawful legible ps t u v y q h in
    record { still-valid = r.still-valid; as_long = ran_long ps t u h; tells = λ c l. r.tells c l ∙ history_in_lem ps (y c) c }

-- ---- turn p in a past: the table before it, and how it was answered
pub record Stood (t : List ℕ) (y : ℕ → Circuit) (before : List Turn) (p : Turn) : Type 0 where
  pub table : List ℕ
  pub shows : Shown t y before table
  pub answer : p.answer ≡ answer_record records table p.event

module _ (p : Turn) (later : List Turn) (u : List ℕ) where
  around : (before : List Turn) (t : List ℕ) → Ran t (before ++ p ∷ later) u → (s : List ℕ) × Ran t before s × (p.answer ≡ answer_record records s p.event)
  around [] t h = (t, refl, h.0)
  around (q ∷ qs) t h = let r = around qs (after records t q.event) h.1 in (r.0, (h.0, r.1), r.2)

  pub stood : (before : List Turn) (t : List ℕ) → valid records t ≡ true → (y : ℕ → Circuit) → ((c : ℕ) → c < circuits t → circuit_at t c ≡ y c) → Ran t (before ++ p ∷ later) u → Stood t y before p
  stood before t v y q h =
      let r = around before t h in record { table = r.0; shows = shown before t r.0 v y q r.1; answer = r.2 }
