-- The instance at one circuit, by computation.
use Prim.Native.Nat.{ℕ, ◌<◌}
use mathlib.Core.Path.{◌≡◌, refl, sym, ap, ◌∙◌, subst}
use mathlib.Core.Bool.{Bool, true, false, true≢false}
use mathlib.Core.List.{List, [], ◌∷◌, flatten}
use native.Mathlib.Omega.{arith}
use lib.ListN.{get_or, replicate}
use Rattle.rules.specs.declared.circuit.Circuit.{Circuit}
use Rattle.rules.specs.Fields.{routine, decimal, parameter_ok, point_code_ok}
use Rattle.rules.specs.Circuit.{nobody, takeable, worth, rank}
use Rattle.rules.specs.Choice.{held_by, reserved_by, choice}
use Rattle.rules.specs.Event.{well_formed, kind_of}
use Rattle.rules.specs.Decision.{on_reservation, set_up, on_holder, decision}
use Rattle.rules.specs.Answer.{answer_of}
use Rattle.rules.specs.Valid.{levels_ok, fields_ok, pair_ok, repeated, record_verdict, verdict, valid}
use Rattle.rules.specs.Run.{outcome_of, effect, after, answer_record, answered}
use Rattle.rules.specs.Records.{put_circuit, flags_at, blank_at, event_at, records, table_length, list_length}
use Rattle.rules.specs.Vectors.{event, sets_up, is_answered, priority}
use Rattle.route.specs.Entries.{events_in, list_lengths, list_number, list_table, list_answers}
use Rattle.claims.specs.History.{named, after_answer, empty}
use Rattle.claims.specs.Demand.{StandsIn, NewSetUp}
use Rattle.claims.specs.Lists.{EventList, turns}
use Rattle.claims.specs.Instance.{earlier, answered_call, ringing_call, no_call, shown, Met}

-- call 1 holds the only circuit and rings or does not, and nobody has reserved it
abbrev held_by_one : Bool → Circuit
held_by_one rings =
    record {
      holder = record { present = true; mark = record { level = record { 0 = routine }; domain = replicate 5 0 }; reference = 1 ∷ 0 ∷ 0 ∷ 1 ∷ 0 ∷ [] };
      reservation = nobody;
      clock = 0;
      ringing = rings;
    }

-- in the one past, and in the other
shown_both : (shown answered_call 0 ≡ held_by_one false) × (shown ringing_call 0 ≡ held_by_one true)
unfolding earlier answered_call ringing_call event sets_up is_answered priority turns list_number list_table list_answers list_lengths events_in table_length list_length flatten named after_answer answer_record answered after effect outcome_of decision set_up on_holder on_reservation choice held_by reserved_by rank worth takeable answer_of valid verdict record_verdict repeated levels_ok fields_ok pair_ok decimal point_code_ok well_formed kind_of parameter_ok records put_circuit flags_at blank_at
shown_both = (refl, refl)

-- so a well-formed set-up of call 3 is a new one, and so it is where nobody stands
module _ (lists : List EventList) (level : ℕ) (w : well_formed (event_at (sets_up 3 level)) ≡ true) where
  asks : (y : Circuit) → shown lists 0 ≡ y → (StandsIn (3 ∷ 0 ∷ 0 ∷ 1 ∷ 0 ∷ []) y.holder → ⊥) → (StandsIn (3 ∷ 0 ∷ 0 ∷ 1 ∷ 0 ∷ []) y.reservation → ⊥) → NewSetUp 1 (shown lists) (event_at (sets_up 3 level))
  unfolding event sets_up
  asks y shows held reserved =
      record {
        is_well_formed = w;
        is_set_up = refl;
        holds-nothing = λ c l h. held (subst (λ (z : Circuit). StandsIn (3 ∷ 0 ∷ 0 ∷ 1 ∷ 0 ∷ []) z.holder) (at c l) h);
        reserves_nothing = λ c l h. reserved (subst (λ (z : Circuit). StandsIn (3 ∷ 0 ∷ 0 ∷ 1 ∷ 0 ∷ []) z.reservation) (at c l) h);
      }
    where
      at : (c : ℕ) → c < 1 → shown lists c ≡ y
      at c l = ap (shown lists) (omega arith) ∙ shows

  asks_held : (rings : Bool) → shown lists 0 ≡ held_by_one rings → NewSetUp 1 (shown lists) (event_at (sets_up 3 level))
  asks_held rings shows =
      asks (held_by_one rings) shows (λ h. let z : ◌≡◌ {A = ℕ} 1 3 = ap (λ (r : List ℕ). get_or r 0 0) h.1 in omega arith) (λ h. true≢false (sym h.0))

pub met : Met
unfolding earlier answered_call ringing_call event sets_up is_answered priority turns list_number list_table list_answers list_lengths events_in table_length list_length flatten named after_answer answer_record answered after effect outcome_of decision set_up on_holder on_reservation choice held_by reserved_by rank worth takeable answer_of valid verdict record_verdict repeated levels_ok fields_ok pair_ok decimal point_code_ok well_formed kind_of parameter_ok records put_circuit flags_at blank_at
met =
    record {
      asks_priority = asks_held answered_call priority refl false shown_both.0;
      gets = refl;
      asks_routine = asks_held answered_call routine refl false shown_both.0;
      gets_none = refl;
      asks_first = asks no_call priority refl empty refl (λ h. true≢false (sym h.0)) (λ h. true≢false (sym h.0));
      gets-free = refl;
      asks_while_ringing = asks_held ringing_call priority refl true shown_both.1;
      gets-none-ringing = refl;
    }
