-- This is 02, L1 and L7, of the ten events of the listing over 01's table of two free circuits: their figures, by computation.
use Rattle.std.specs.Prelude.{◌≡◌, refl, ℕ, replicate}
use mathlib.Core.List.{List, [], ◌∷◌, ◌++◌, flatten}
use Rattle.rules.specs.Fields.{decimal, parameter_ok, point_code_ok}
use Rattle.rules.specs.Circuit.{takeable, worth, rank}
use Rattle.rules.specs.Choice.{held_by, reserved_by, choice}
use Rattle.rules.specs.Event.{well_formed, kind_of}
use Rattle.rules.specs.Decision.{on_reservation, set_up, look_ahead, on_holder, cancel, decision}
use Rattle.rules.specs.Answer.{answer_of}
use Rattle.rules.specs.Valid.{levels_ok, fields_ok, pair_ok, repeated, record_verdict, verdict, valid}
use Rattle.rules.specs.Run.{outcome_of, effect, after, answered}
use Rattle.rules.specs.Records.{put_circuit, flags_at, blank_at, records, table_length, list_length, empty_table}
use Rattle.rules.specs.Vectors.{event, sets_up, releases, is_answered, looks_ahead, ticks, immediate, priority}
use Rattle.rules.specs.Vectors as paper
use Rattle.route.specs.Entries.{events_in, list_lengths}
use Rattle.tally.specs.Places as place
use Rattle.tally.specs.Shares.{adds, holders, list_adds}
use Rattle.tally.specs.Entry.{has_room, figures_lengths, is_added, figures_totals}

abbrev pub expected : List ℕ
expected =
    -- 1 list, holders at the start 0, seized 3, released 0, lost 1, holders at the end 2
    (1 ∷ 0 ∷ 3 ∷ 0 ∷ 1 ∷ 2 ∷ [])
    -- lost holders, a row a taker and a column a loser, FLASH OVERRIDE to ROUTINE: a PRIORITY call took a circuit from a ROUTINE one
    ++ (0 ∷ 0 ∷ 0 ∷ 0 ∷ 0 ∷ [])
    ++ (0 ∷ 0 ∷ 0 ∷ 0 ∷ 0 ∷ [])
    ++ (0 ∷ 0 ∷ 0 ∷ 0 ∷ 0 ∷ [])
    ++ (0 ∷ 0 ∷ 0 ∷ 0 ∷ 1 ∷ [])
    ++ (0 ∷ 0 ∷ 0 ∷ 0 ∷ 0 ∷ [])
    -- events by answer: of 0 to 9, two have 1, one has 2, one has 3, two have 7 and one has 9; none has 10 to 23
    ++ (0 ∷ 2 ∷ 1 ∷ 1 ∷ 0 ∷ 0 ∷ 0 ∷ 2 ∷ 0 ∷ 1 ∷ [])
    ++ replicate 14 0
    -- of 24 to 31, one has 27, one 30 and one 31; none has 32 to 63
    ++ (0 ∷ 0 ∷ 0 ∷ 1 ∷ 0 ∷ 0 ∷ 1 ∷ 1 ∷ [])
    ++ replicate 32 0

pub counted : figures_totals (empty_table 2) (flatten paper.listing) (replicate 160 0) (replicate place.figures 0) ≡ expected
unfolding flatten immediate priority event sets_up releases is_answered looks_ahead ticks paper.listing answered after effect outcome_of decision set_up
    look_ahead on_holder cancel on_reservation choice held_by reserved_by rank worth takeable answer_of valid verdict record_verdict repeated
    levels_ok fields_ok pair_ok decimal point_code_ok well_formed kind_of parameter_ok records put_circuit flags_at blank_at table_length list_length
    events_in list_lengths adds holders list_adds has_room figures_lengths is_added figures_totals
counted = refl
