-- This is 02, L1, "The day's figures": the ten events of the listing, 01's nine and the one that L7 adds, over its table of 64 zero octets give
-- these figures, letter for letter.
use Rattle.std.specs.Prelude.{ℕ, ◌≡◌, refl}
use mathlib.Core.List.{List, [], ◌∷◌, ◌++◌, flatten}
use Rattle.rules.specs.Fields.{decimal, parameter_ok, point_code_ok}
use Rattle.rules.specs.Circuit.{takeable, worth, rank}
use Rattle.rules.specs.Choice.{held_by, reserved_by, choice}
use Rattle.rules.specs.Event.{well_formed, kind_of}
use Rattle.rules.specs.Decision.{on_reservation, set_up, look_ahead, on_holder, cancel, decision}
use Rattle.rules.specs.Answer.{answer_of}
use Rattle.rules.specs.Valid.{levels_ok, fields_ok, pair_ok, repeated, record_verdict, verdict, valid}
use Rattle.rules.specs.Run.{outcome_of, effect, after, answered}
use Rattle.rules.specs.Records.{put_circuit, flags_at, blank_at, records, checked, table_length, empty_table}
use Rattle.rules.specs.Vectors.{event, sets_up, releases, is_answered, looks_ahead, ticks, immediate, priority}
use Rattle.rules.specs.Vectors as paper
use Rattle.route.specs.Entries.{events_in}
use Rattle.tally.specs.Shares.{adds, holders}
use Rattle.lines.specs.Text.{letters, decimal_in}
use Rattle.lines.specs.Figures.{sums, answer, row, rows, figures_text}
use Rattle.figures.specs.Output.{output}

abbrev pub listed : List ℕ
listed =
    letters "start 0\n"
    ++ letters "seized 3\n"
    ++ letters "released 0\n"
    ++ letters "lost 1\n"
    ++ letters "end 2\n"
    ++ letters "answer 1 2\n"
    ++ letters "answer 2 1\n"
    ++ letters "answer 3 1\n"
    ++ letters "answer 7 2\n"
    ++ letters "answer 9 1\n"
    ++ letters "answer 27 1\n"
    ++ letters "answer 30 1\n"
    ++ letters "answer 31 1\n"
    ++ letters "taker FLASH_OVERRIDE FLASH IMMEDIATE PRIORITY ROUTINE\n"
    ++ letters "FLASH_OVERRIDE 0 0 0 0 0\n"
    ++ letters "FLASH 0 0 0 0 0\n"
    ++ letters "IMMEDIATE 0 0 0 0 0\n"
    ++ letters "PRIORITY 0 0 0 0 1\n"
    ++ letters "ROUTINE 0 0 0 0 0\n"

pub shown : output (record { table = empty_table 2; input = flatten paper.listing } ∷ []) ≡ listed
unfolding flatten immediate priority event sets_up releases is_answered looks_ahead ticks paper.listing answered after effect
    outcome_of decision set_up look_ahead on_holder cancel on_reservation choice held_by reserved_by rank worth takeable answer_of valid
    verdict record_verdict repeated levels_ok fields_ok pair_ok decimal point_code_ok well_formed kind_of parameter_ok records put_circuit flags_at
    blank_at checked table_length events_in adds holders decimal_in sums answer row rows figures_text output
shown = refl
