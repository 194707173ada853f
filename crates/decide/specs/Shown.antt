-- This is 01, "The program and its whole output", and 02, L7: the ten events of the listing, 01's nine and the one that L7 adds, over its table of
-- 64 zero octets give its whole output, letter for letter.
use Rattle.std.specs.Prelude.{◌≡◌, refl, ℕ}
use mathlib.Core.List.{List, ◌++◌, flatten}
use Rattle.rules.specs.Fields.{decimal, parameter_ok, point_code_ok}
use Rattle.rules.specs.Circuit.{takeable, worth, rank}
use Rattle.rules.specs.Choice.{held_by, reserved_by, choice}
use Rattle.rules.specs.Event.{well_formed, kind_of}
use Rattle.rules.specs.Decision.{on_reservation, set_up, look_ahead, on_holder, cancel, decision}
use Rattle.rules.specs.Answer.{answer_of}
use Rattle.rules.specs.Valid.{levels_ok, fields_ok, pair_ok, repeated, record_verdict, verdict, valid}
use Rattle.rules.specs.Run.{outcome_of, effect, after, answer_record, answered}
use Rattle.rules.specs.Records.{put_circuit, flags_at, blank_at, records, checked, table_length, empty_table}
use Rattle.rules.specs.Vectors.{event, sets_up, releases, is_answered, looks_ahead, ticks, immediate, priority}
use Rattle.rules.specs.Vectors as paper
use Rattle.fields.specs.Reference.{values_of}
use Rattle.route.specs.Entries.{events_in}
use Rattle.lines.specs.Text.{letters, decimal_in}
use Rattle.lines.specs.Event.{party, line}
use Rattle.decide.specs.Listing.{listing}
use Rattle.decide.specs.Output.{answers_to, output}

abbrev pub listed : List ℕ
listed =
    letters "event answer cause number call reservation\n"
    ++ letters "1 1 0 0 - -\n"
    ++ letters "2 9 0 0 - -\n"
    ++ letters "3 3 0 1 - -\n"
    ++ letters "4 2 0 0 1/1 -\n"
    ++ letters "5 31 46 - - -\n"
    ++ letters "6 27 0 - - -\n"
    ++ letters "7 7 0 0 - -\n"
    ++ letters "8 7 0 1 - -\n"
    ++ letters "9 1 0 1 - -\n"
    ++ letters "10 30 34 - - -\n"

pub shown : output (empty_table 2) (flatten paper.listing) ≡ listed
unfolding flatten immediate priority event sets_up releases is_answered looks_ahead ticks paper.listing answer_record answered after
    effect outcome_of decision set_up look_ahead on_holder cancel on_reservation choice held_by reserved_by rank worth takeable answer_of valid
    verdict record_verdict repeated levels_ok fields_ok pair_ok decimal point_code_ok well_formed kind_of parameter_ok records put_circuit flags_at
    blank_at checked table_length events_in answers_to output decimal_in values_of party line listing
shown = refl
