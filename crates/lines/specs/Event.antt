-- This is 01, "The program and its whole output", and 02, L2: the line of an event, and the lines that stand alone.
use Rattle.std.specs.Prelude.{ℕ, cond, List, [], ◌++◌, eqb}
use Rattle.rules.specs.declared.verdict.Check.{Check}
use Rattle.rules.specs.Answer.{no_detail}
use Rattle.rules.specs.Records.{answer_number, answer_cause, answer_detail, lost_call, lost_reservation, is_lost, lost_reference}
use Rattle.fields.specs.declared.reference.Reference.{Reference}
use Rattle.fields.specs.Reference.{values_of}
use Rattle.lines.specs.Text.{letters, decimal, field}

abbrev pub header : List ℕ
header = letters "event answer cause number call reservation\n"

abbrev pub detail : ℕ → List ℕ  -- the field number (octets 2-3 of an answer, `-` for 65535)
detail n = cond (eqb n no_detail) (letters "-") (decimal n)

abbrev pub named : Reference → List ℕ  -- a call reference as identity/point code
named v = decimal v.identity ++ letters "/" ++ decimal v.point

-- a lost party (identity/point code or `-`), by its flag and its reference
unfoldable pub party : List ℕ → List ℕ
party lost = cond (is_lost lost) (named (values_of (lost_reference lost))) (letters "-")

abbrev pub numbers : ℕ → List ℕ → List ℕ  -- the first four fields of a line: event, answer, cause, number
numbers n a =
    decimal n ++ field (decimal (answer_number a)) ++ field (decimal (answer_cause a)) ++ field (detail (answer_detail a))

-- the line of an event, by its number and the record of its answer: the first four fields, then lost call and lost reservation
unfoldable pub line : ℕ → List ℕ → List ℕ
line n a = numbers n a ++ field (party (lost_call a)) ++ field (party (lost_reservation a)) ++ letters "\n"

abbrev pub most_letters : ℕ  -- no line of an event is longer than this
most_letters = 65

abbrev pub short : ℕ → List ℕ  -- the line for a last part of n octets
short n = letters "short " ++ decimal n ++ letters "\n"

abbrev pub no_table : List ℕ  -- the only line where there is no table file
no_table = letters "no table\n"

abbrev pub bad_record : ℕ → List ℕ  -- the record that is bad, where there is one
bad_record n = cond (eqb n no_detail) [] (field (decimal n))

-- the only line where the check refuses the table: `bad table`, reason, record; `bad table 20` names none (02, L2)
abbrev pub bad_table : Check → List ℕ
bad_table refused = letters "bad table " ++ decimal refused.number ++ bad_record refused.detail ++ letters "\n"
