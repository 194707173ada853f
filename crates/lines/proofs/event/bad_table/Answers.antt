-- The words, the reason, the record and the end of the line, one after the other.
use Rattle.std.proofs.Common.{◌≡◌, ◌++◌, rules, arith}
use Rattle.lines.specs.Text.{letters, decimal}
use Rattle.lines.specs.Extended.{extended}
use Rattle.lines.specs.Event.{bad_record, bad_table}
use Rattle.lines.proofs.Extended.{twice, begun}
use Rattle.lines.proofs.Lengths.{bad_table-length}
use Rattle.lines.proofs.event.bad_table.Goals as goal

pub returns : goal.returns
returns c =
    let refused = c.args.refused in
    let begin = c.new-text.result in
    let words = letters "bad table " in
    let reason = words ++ decimal refused.number in
    let named = bad_record refused.detail in
    let short = bad_table-length refused in
    let all : c.put-2.new.self ≡ extended begin (bad_table refused) = cc (twice begin words (decimal refused.number), twice begin reason named, twice begin (reason ++ named) (letters "\n")) in
    let whole = begun begin c.put-2.new.self (bad_table refused) all c.new-text.ensures.at (omega (arith, short)) in
    record { text = search rules; end = omega (arith, short) }
