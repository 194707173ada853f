-- The sums, the answers, the line above the rows and the rows.
use Rattle.std.proofs.Common.{◌≡◌, ◌++◌, rules, arith}
use Rattle.lines.specs.Extended.{extended}
use Rattle.lines.specs.Figures.{sums, answers_to, head, rows, figures_text}
use Rattle.lines.proofs.Extended.{twice, begun}
use Rattle.lines.proofs.Lengths.{figures-length}
use Rattle.lines.proofs.figures.lines.Goals as goal

pub returns : goal.returns
unfolding figures_text
returns c =
    let a = c.args in
    let begin = c.new-text.result in
    let first = sums a.start a.end a.totals.now in
    let second = answers_to a.totals.now 64 in
    let text = figures_text a.start a.end a.totals.now in
    let short = figures-length a.totals.now a.start a.end in
    let all : c.rows.new.text ≡ extended begin text = cc (twice begin first second, twice begin (first ++ second) head, twice begin (first ++ second ++ head) (rows a.totals.now)) in
    let whole = begun begin c.rows.new.text text all c.new-text.ensures.at (omega (arith, short)) in
    record { text = search rules; end = omega (arith, short) }
