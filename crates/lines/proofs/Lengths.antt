-- How long the texts are.
use Prim.Native.Nat.{ℕ, zero, suc, ◌+◌, ◌*◌, ◌/◌, ◌%◌, ◌^◌, ◌≤◌, ◌<◌}
use mathlib.Core.List.{List, [], ◌++◌}
use native.Mathlib.Omega.{arith}
use lib.Dec.{eqb, ltb}
use lib.ListN.{length, get_or, length-append}
use Rattle.std.specs.Prelude.{Option, Some, None}
use Rattle.octets.proofs.Tests.{by_test}
use Rattle.octets.specs.Number.{Octets}
use Rattle.octets.proofs.Width.{octet_at}
use Rattle.octets.proofs.Spans.{octets-each}
use Rattle.rules.specs.Answer.{no_detail}
use Rattle.rules.specs.declared.verdict.Check.{Check}
use Rattle.rules.specs.Records.{answer_number, answer_cause, answer_detail, lost_call, lost_reservation, is_lost, lost_reference}
use Rattle.fields.specs.Reference.{values_of}
use Rattle.tally.specs.Places as place
use Rattle.lines.specs.Text.{letters, decimal, decimal_in, digit, field}
use Rattle.lines.specs.Event as event
use Rattle.lines.specs.Figures as figures
use Rattle.lines.specs.Panel as panel
use Rattle.lines.proofs.Decimals.{decimal-length}
use Rattle.lines.proofs.Rows.{rows-length}

-- a number has no more digits than are written of it
most_digits : (w n : ℕ) → length (decimal_in w n) ≤ w
unfolding decimal_in
most_digits zero n = omega arith
most_digits (suc w) n =
    by_test (λ (l : List ℕ). length l ≤ suc w) (ltb n 10) (digit n) (decimal_in w (n / 10) ++ digit (n % 10)) (λ _. omega arith)
    (λ _. omega (arith, length-append (decimal_in w (n / 10)) (digit (n % 10)), most_digits w (n / 10)))

pub number-length : (n : ℕ) → length (decimal n) ≤ 20
number-length = most_digits 20

-- of a lost party, by the octets of its flag and reference
party-length : (lost : List ℕ) → Octets lost → length (event.party lost) ≤ 14
unfolding event.party values_of
party-length lost octets =
    let v = values_of (lost_reference lost) in
    let each = octet_at lost octets in
    let high : v.identity < 10 ^ 8 = omega (arith, each 1, each 2, each 3) in
    let low : v.point < 10 ^ 5 = omega (arith, each 4) in
    by_test (λ (l : List ℕ). length l ≤ 14) (is_lost lost) (event.named v) (letters "-")
    (λ _. simp length-append (omega (arith, decimal-length 20 v.identity 7 high, decimal-length 20 v.point 4 low))) (λ _. omega arith)

module _ (a : List ℕ) (each : (i : ℕ) → get_or a i 0 < 256) where
  detail-length : length (event.detail (answer_detail a)) ≤ 5
  detail-length =
      by_test (λ (l : List ℕ). length l ≤ 5) (eqb (answer_detail a) no_detail) (letters "-") (decimal (answer_detail a)) (λ _. omega arith)
      (λ _. decimal-length 20 (answer_detail a) 4 (omega (arith, each 2, each 3)))

  pub line-length : (n : ℕ) → length (event.line n a) ≤ event.most_letters
  unfolding event.line
  line-length n =
      let number = decimal-length 20 (answer_number a) 2 (omega (arith, each 0)) in
      let cause = decimal-length 20 (answer_cause a) 2 (omega (arith, each 1)) in
      let call = party-length (lost_call a) (octets-each a each 4 6) in
      let reservation = party-length (lost_reservation a) (octets-each a each 10 6) in
      simp length-append (omega (arith, number-length n, number, cause, detail-length, call, reservation))

bad_record-length : (n : ℕ) → length (event.bad_record n) ≤ 21
bad_record-length n =
    by_test (λ (l : List ℕ). length l ≤ 21) (eqb n no_detail) [] (field (decimal n)) (λ _. omega arith) (λ _. omega (arith, number-length n))

pub bad_table-length : (refused : Check) → length (event.bad_table refused) ≤ 52
bad_table-length refused = simp length-append (omega (arith, number-length, bad_record-length))

-- of the totals f
module _ (f : List ℕ) where
  answer-length : (k n : ℕ) → length (figures.answer k n) ≤ 49
  unfolding figures.answer
  answer-length k n =
      by_test (λ (l : List ℕ). length l ≤ 49) (eqb n 0) [] (letters "answer" ++ field (decimal k) ++ field (decimal n) ++ letters "\n") (λ _. omega arith)
      (λ _. simp length-append (omega (arith, number-length k, number-length n)))

  answers-length : (k : ℕ) → length (figures.answers_to f k) ≤ 49 * k
  answers-length zero = omega arith
  answers-length (suc k) =
      let line = figures.answer k (get_or f (place.answered k) 0) in
      omega (arith, length-append (figures.answers_to f k) line, answers-length k, answer-length k (get_or f (place.answered k) 0))

  cells-length : (taker k : ℕ) → length (figures.cells_to f taker k) ≤ 21 * k
  cells-length taker zero = omega arith
  cells-length taker (suc k) =
      let number = decimal (get_or f (place.lost_by_level taker k) 0) in
      omega (arith, length-append (figures.cells_to f taker k) (field number), cells-length taker k, number-length (get_or f (place.lost_by_level taker k) 0))

  row-length : (taker : ℕ) (name : List ℕ) → length (figures.row f taker name) ≤ length name + 106
  unfolding figures.row
  row-length taker name =
      let cells = figures.cells_to f taker 5 in
      omega (arith, length-append (name ++ cells) (letters "\n"), length-append name cells, cells-length taker 5)

  rows-short : length (figures.rows f) ≤ 573
  unfolding figures.rows
  rows-short = simp length-append (omega (arith, row-length 0, row-length 1, row-length 2, row-length 3, row-length 4))

  sums-length : (start end : ℕ) → length (figures.sums start end f) ≤ 136
  unfolding figures.sums
  sums-length start end = simp length-append (omega (arith, number-length))

  pub figures-length : (start end : ℕ) → length (figures.figures_text start end f) ≤ figures.most_letters
  unfolding figures.figures_text
  figures-length start end =
      let sums = figures.sums start end f in
      let answers = figures.answers_to f 64 in
      let rows = figures.rows f in
      omega (arith, length-append (sums ++ answers ++ figures.head) rows, length-append (sums ++ answers) figures.head, length-append sums answers, sums-length start end, answers-length 64, rows-short)

first-length : (first : Option ℕ) → length (panel.first_lit first) ≤ 28
first-length (Some i) = omega (arith, number-length i)
first-length None = omega arith

pub drawing-length : (words : List ℕ) (lit : ℕ) (first : Option ℕ) → length (panel.drawing words lit first) ≤ panel.most_letters
unfolding panel.drawing panel.last_line
drawing-length words lit first =
    let rows = panel.rows_to words 4 in
    let line = panel.last_line lit first in
    let word = letters "lit " ++ decimal lit in
    omega (arith, length-append rows line, length-append (word ++ panel.first_lit first) (letters "\n"), length-append word (panel.first_lit first), rows-length words 4, number-length lit, first-length first)
