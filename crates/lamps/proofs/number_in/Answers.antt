-- Each word adds the lamps that are lit in it.
use Rattle.std.proofs.Common.{◌≡◌, ℕ, ◌+◌, ◌*◌, get_or, ap, ◌∙◌, arith}
use Rattle.std.specs.Int.Count.{ones}
use Rattle.rules.specs.Search.{count_to}
use Rattle.rules.proofs.Searches.{count-le}
use Rattle.lamps.specs.Lamps.{lamp_in, number_in}
use Rattle.lamps.proofs.Shown.{count_word}
use Rattle.lamps.proofs.number_in.Goals as goal

pub overflow_add-n : goal.overflow_add-n
overflow_add-n c =
    let j = c.loop-word.word-index in
    let ws = c.args.words in
    record { fits = omega (arith, count_word ws j c.loop-word-test.element_fits.fits, count-le (lamp_in ws) (64 * (j + 1))) }

pub loop-word-preserved : goal.loop-word-preserved
loop-word-preserved c =
    let j = c.loop-word.word-index in
    let ws = c.args.words in
    ap (λ (m : ℕ). m + ones (get_or ws j 0)) c.loop-word.invariant ∙ count_word ws j c.loop-word-test.element_fits.fits

pub overflow_cast-result : goal.overflow_cast-result
overflow_cast-result c = record { fits = omega (arith, count-le (lamp_in c.args.words) (64 * c.loop-word.word-index)) }

pub returns : goal.returns
unfolding number_in
returns c =
    let all : 64 * c.loop-word.word-index ≡ 256 = omega arith in
    c.loop-word.invariant ∙ ap (count_to (lamp_in c.args.words)) all
