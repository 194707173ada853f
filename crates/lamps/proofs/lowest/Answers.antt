-- In the first word that is not dark the lowest lamp stands above the trailing zeros.
use Rattle.std.proofs.Common.{◌≡◌, ℕ, ◌+◌, ◌*◌, ◌<◌, ◌^◌, get_or, sym, ap, ◌∙◌, arith, rules}
use Rattle.std.specs.Int.Count.{count_trailing_zeros}
use Rattle.octets.specs.Bit.{bit}
use Rattle.octets.proofs.Bits.{bit-zero}
use Rattle.rules.proofs.Searches.{first_of, first_none}
use Rattle.lamps.specs.Lamps.{lamp_in, lowest_in}
use Rattle.lamps.proofs.Words.{trailing_first}
use Rattle.lamps.proofs.Shown.{lamp_in_lem, dark_to}
use Rattle.lamps.proofs.lowest.Goals as goal

pub returns-then-word-ne0 : goal.returns-then-word-ne0
unfolding lowest_in
returns-then-word-ne0 c =
    let l = c.loop-j in
    let ws = c.args.words in
    let w = get_or ws l.j 0 in
    let fits : w < 2 ^ 64 = search rules in
    let z = count_trailing_zeros 64 w in
    let first = trailing_first 64 w fits c.if-word-ne0.true in
    record { lamp = sym (first_of (lamp_in ws) 256 (64 * l.j + z) (omega arith) (dark_to ws l.j z (omega arith) l.invariant first.2) (lamp_in_lem ws l.j z first.0 ∙ first.1)) }

pub loop-j-preserved : goal.loop-j-preserved
loop-j-preserved c =
    let j = c.loop-j.j in
    let ws = c.args.words in
    let none : get_or ws j 0 ≡ 0 = c.if-word-ne0.false in
    λ d h. dark_to ws j 64 (omega arith) c.loop-j.invariant (λ i g. ap (λ (w : ℕ). bit w i) none ∙ bit-zero i) d (omega arith)

pub returns : goal.returns
unfolding lowest_in
returns c = record { lamp = sym (first_none (lamp_in c.args.words) 256 (λ d h. c.loop-j.invariant d (omega arith))) }
