-- One word more.
use Rattle.std.proofs.Common.{ℕ, List, ◌∙◌, true, get_or, set, sym, ap, subst, arith}
use Rattle.std.specs.Int.Bits.{bit_or}
use Rattle.references.specs.Filter.{word_of, bits_in, Grown}
use Rattle.references.proofs.Filters.{grown}
use Rattle.references.proofs.set_bits.Goals as goal

pub returns-clause-words : goal.returns-clause-words
returns-clause-words c =
    let w = c.args.w.now in
    let s = c.spread-v.ensures in
    let b = c.bits.ensures ∙ ap bits_in s in
    subst (λ (v : List ℕ). Grown w v c.args.r true) (sym (λ i. set w (word_of (s i)) (bit_or (get_or w (word_of (s i)) 0) (b i)))) (grown w c.args.r (omega arith))
