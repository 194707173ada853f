-- Four words, and the number lit in them.
use Rattle.std.proofs.Common.{◌≡◌, [], ◌∷◌, ap, ◌∙◌}
use Rattle.rules.specs.Answer.{no_detail}
use Rattle.lamps.specs.Lamps.{lit_at, four_words, number_in, lit_map}
use Rattle.lamps.proofs.LowestLamp.{table-number}
use Rattle.lamps.proofs.lit_map.Goals as goal

pub returns : goal.returns
returns c =
    let t = c.args.t.now in
    let words : (c.word.result ∷ c.word-2.result ∷ c.word-3.result ∷ c.word-4.result ∷ []) ≡ four_words (lit_at t) =
    λ i. c.word.ensures i ∷ c.word-2.ensures i ∷ c.word-3.ensures i ∷ c.word-4.ensures i ∷ []
    in
    let number : c.number_in-lit.result ≡ (lit_map t).lit = c.number_in-lit.ensures ∙ ap number_in words ∙ table-number t c.requires in
    λ i. record { number = 0; lit = number i; detail = no_detail; words = words i }
