-- A turn adds the line of the next answer, and the last turn ends with the whole text.
use Rattle.std.proofs.Common.{◌≡◌, ◌+◌, ◌/◌, length, suc, ◌++◌, ap, sym, ◌∙◌, add-one, arith}
use Rattle.rules.specs.Records.{answer_size}
use Rattle.lines.specs.Event.{line}
use Rattle.lines.proofs.Joined.{joined, said}
use Rattle.decide.specs.Listing.{listing_to, listing}
use Rattle.decide.proofs.listing.listing.Goals as goal

pub loop-k-preserved : goal.loop-k-preserved
loop-k-preserved c =
    let l = c.loop-k in
    let a = c.args in
    let number : a.before + l.k + 1 ≡ a.before + suc l.k = omega arith in
    let same = (λ i. listing_to a.before a.answers.now l.k ++ line (number i) (c.answer_at.ensures i)) ∙ ap (listing_to a.before a.answers.now) (sym (add-one l.k)) in
    record { text = said same (joined l.invariant.text c.line_at-at.ensures.text); within = omega arith }

pub returns-clause-text : goal.returns-clause-text
unfolding listing
returns-clause-text c =
    let l = c.loop-k in
    let a = c.args in
    let done : l.k ≡ length a.answers.now / answer_size = omega arith in
    said (ap (listing_to a.before a.answers.now) done) l.invariant.text
