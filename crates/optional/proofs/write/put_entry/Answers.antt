-- The name, the count and the contents; precedence has six octets where it may be written.
use Rattle.std.proofs.Common.{◌+◌, ℕ, ◌∙◌, ap, List, set, arith, rules}
use Rattle.octets.specs.Span.{put}
use Rattle.optional.specs.List.{item_of}
use Rattle.optional.proofs.Sound.{has_six}
use Rattle.optional.proofs.Putting.{other, precedence}
use Rattle.optional.proofs.write.put_entry.Goals as goal
use Rattle.optional.proofs.write.put_entry.Goals.{then-name-eq-PRECEDENCE, else-name-eq-PRECEDENCE}

pub bounds-contents-0 : goal.bounds-contents-0
bounds-contents-0 c =
    let six = has_six (item_of c.args.entry) c.requires.is_sound c.if-name-eq-PRECEDENCE.true in
    search rules

pub bounds-buffer-start : goal.bounds-buffer-start
bounds-buffer-start c =
    let six = has_six (item_of c.args.entry) c.requires.is_sound c.if-name-eq-PRECEDENCE.true in
    omega (arith, six, c.requires.fits)

pub returns-clause-buffer : goal.returns-clause-buffer
returns-clause-buffer c =
    let b = c.args.buffer.now in
    let to = c.args.to in
    let i = item_of c.args.entry in
    let put = c.write-2.ensures ∙ ap (λ (u : List ℕ). put u (to + 2) i.contents) c.write.ensures in
    elim c.if-name-eq-PRECEDENCE.branch [
      | then-name-eq-PRECEDENCE w ↦
          let named = w.if-name-eq-PRECEDENCE.true in
          w.buffer-is ∙ (λ j. set (put j) (to + 2) (w.spareless.ensures j)) ∙ precedence b to i c.requires.fits named (has_six i c.requires.is_sound named)
      | else-name-eq-PRECEDENCE w ↦ w.buffer-is ∙ put ∙ other b to i c.requires.fits w.if-name-eq-PRECEDENCE.false
    ]
