-- A line at the start of the part stands in the whole at the part's place.
use Rattle.std.proofs.Common.{◌+◌, ◌-◌, ◌≤◌, length, ℕ, ap, ◌∙◌, arith}
use Rattle.std.proofs.Math.Nat.{zero-add}
use borrow.Rule.Slice.PartMut.{put_mid}
use Rattle.lines.specs.Event.{line}
use Rattle.decide.proofs.Parts.{part-put}
use Rattle.decide.proofs.listing.line_at.Goals as goal

pub returns-clause-text : goal.returns-clause-text
returns-clause-text c =
    let a = c.args in
    let r = c.line in
    let room : a.at + length (line a.number a.a) ≤ length a.text.now = omega (arith, r.ensures.text.end, r.ensures.end) in
    record { content = ap (put_mid a.at (length a.text.now - a.at) a.text.now) r.ensures.text.content ∙ part-put a.text.now a.at (length a.text.now - a.at) (line a.number a.a) room (omega arith); end = ap (λ (n : ℕ). a.at + n) (r.ensures.text.end ∙ zero-add (length (line a.number a.a))) }
