-- The holder's part, the reservation's, two octets zero, the one that says whether the holder rings, and the last.
use Rattle.std.proofs.Common.{ℕ, List, ◌+◌, ◌*◌, ◌++◌, replicate, ap, ap₂, ◌∙◌}
use Rattle.octets.specs.Number.{octets}
use Rattle.octets.specs.Span.{put}
use Rattle.octets.proofs.Spans.{put-put}
use Rattle.rules.specs.Records.{part_octets, state_octets, put_circuit}
use Rattle.table.proofs.store.Goals as goal

pub returns : goal.returns
unfolding put_circuit
returns c =
    let a = c.args in
    let t = a.t.now in
    let o = 32 * a.i in
    let h = part_octets a.c.holder in
    let r = part_octets a.c.reservation ++ octets 4 a.c.clock in
    let z : List ℕ = replicate 2 0 in
    c.write-2.ensures
    ∙ ap₂ (λ (u v : List ℕ). put u (o + 30) v)
    (c.write.ensures
    ∙ ap (λ (u : List ℕ). put u (o + 28) z) (c.store_reservation.ensures ∙ ap (λ (u : List ℕ). put u (o + 12) r) c.store_part.ensures ∙ put-put t o h r)
    ∙ put-put t o (h ++ r) z)
    c.state_octets.ensures
    ∙ put-put t o ((h ++ r) ++ z) (state_octets a.c.ringing)
