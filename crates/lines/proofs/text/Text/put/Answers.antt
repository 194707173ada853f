-- What has room is written.
use Rattle.std.proofs.Common.{ℕ, ◌-◌, List, ap₂, ◌∙◌, length-take, arith}
use Rattle.lines.specs.Extended.{extended, most}
use Rattle.lines.proofs.Extended.{fitted}
use Rattle.lines.proofs.text.Text.put.Goals as goal

pub returns : goal.returns
unfolding extended
returns c =
    let a = c.args in
    let out = a.self.now.out in
    let at = a.self.now.at in
    let content = c.write.ensures ∙ fitted out.now at a.letters.now c.min-from.result c.min-n.result (omega arith) c.min-from.ensures c.min-n.ensures in
    ap₂ (λ (l : List ℕ) (n : ℕ). record { out = record out { now = l }; at = n }) content (omega (arith, length-take (most - at) a.letters.now))
