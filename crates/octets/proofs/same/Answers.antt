-- Four octets that differ decide; where none did, the octets left over do.
use Rattle.std.proofs.Common.{◌≡◌, ℕ, ◌*◌, ◌/◌, length, sym, ap₂, ◌∙◌, subst, rules, arith}
use lib.Dec.{eqb}
use lib.Pointwise.{pointwise}
use Rattle.std.specs.List.{between}
use Rattle.octets.proofs.Parts.{Alike, alike_more, same_unlike, same_rest}
use Rattle.octets.proofs.same.Goals as goal

pub returns-then-read_number : goal.returns-then-read_number
returns-then-read_number g c =
    same_unlike c.args.a c.args.b (4 * c.loop-k.k) (λ e. c.if-read_number.true (c.read_number.ensures ∙ e ∙ sym c.read_number-in-loop-k.ensures))

pub loop-k-preserved : goal.loop-k-preserved
loop-k-preserved g c =
    let e = sym c.read_number.ensures ∙ c.if-read_number.false ∙ c.read_number-in-loop-k.ensures in
    alike_more c.args.a c.args.b (λ i. search rules) (λ i. search rules) c.loop-k.k c.loop-k.invariant e

pub returns : goal.returns
returns g c =
    let n : length c.args.a ≡ g.row.N = search rules in
    let m : length c.args.b ≡ g.row.N = search rules in
    let k : 4 * c.loop-k.k ≡ g.row.N / 4 * 4 = omega arith in
    c.eq.ensures ∙ ap₂ (λ (u v : ℕ). pointwise eqb (between (g.row.N / 4 * 4) u c.args.a) (between (g.row.N / 4 * 4) v c.args.b)) n m
    ∙ same_rest c.args.a c.args.b g.row.N (g.row.N / 4 * 4) n m (omega arith) (subst (Alike c.args.a c.args.b) k c.loop-k.invariant)
