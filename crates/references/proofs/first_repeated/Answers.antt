-- The lowest of all passes is the first that is repeated.
use Rattle.std.proofs.Common.{◌≡◌, ◌*◌, min, sym, ap, ◌∙◌, subst, arith, rules}
use Rattle.std.specs.Prelude.{None}
use Rattle.rules.specs.Records.{circuit_at, circuits}
use Rattle.references.proofs.Passes.{Sifted, sift_part, sift_nothing, sifted_all}
use Rattle.references.proofs.first_repeated.Goals as goal
use Rattle.references.proofs.first_repeated.Goals.{in-Some, in_default}

pub loop-stems-preserved : goal.loop-stems-preserved
loop-stems-preserved c =
    let x = circuit_at c.args.t.now in
    let m = 2 * circuits c.args.t.now in
    let at = c.loop-stems in
    let from = at.stems.start in
    let to = at.stems.end in
    let sifted : Sifted x m to c.match-pass.first = elim c.match-pass.branch [
      | in-Some w ↦
          subst (Sifted x m to) (sym w.first-is)
          (sift_part x m from to c.pass.ensures w.in-Some.is at.first at.invariant.2 w.least.ensures)
      | in_default w ↦
          let none : c.pass.result ≡ None = search rules in
          subst (Sifted x m to) (sym w.first-is) (sift_nothing x m from to c.pass.ensures none at.invariant.2)
    ] in
    (omega (arith, at.invariant.0), omega (arith, at.invariant.0, at.invariant.1), sifted)

pub returns : goal.returns
returns c = sifted_all (circuit_at c.args.t.now) _ c.loop-stems.stems.start c.loop-stems-test.false c.loop-stems.first c.loop-stems.invariant.2
