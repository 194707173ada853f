-- What is left of the walk gives what the whole gives.
use Rattle.std.proofs.Common.{◌≡◌, ◌+◌, ◌∙◌, Option, Ok, sym, ap, subst, suc, pred, List, ℕ, length, arith, rules}
use Rattle.optional.specs.declared.reader.Reader.{Reader}
use Rattle.optional.specs.declared.part.Parameter.{Parameter}
use Rattle.optional.specs.declared.part.Standing.{Standing}
use Rattle.optional.specs.Part.{given, parameter_at}
use Rattle.optional.specs.declared.search.Searched.{Searched}
use Rattle.optional.specs.Search.{begun, had, found, found_in}
use Rattle.optional.proofs.Walk.{Stands, begins}
use Rattle.optional.proofs.Searching.{gave, behind_it, lies, smaller, faulty, over, unfit, further}
use Rattle.optional.proofs.search.find.Goals as goal

pub loop-parameter-init : goal.loop-parameter-init
loop-parameter-init c =
    let s = c.args.part.now in
    let new = c.new-reader.ensures in
    (ap (λ p. p.now) new.0, (suc (length s), subst (λ (at : ℕ). Stands s (suc (length s)) at begun) (sym new.1) (begins s)))

pub returns-in_err-parameter : goal.returns-in_err-parameter
returns-in_err-parameter c =
    let i = c.loop-parameter.invariant in
    let at = c.loop-parameter.reader.place in
    let r = faulty c.args.part.now i.1.0 at _ i.1.1 _ (c.in_err-parameter.ensures.step ∙ ap (λ (l : List ℕ). parameter_at l at) i.0) in
    search rules

pub noted-requires : goal.noted-requires
noted-requires c =
    let i = c.loop-parameter.invariant in
    let k = c.in_ok-parameter in
    lies _ _ _ (gave _ _ _ i.0 k.field-0 _ c.in-Some.is k.ensures.step k.ensures.named)

pub returns-in_err-precedence : goal.returns-in_err-precedence
returns-in_err-precedence c =
    let i = c.loop-parameter.invariant in
    let k = c.in_ok-parameter in
    let g = gave _ _ _ i.0 k.field-0 _ c.in-Some.is k.ensures.step k.ensures.named in
    let r = unfit c.args.part.now i.1.0 _ _ i.1.1 _ g _ c.in_err-precedence.ensures in
    search rules

pub loop-parameter-smaller : goal.loop-parameter-smaller
loop-parameter-smaller c =
    let i = c.loop-parameter.invariant in
    let k = c.in_ok-parameter in
    let g = gave _ _ _ i.0 k.field-0 _ c.in-Some.is k.ensures.step k.ensures.named in
    let f = smaller _ _ _ g in
    let next = ap (λ (r : Reader). r.place) c.step.ensures.place ∙ behind_it _ _ _ i.0 _ g in
    omega (arith, f, next)

pub loop-parameter-preserved : goal.loop-parameter-preserved
loop-parameter-preserved c =
    let i = c.loop-parameter.invariant in
    let k = c.in_ok-parameter in
    let g = gave _ _ _ i.0 k.field-0 _ c.in-Some.is k.ensures.step k.ensures.named in
    let f = further c.args.part.now i.1.0 _ _ i.1.1 _ g _ c.in_ok-precedence.ensures in
    let next = ap (λ (r : Reader). r.place) c.step.ensures.place ∙ behind_it _ _ _ i.0 _ g in (
      ap (λ (r : Reader). r.part.now) c.step.ensures.place ∙ i.0,
      (pred i.1.0, subst (λ (at : ℕ). Stands c.args.part.now (pred i.1.0) at (had c.in_ok-precedence.precedence)) (sym next) f),
    )

pub returns : goal.returns
returns c =
    let i = c.loop-parameter.invariant in
    let at = c.loop-parameter.reader.place in
    let stood = c.loop-parameter.precedence in
    let said = ap (λ (o : Option Standing). given at (Ok o)) (sym c.in_default.is) ∙ c.in_ok-parameter.ensures.step in
    let there : c.step.new.self.place ≡ at = ap (λ (r : Reader). r.place) c.step.ensures.place ∙ sym (ap (λ (q : Parameter). q.next) said) in
    record {
      reading = ap (λ (r : Searched). found (Ok r)) c.ended.ensures ∙ ap (λ (n : ℕ). found_in stood (n + 1)) there ∙ over c.args.part.now i.1.0 at stood i.1.1 (said ∙ ap (λ (l : List ℕ). parameter_at l at) i.0);
    }
