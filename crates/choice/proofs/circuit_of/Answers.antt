-- What is found on a side is the first circuit on which the call stands there.
use Rattle.std.proofs.Common.{◌≡◌, ℕ, Bool, true, false, rules}
use Rattle.std.proofs.lemmas.Iterator.{first_from_Range}
use Rattle.rules.specs.Circuit.{part_on, is_of}
use Rattle.rules.specs.Records.{circuit_at}
use Rattle.choice.proofs.Walk.{first_found}
use Rattle.choice.proofs.circuit_of.Goals as goal

pub returns : goal.returns
returns c =
    let a = c.args in
    let test : ℕ → Bool = λ i. is_of a.reference (part_on a.side (circuit_at a.t.now i)) in
    first_found test c.count.ensures _
    (first_from_Range _ _ _ _ (λ i. test i ≡ true) (λ i. test i ≡ false) c.find.ensures.ran (λ x q k. search rules) (λ x q k. search rules))
