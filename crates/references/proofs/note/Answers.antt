-- The part is absent, or the filter says that it is new or out of range, or the search decides.
use Rattle.std.proofs.Common.{◌≡◌, ℕ, ◌+◌, ◌*◌, Bool, ◌&&◌, List, refl, sym, ap, ◌∙◌, subst}
use Rattle.octets.proofs.Tests.{and_on, and_left}
use Rattle.rules.specs.declared.part.Part.{Part}
use Rattle.rules.specs.declared.part.Side.{Side}
use Rattle.rules.specs.declared.circuit.Circuit.{Circuit}
use Rattle.rules.specs.Circuit.{part_on}
use Rattle.rules.specs.Valid.{part_numbered, side_number, repeated}
use Rattle.rules.specs.Records.{circuit_at}
use Rattle.references.specs.Filter.{in_range, already, stands_to, Grown, Seen}
use Rattle.references.proofs.Filters.{on_side, absent_passed, not_repeated, by_search, seen_more}
use Rattle.references.proofs.note.Goals as goal

-- what is read of the part on a side is that of the part with its number
module _ (x : ℕ → Circuit) (i : ℕ) (side : Side) where
  there : {b : Bool} → b ≡ (part_on side (x i)).present → (part_numbered x (2 * i + side_number side)).present ≡ b
  there e = ap (λ (p : Part). p.present) (on_side x i side) ∙ sym e

  read : {r : List ℕ} → r ≡ (part_on side (x i)).reference → r ≡ (part_numbered x (2 * i + side_number side)).reference
  read e = e ∙ ap (λ (p : Part). p.reference) (sym (on_side x i side))

-- what the filter said of reference r, which is that of part j
module _ (x : ℕ → Circuit) (j from to : ℕ) (w v r : List ℕ) (e : r ≡ (part_numbered x j).reference) where
  said : {b : Bool} → b ≡ in_range from to r && already w r → b ≡ in_range from to (part_numbered x j).reference && already w (part_numbered x j).reference
  said {b} h = subst (λ (r : List ℕ). b ≡ in_range from to r && already w r) e h

  more : Seen x from to w j → Grown w v r (in_range from to r) → Seen x from to v (j + 1)
  more seen h =
      let g = subst (λ (r : List ℕ). Grown w v r (in_range from to r)) e h in
      seen_more x j from to w seen v g.long g.kept (λ p q. g.here q)

pub returns-then-not-present-clause-twice : goal.returns-then-not-present-clause-twice
returns-then-not-present-clause-twice c =
    let a = c.args in
    let x = circuit_at a.circuit.table.now in
    let i = a.circuit.number in
    absent_passed x (2 * i + side_number a.side) a.stems.now.start a.stems.now.end (there x i a.side c.present.ensures ∙ c.if-not-present.true)

pub returns-then-not-may_repeat-clause-twice : goal.returns-then-not-may_repeat-clause-twice
returns-then-not-may_repeat-clause-twice c =
    let a = c.args in
    let x = circuit_at a.circuit.table.now in
    let i = a.circuit.number in
    not_repeated x (2 * i + side_number a.side) a.stems.now.start a.stems.now.end a.w.now c.requires
    (sym (said x _ a.stems.now.start a.stems.now.end a.w.now a.w.now _ (read x i a.side c.reference-r.ensures) c.may_repeat.ensures.lit) ∙ c.if-not-may_repeat.true)

pub returns-then-not-may_repeat-clause-words : goal.returns-then-not-may_repeat-clause-words
returns-then-not-may_repeat-clause-words c =
    let a = c.args in
    let x = circuit_at a.circuit.table.now in
    let i = a.circuit.number in
    more x (2 * i + side_number a.side) a.stems.now.start a.stems.now.end a.w.now _ _ (read x i a.side c.reference-r.ensures) c.requires c.may_repeat.ensures.words

pub returns-clause-twice : goal.returns-clause-twice
returns-clause-twice c =
    let a = c.args in
    let x = circuit_at a.circuit.table.now in
    let i = a.circuit.number in
    let j = 2 * i + side_number a.side in
    let r = (part_numbered x j).reference in
    let was = read x i a.side c.reference-r.ensures in
    let here = there x i a.side c.present.ensures ∙ c.if-not-present.false in
    let ranged = and_left (in_range a.stems.now.start a.stems.now.end r) (already a.w.now r) (sym (said x j a.stems.now.start a.stems.now.end a.w.now a.w.now _ was c.may_repeat.ensures.lit) ∙ c.if-not-may_repeat.false) in
    and_on (in_range a.stems.now.start a.stems.now.end r) (repeated x j) (sym ranged) refl (c.stands_before.ensures ∙ ap (λ (r : List ℕ). stands_to x r j) was ∙ by_search x j here)

pub returns-clause-words : goal.returns-clause-words
returns-clause-words c =
    let a = c.args in
    let x = circuit_at a.circuit.table.now in
    let i = a.circuit.number in
    more x (2 * i + side_number a.side) a.stems.now.start a.stems.now.end a.w.now _ _ (read x i a.side c.reference-r.ensures) c.requires c.may_repeat.ensures.words
