-- The holder or the reservation of the circuit repeats, or the loop goes on, or none repeated.
use Rattle.std.proofs.Common.{◌≡◌, ℕ, ◌+◌, ◌*◌, Bool, false, sym, ap, ◌∙◌, subst, arith, add-zero, below_more}
use Rattle.rules.specs.declared.circuit.Circuit.{Circuit}
use Rattle.rules.specs.Records.{circuit_at, circuits}
use Rattle.references.specs.Filter.{repeated_in, Seen}
use Rattle.rules.proofs.Searches.{first_of, first_none}
use Rattle.references.proofs.pass.Goals as goal

-- what the note on part k said, of the part by its other number
said : (x : ℕ → Circuit) (from to : ℕ) {k m : ℕ} → k ≡ m → {b c : Bool} → b ≡ repeated_in from to x k → b ≡ c → repeated_in from to x m ≡ c
said x from to e s t = ap (repeated_in from to x) (sym e) ∙ sym s ∙ t

pub returns-then-note : goal.returns-then-note
returns-then-note c =
    let a = c.args in
    let i = c.loop-number.number in
    let n = c.count-number-end.ensures in
    sym
    (first_of (repeated_in a.stems.now.start a.stems.now.end (circuit_at a.t.now)) (2 * circuits a.t.now) (2 * i) (omega arith) c.loop-number.invariant.0
    (said (circuit_at a.t.now) a.stems.now.start a.stems.now.end (add-zero (2 * i)) c.note.ensures.twice c.if-note.true))

pub returns-then-note-2 : goal.returns-then-note-2
returns-then-note-2 c =
    let a = c.args in
    let x = circuit_at a.t.now in
    let i = c.loop-number.number in
    let past = below_more (λ (j : ℕ). repeated_in a.stems.now.start a.stems.now.end x j ≡ false) (2 * i) c.loop-number.invariant.0 (said x a.stems.now.start a.stems.now.end (add-zero (2 * i)) c.note.ensures.twice c.if-note.false) in
    let n = c.count-number-end.ensures in
    sym (first_of (repeated_in a.stems.now.start a.stems.now.end x) (2 * circuits a.t.now) (2 * i + 1) (omega arith) past (sym c.note-in-loop-number.ensures.twice ∙ c.if-note-2.true))

pub loop-number-preserved : goal.loop-number-preserved
loop-number-preserved c =
    let a = c.args in
    let x = circuit_at a.t.now in
    let i = c.loop-number.number in
    let past = below_more (λ (j : ℕ). repeated_in a.stems.now.start a.stems.now.end x j ≡ false) (2 * i) c.loop-number.invariant.0 (said x a.stems.now.start a.stems.now.end (add-zero (2 * i)) c.note.ensures.twice c.if-note.false) in
    let next : 2 * i + 1 + 1 ≡ 2 * (i + 1) + 0 = omega arith in (
      (λ j l. below_more (λ (j : ℕ). repeated_in a.stems.now.start a.stems.now.end x j ≡ false) (2 * i + 1) past (sym c.note-in-loop-number.ensures.twice ∙ c.if-note-2.false) j (omega arith)),
      subst (Seen x a.stems.now.start a.stems.now.end _) next c.note-in-loop-number.ensures.words,
    )

pub returns : goal.returns
returns c =
    let a = c.args in
    let n = c.count-number-end.ensures in
    sym (first_none (repeated_in a.stems.now.start a.stems.now.end (circuit_at a.t.now)) (2 * circuits a.t.now) (λ j l. c.loop-number.invariant.0 j (omega arith)))
