-- Each lamp moves those above it up by one bit.
use mir.Val.{bool_byte}
use Rattle.std.proofs.Common.{◌≡◌, ℕ, ◌+◌, ◌-◌, ◌*◌, ◌<◌, min, Bool, true, false, cond, sym, ap, ◌∙◌, arith}
use Rattle.rules.specs.Records.{circuit_at, circuits}
use Rattle.lamps.specs.Lamps.{lit_at}
use Rattle.lamps.proofs.Words.{word_more, word_room}
use Rattle.lamps.proofs.Lit.{lit_below, lit-above}
use Rattle.lamps.proofs.word.Goals as goal

-- the bit of a lamp
digit : (on : Bool) {d : ℕ} → d ≡ bool_byte on → (d ≡ cond on 1 0) × (d < 2)
digit true e = (e, omega arith)
digit false e = (e, omega arith)

pub loop-i-init : goal.loop-i-init
loop-i-init c =
    let a = c.args in
    let n = circuits a.t.now in
    lit-above (circuit_at a.t.now) n (64 * a.j) c.min-i.result
    (c.min-i.ensures ∙ ap (λ (m : ℕ). min m 64) (c.saturating_sub.ensures ∙ ap (λ (m : ℕ). m - 64 * a.j) c.count.ensures))

pub overflow_mul-w : goal.overflow_mul-w
overflow_mul-w c = let l = c.loop-i in record { fits = omega (arith, word_room _ _ l.i (omega arith) (omega arith) l.invariant) }

pub overflow_add-w : goal.overflow_add-w
overflow_add-w c =
    let l = c.loop-i in
    record { fits = omega (arith, (digit c.free.result c.from.ensures).1, word_room _ _ l.i (omega arith) (omega arith) l.invariant) }

pub loop-i-preserved : goal.loop-i-preserved
loop-i-preserved c =
    let l = c.loop-i in
    let a = c.args in
    let t = a.t.now in
    let at = 64 * a.j + (l.i - 1) in
    let on : c.free.result ≡ lit_at t at = c.free.ensures ∙ sym (lit_below (circuit_at t) (circuits t) at (omega arith)) in
    let lamp = (digit c.free.result c.from.ensures).0 ∙ ap (λ (b : Bool). cond b 1 0) on in
    ap (λ (d : ℕ). 2 * l.w + d) lamp ∙ word_more (lit_at t) (64 * a.j) l.i (omega arith) (omega arith) l.invariant
