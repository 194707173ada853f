-- The numbers, then the two parties; the octets of the record say how long they are.
use Rattle.std.proofs.Common.{◌≡◌, ℕ, get_or, rules, arith, Fits, w8}
use Rattle.lines.specs.Extended.{extended}
use Rattle.lines.specs.Event.{line}
use Rattle.lines.proofs.Extended.{parts, begun}
use Rattle.lines.proofs.Lengths.{line-length}
use Rattle.lines.proofs.event.line.Goals as goal

pub returns : goal.returns
unfolding line
returns c =
    let a = c.args in
    let octet : (i : ℕ) → Fits w8 (get_or a.a i 0) = λ i. search rules in
    let short = line-length a.a (λ i. (octet i).fits) a.n in
    let all : c.put.new.self ≡ extended c.new-text.result (line a.n a.a) = grind (arith, parts) in
    let whole = begun c.new-text.result c.put.new.self (line a.n a.a) all c.new-text.ensures.at (omega (arith, short)) in
    record { text = search rules; end = omega (arith, short) }
