-- The flag and the level, the domain, the reference.
use Rattle.std.proofs.Common.{◌≡◌, ℕ, List, [], ◌∷◌, ◌+◌, ◌++◌, length, ap, ap₂, sym, ◌∙◌, rules, arith}
use lib.ListN.{set}
use Rattle.octets.specs.Span.{put}
use Rattle.octets.proofs.Spans.{put-put, span_all}
use Rattle.rules.specs.Records.{flag}
use Rattle.table.proofs.store_part.Goals as goal

-- a part that is written piece by piece is written whole
pieces : (t : List ℕ) (o f l : ℕ) (d r : List ℕ) → length d ≡ 5 → put (put (set (set t o f) (o + 1) l) (o + 2) d) (o + 7) r ≡ put t o (f ∷ l ∷ (d ++ r))
pieces t o f l d r n =
    let front : set (set t o f) (o + 1) l ≡ put t o (f ∷ l ∷ []) = ap (λ (k : ℕ). set (set t k f) (o + 1) l) (omega arith) in
    let long : o + 7 ≡ o + length (f ∷ l ∷ d) = omega (arith, n) in
    ap₂ (λ (u : List ℕ) (k : ℕ). put u k r) (ap (λ (u : List ℕ). put u (o + 2) d) front ∙ put-put t o (f ∷ l ∷ []) d) long
    ∙ put-put t o (f ∷ l ∷ d) r

pub returns : goal.returns
returns c =
    let p = c.args.p in
    let d : length p.mark.domain ≡ 5 = search rules in
    let r : length p.reference ≡ 5 = search rules in
    c.write-2.ensures
    ∙ ap (λ (u : List ℕ). put u (c.args.o + 7) p.reference) (c.write.ensures ∙ ap (λ (f : ℕ). put (set (set c.args.t.now c.args.o f) (c.args.o + 1) p.mark.level.0) (c.args.o + 2) p.mark.domain) c.flag.ensures)
    ∙ pieces c.args.t.now c.args.o (flag p.present) p.mark.level.0 p.mark.domain p.reference d
    ∙ ap₂ (λ (u v : List ℕ). put c.args.t.now c.args.o (flag p.present ∷ p.mark.level.0 ∷ (u ++ v))) (sym (span_all p.mark.domain 5 d)) (sym (span_all p.reference 5 r))
