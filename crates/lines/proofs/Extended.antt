-- What is copied into a buffer as far as it has room, and a text that is written after another.
use Prim.Native.Nat.{ℕ, zero, suc, ◌+◌, ◌-◌, ◌≤◌}
use mathlib.Core.Path.{◌≡◌, sym, ap, ap₂, ◌∙◌}
use mathlib.Core.List.{List, [], ◌++◌, append-nil}
use native.Mathlib.Omega.{arith}
use lib.Dec.{ltb, leb}
use lib.ListN.{length, take, drop, get_or, set, length-append}
use lib.Seq.{take-nil, paste, paste-zero, paste-suc, take-append-add}
use borrow.Author.Tests.{ltb-true, ltb-false, leb-true, leb-false}
use Rattle.std.specs.Prelude.{min}
use Rattle.std.proofs.lemmas.List.{set_past, take-take, take_all, take-append-le, length-take}
use Rattle.octets.specs.Span.{put_to, put}
use Rattle.octets.proofs.Tests.{by_so}
use Rattle.octets.proofs.Spans.{length-put_to, put-put}
use Rattle.lines.specs.declared.text.Text.{Text}
use Rattle.lines.specs.Text.{Written}
use Rattle.lines.specs.Extended.{extended, most}

-- of k octets that are written from octet o on, those that have room are written
cut : (t : List ℕ) (o : ℕ) (v : List ℕ) (k : ℕ) → k ≤ length v → put_to t o v k ≡ paste t (min o (length t)) v (min k (length t - o))
cut t o v zero h =
    let none : 0 ≡ min 0 (length t - o) = omega arith in
    paste-zero t (min o (length t)) v ∙ ap (paste t (min o (length t)) v) none
cut t o v (suc k) h =
    let before = cut t o v k (omega arith) in
    by_so (ltb (o + k) (length t))
    (λ e. let l = ltb-true (o + k) (length t) e in
    let a : min o (length t) ≡ o = omega arith in
    let n : min k (length t - o) ≡ k = omega arith in
    let m : suc k ≡ min (suc k) (length t - o) = omega arith in
    ap (λ (u : List ℕ). set u (o + k) (get_or v k 0)) (before ∙ ap₂ (λ (p q : ℕ). paste t p v q) a n) ∙ paste-suc t o v k 0 l h
    ∙ ap₂ (λ (p q : ℕ). paste t p v q) (sym a) m)
    (λ e. let l = ltb-false (o + k) (length t) e in
    let same : min k (length t - o) ≡ min (suc k) (length t - o) = omega arith in
    set_past (put_to t o v k) (o + k) (get_or v k 0) (omega (arith, length-put_to t o v k)) ∙ before
    ∙ ap (paste t (min o (length t)) v) same)

-- what has room of v is what is written of it
pub fitted : (t : List ℕ) (o : ℕ) (v : List ℕ) (a n : ℕ) → length t ≤ most → a ≡ min o (length t) → n ≡ min (length v) (length t - a) → put t a (take n v) ≡ put t o (take (most - o) v)
fitted t o v a n h e f =
    let all = take (most - o) v in
    let part = take n v in
    let near : min a (length t) ≡ a = omega arith in
    let fits : min (length part) (length t - a) ≡ n = omega (arith, length-take n v) in
    let whole : min (length all) (length t - o) ≡ n = omega (arith, length-take (most - o) v) in
    cut t a part (length part) (omega arith) ∙ ap₂ (λ (p q : ℕ). paste t p part q) near fits
    ∙ ap (λ (l : List ℕ). take a t ++ l ++ drop (a + n) t) (take-take n n v (omega arith) ∙ sym (take-take n (most - o) v (omega arith)))
    ∙ ap₂ (λ (p q : ℕ). paste t p all q) e (sym whole) ∙ sym (cut t o all (length all) (omega arith))

-- what can be counted of two parts, one after the other
counted : (o : ℕ) (v w : List ℕ) → let more = take (most - o) v in more ++ take (most - (o + length more)) w ≡ take (most - o) (v ++ w)
counted o v w =
    by_so (leb (o + length v) most)
    (λ e. let fits = leb-true (o + length v) most e in
    let rest = most - (o + length v) in
    let room : length v + rest ≡ most - o = omega arith in
    ap (λ (l : List ℕ). l ++ take (most - (o + length l)) w) (take_all (most - o) v (omega arith))
    ∙ sym (take-append-add v w rest) ∙ ap (λ (q : ℕ). take q (v ++ w)) room)
    (λ e. let past = leb-false (o + length v) most e in
    let none : most - (o + length (take (most - o) v)) ≡ 0 = omega (arith, length-take (most - o) v) in
    ap (λ (q : ℕ). take (most - o) v ++ take q w) none ∙ append-nil (take (most - o) v)
    ∙ sym (take-append-le (most - o) v w (omega arith)))

pub twice : (t : Text) (v w : List ℕ) → extended (extended t v) w ≡ extended t (v ++ w)
unfolding extended
twice t v w =
    let more = take (most - t.at) v in
    let then = take (most - (t.at + length more)) w in
    let whole = counted t.at v w in
    let end : t.at + length more + length then ≡ t.at + length (take (most - t.at) (v ++ w)) = omega (arith, length-append more then, ap length whole) in
    ap₂ (λ (l : List ℕ) (n : ℕ). record { out = record t.out { now = l }; at = n }) (put-put t.out.now t.at more then ∙ ap (put t.out.now t.at) whole) end

pub nothing : (t : Text) → t ≡ extended t []
unfolding extended
nothing t =
    let same : t.at ≡ t.at + 0 = omega arith in
    ap (λ (n : ℕ). record { out = t.out; at = n }) same
    ∙ ap (λ (l : List ℕ). record { out = record t.out { now = put t.out.now t.at l }; at = t.at + length l }) (sym (take-nil (most - t.at)))

pub ruleset parts = (twice, nothing)

-- a text of so many letters, that is written from the beginning of a buffer
pub begun : (t s : Text) (v : List ℕ) → s ≡ extended t v → t.at ≡ 0 → length v ≤ most → (s.out.ghost_name ≡ t.out.ghost_name) × Written t.out.now 0 v s.out.now s.at
unfolding extended
begun t s v is e h =
    let all = take_all (most - t.at) v (omega arith) in
    let content = ap₂ (λ (o : ℕ) (l : List ℕ). put t.out.now o l) e all in
    (ap (λ (x : Text). x.out.ghost_name) is, record { content = ap (λ (x : Text). x.out.now) is ∙ content; end = omega (arith, ap (λ (x : Text). x.at) is, ap length all) })
