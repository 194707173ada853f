-- The library's words for a part of a slice and for two rows of octets, as `span` and `same`.
use Prim.Native.Nat.{ℕ, ◌+◌, ◌-◌, ◌*◌, ◌≤◌, ◌<◌}
use native.Mathlib.Nat.{zero-add}
use mathlib.Core.Path.{◌≡◌, refl, sym, ap, ap₂, ◌∙◌}
use mathlib.Core.Bool.{Bool, false, ◌&&◌}
use mathlib.Core.List.{List, [], ◌∷◌, ◌++◌}
use native.Mathlib.Omega.{arith}
use lib.Dec.{eqb}
use lib.ListN.{length, get_or, replicate}
use lib.Pointwise.{pointwise}
use lib.Seq.{ext_get_or}
use borrow.Author.Tests.{eq-eqb}
use Rattle.std.specs.List.{between}
use Rattle.std.proofs.lemmas.List.Edits.{length-between, get_or-between}
use Rattle.octets.specs.Same.{same}
use Rattle.octets.specs.Span.{span, number, zeros}
use Rattle.octets.proofs.Tests.{not_so}
use Rattle.octets.proofs.Sames.{same_true}
use Rattle.octets.proofs.Width.{value-one}
use Rattle.octets.proofs.Spans.{length-span, span_at, span_all, span-append, octets-each}

-- a part of a slice
pub span_between : (t : List ℕ) (o e w : ℕ) → e ≡ o + w → e ≤ length t → between o e t ≡ span t o w
span_between t o e w d h =
    let n : length (between o e t) ≡ w = length-between t o e h ∙ omega arith in
    ext_get_or 0 (between o e t) (span t o w) (n ∙ sym (length-span t o w))
    (λ i l. get_or-between t o e i 0 (omega arith) ∙ sym (span_at t o w i (omega arith)))

-- two arrays
pub same_pointwise : (a b : List ℕ) → pointwise eqb a b ≡ same a b
same_pointwise [] [] = refl
same_pointwise [] (y ∷ ys) = refl
same_pointwise (x ∷ xs) [] = refl
same_pointwise (x ∷ xs) (y ∷ ys) = ap (λ (t : Bool). eqb x y && t) (same_pointwise xs ys)

-- a part and as many zeros
zeros_same : (l : List ℕ) → same l (replicate (length l) 0) ≡ zeros l
zeros_same [] = refl
zeros_same (b ∷ bs) = ap (λ (t : Bool). eqb b 0 && t) (zeros_same bs)

pub zero_part : (t : List ℕ) (o w : ℕ) → same (span t o w) (replicate w 0) ≡ zeros (span t o w)
zero_part t o w = ap (λ (n : ℕ). same (span t o w) (replicate n 0)) (sym (length-span t o w)) ∙ zeros_same (span t o w)

-- ---- two rows that are as long
-- rows that begin alike are the same where the rests are
same_after : (p a b : List ℕ) → same (p ++ a) (p ++ b) ≡ same a b
same_after [] a b = refl
same_after (x ∷ p) a b = ap (λ (t : Bool). t && same (p ++ a) (p ++ b)) (eq-eqb x x refl) ∙ same_after p a b

module _ (a b : List ℕ) where
  abbrev pub Alike : ℕ → Type 0  -- the first k octets of the one are those of the other
  Alike k = span a 0 k ≡ span b 0 k

  -- four octets more
  pub alike_more : ((i : ℕ) → get_or a i 0 < 256) → ((i : ℕ) → get_or b i 0 < 256) → (k : ℕ) → Alike (4 * k) → number a (4 * k) 4 ≡ number b (4 * k) 4 → Alike (4 * (k + 1))
  alike_more p q k h e =
      let more : 4 * (k + 1) ≡ 4 * k + 4 = omega arith in
      let one = value-one (span a (0 + 4 * k) 4) (span b (0 + 4 * k) 4) (octets-each a p (0 + 4 * k) 4) (octets-each b q (0 + 4 * k) 4) (length-span a (0 + 4 * k) 4 ∙ sym (length-span b (0 + 4 * k) 4)) in
      let at : 0 + 4 * k ≡ 4 * k = omega arith in
      ap (span a 0) more ∙ span-append a 0 (4 * k) 4
      ∙ ap₂ (λ (u v : List ℕ). u ++ v) h (one (ap (λ (o : ℕ). number a o 4) at ∙ e ∙ ap (λ (o : ℕ). number b o 4) (sym at)))
      ∙ sym (ap (span b 0) more ∙ span-append b 0 (4 * k) 4)

  -- where the numbers differ, so do the rows
  pub same_unlike : (o : ℕ) → (number a o 4 ≡ number b o 4 → ⊥) → false ≡ same a b
  same_unlike o ne = sym (not_so (same a b) (λ h. ne (ap (λ (l : List ℕ). number l o 4) (same_true a b h))))

  -- where the first octets are alike, the others decide
  pub same_rest : (n m : ℕ) → length a ≡ n → length b ≡ n → m ≤ n → Alike m → pointwise eqb (between m n a) (between m n b) ≡ same a b
  same_rest n m p q l h =
      let whole : m + (n - m) ≡ n = omega arith in
      let parted = λ (t : List ℕ) (e : length t ≡ n). sym (span_all t n e) ∙ ap (span t 0) (sym whole) ∙ span-append t 0 m (n - m) in
      let rest = λ (t : List ℕ) (e : length t ≡ n). span_between t m n (n - m) (sym whole) (omega arith) ∙ ap (λ (o : ℕ). span t o (n - m)) (sym (zero-add m)) in
      same_pointwise (between m n a) (between m n b)
      ∙ ap₂ same (rest a p) (rest b q)
      ∙ sym (same_after (span a 0 m) (span a (0 + m) (n - m)) (span b (0 + m) (n - m)))
      ∙ ap₂ same (sym (parted a p)) (ap (λ (u : List ℕ). u ++ span b (0 + m) (n - m)) h ∙ sym (parted b q))
