-- A part of a row of octets that was lent, written and back.
use Prim.Native.Nat.{ℕ, zero, suc, ◌+◌, ◌≤◌, ◌<◌}
use mathlib.Core.Path.{◌≡◌, sym, ap, ◌∙◌}
use mathlib.Core.List.{List, [], ◌∷◌, ◌++◌}
use native.Mathlib.Omega.{arith}
use lib.ListN.{length, get_or, set, take, drop, length-take, length-drop}
use lib.Seq.{length-take-le, set-append_left}
use borrow.Rule.Slice.PartMut.{mid_of, post_of, put_mid, put_same}
use Rattle.octets.specs.Span.{put_to, put}
use Rattle.octets.proofs.Spans.{length-put_to}

set_after : (xs ys : List ℕ) (n i x : ℕ) → length xs ≡ n → set (xs ++ ys) (n + i) x ≡ xs ++ set ys i x
set_after [] ys n i x e = ap (λ (k : ℕ). set ys k x) (omega arith)
set_after (y ∷ xs) ys zero i x e = absurd (omega arith)
set_after (y ∷ xs) ys (suc n) i x e =
    let place : suc n + i ≡ suc (n + i) = omega arith in
    ap (λ (k : ℕ). set (y ∷ xs ++ ys) k x) place ∙ ap (λ (l : List ℕ). y ∷ l) (set_after xs ys n i x (omega arith))

module _ (t : List ℕ) (a m : ℕ) (v : List ℕ) where
  part_to : (k : ℕ) → a + k ≤ length t → k ≤ m → put_mid a m t (put_to (mid_of a m t) 0 v k) ≡ put_to t a v k
  part_to zero f l = put_same a m t
  part_to (suc k) f l =
      let part = put_to (mid_of a m t) 0 v k in
      let x = get_or v k 0 in
      let room : k < length part = omega (arith, length-put_to (mid_of a m t) 0 v k, length-take m (drop a t), length-drop a t) in
      let place : 0 + k ≡ k = omega arith in
      ap (λ (j : ℕ). put_mid a m t (set part j x)) place
      ∙ ap (λ (l : List ℕ). take a t ++ l) (sym (set-append_left part (post_of a m t) k x room))
      ∙ sym (set_after (take a t) (part ++ post_of a m t) a k x (length-take-le a t (omega arith)))
      ∙ ap (λ (l : List ℕ). set l (a + k) x) (part_to k (omega arith) (omega arith))

  -- what was written at the start of the part stands in the whole from the part's place on
  pub part-put : a + length v ≤ length t → length v ≤ m → put_mid a m t (put (mid_of a m t) 0 v) ≡ put t a v
  part-put f l = part_to (length v) f l
