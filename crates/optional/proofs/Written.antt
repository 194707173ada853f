-- Laws of what is written: how long it is, where it stands in the buffer, what the writer's tests give, and that precedence without its spare bits
-- says the same.
use Prim.Native.Nat.{ℕ, ◌+◌, ◌-◌, ◌/◌, ◌%◌, ◌≤◌, ◌<◌}
use mathlib.Core.Path.{◌≡◌, refl, sym, ap, ap₂, ◌∙◌}
use mathlib.Core.Logic.{inl}
use mathlib.Core.Bool.{Bool, true, false, cond}
use mathlib.Core.List.{List, [], ◌∷◌, ◌++◌}
use native.Mathlib.Nat.{zero-add, add-zero}
use native.Mathlib.Omega.{arith}
use lib.ListN.{length, get_or, drop, length-append, length-set, length-drop, get_or-append}
use lib.Seq.{get_or-append-add, ext_get_or, get_or-drop}
use lib.Dec.{eqb, leb, ltb}
use borrow.Author.Tests.{leb-true, ltb-true, ltb-false}
use Rattle.octets.specs.Number.{value_high}
use Rattle.octets.specs.Span.{span, put}
use Rattle.octets.proofs.Tests.{by_so, by_test}
use Rattle.octets.proofs.Spans.{length-put, put_on, put_off}
use Rattle.rules.specs.Numbers.{done}
use Rattle.rules.specs.Fields.{level_in, lfb_in, parameter_ok}
use Rattle.fields.specs.Precedence.{first_octet, spareless, digits_of, values_of, read_precedence, refused}
use Rattle.optional.specs.declared.write.Written.{Written}
use Rattle.optional.specs.List.{Item, items, whole}
use Rattle.optional.specs.Write.{is_precedence, plain, part_of, room, all_sound, precedences, write, write_buffer}
use Rattle.optional.specs.Survey.{Writable}

-- ---- a parameter as it is written
-- a parameter is written with as many octets of contents as it has
pub plain-length : (i : Item) → length (plain i).contents ≡ length i.contents
plain-length i = by_test (λ (c : List ℕ). length c ≡ length i.contents) (is_precedence i) _ _ (λ _. length-set i.contents 0 _) (λ _. refl)

-- the two spare bits of octet 1 are not read
spareless-read : (c : List ℕ) → read_precedence (spareless c) ≡ read_precedence c
unfolding read_precedence values_of
spareless-read [] = refl
spareless-read (o ∷ os) =
    let c = o ∷ os in
    let first = first_octet (lfb_in o) (level_in o) in
    let level : level_in first ≡ level_in o = omega arith in
    let high : first / 32 ≡ lfb_in o = omega arith in
    let small : lfb_in o % 4 ≡ lfb_in o = omega arith in
    let lfb : lfb_in first ≡ lfb_in o = ap (λ (n : ℕ). n % 4) high ∙ small in
    ap₂ (λ (l f : ℕ).
    cond (eqb (length c) 6)
    (cond (parameter_ok l f (span c 1 5))
    (record { number = 0; value = record { level = l; lfb = f; digits = digits_of (get_or c 1 0) (get_or c 2 0); service = value_high (span c 3 3) } })
    (refused 22)) (refused 20))
    level lfb

-- precedence is written so that it says what it said
pub plain-read : (i : Item) → read_precedence (plain i).contents ≡ read_precedence i.contents
plain-read i = by_test (λ (c : List ℕ). read_precedence c ≡ read_precedence i.contents) (is_precedence i) _ _ (λ _. spareless-read i.contents) (λ _. refl)

-- ---- the part
-- a part takes the room that is asked for
pub part_room : (is : List Item) → length (part_of is) ≡ room is
part_room [] = refl
part_room (i ∷ is) =
    let k = plain-length i in
    let r = part_room is in
    let a = length-append (plain i).contents (part_of is) in
    omega arith

-- a list needs more octets of room than it has parameters
pub more_room : (is : List Item) → length is < room is
more_room [] = omega arith
more_room (i ∷ is) = let r = more_room is in omega arith

-- behind what is written in front of a buffer all stays
pub behind-put : (b v : List ℕ) (j : ℕ) → length v ≤ j → get_or (put b 0 v) j 0 ≡ get_or b j 0
behind-put b v j q =
    ap (λ (n : ℕ). get_or (put b 0 v) n 0) (sym (add-zero j)) ∙ put_off b 0 v j 1 (inl (omega arith)) 0 (omega arith)
    ∙ ap (λ (n : ℕ). get_or b n 0) (add-zero j)

-- what is written in front of a buffer stands there, and behind it what stood there before
pub in_front : (b v : List ℕ) → length v ≤ length b → put b 0 v ≡ v ++ drop (length v) b
in_front b v f =
    let d = length-drop (length v) b in
    ext_get_or 0 (put b 0 v) (v ++ drop (length v) b) (length-put b 0 v ∙ sym (length-append v (drop (length v) b) ∙ omega arith))
    (λ j _. by_so (ltb j (length v)) (λ t. on j (ltb-true j (length v) t)) (λ t. off j (ltb-false j (length v) t)))
  where
    on : (j : ℕ) → j < length v → get_or (put b 0 v) j 0 ≡ get_or (v ++ drop (length v) b) j 0
    on j q =
        ap (λ (n : ℕ). get_or (put b 0 v) n 0) (sym (zero-add j)) ∙ put_on b 0 v (omega arith) j q ∙ ap (λ (n : ℕ). get_or v n 0) (zero-add j)
        ∙ sym (get_or-append v (drop (length v) b) 0 j q)

    off : (j : ℕ) → length v ≤ j → get_or (put b 0 v) j 0 ≡ get_or (v ++ drop (length v) b) j 0
    off j q =
        let d = j - length v in
        let there : length v + d ≡ j = omega arith in
        behind-put b v j q ∙ ap (λ (n : ℕ). get_or b n 0) (sym there) ∙ sym (get_or-drop (length v) b d 0) ∙ sym (get_or-append-add v (drop (length v) b) d 0)
        ∙ ap (λ (n : ℕ). get_or (v ++ drop (length v) b) n 0) there

-- ---- the writer's tests
-- what is given, by what the four tests say
abbrev pub tested : {A : Type 0} → Bool → Bool → Bool → Bool → A → (ℕ → A) → A
tested p q r t x refuse = cond p (cond q (cond r (cond t x (refuse 63)) (refuse 22)) (refuse 20)) (refuse 20)

module _ (b l : List ℕ) where
  -- what holds where the list is written
  pub record Accepted : Type 0 where
    pub writable : Writable b l
    pub once : precedences (items l) ≤ 1

  -- what holds of what is written, and of each refusal, holds either way
  pub either : (P : Written → List ℕ → Type 0)
      → (Accepted → P (record { number = done; end = room (items l) }) (put b 0 (part_of (items l))))
      → ((k : ℕ) → (k ≡ done → ⊥) → P (record { number = k; end = 0 }) b) → P (write b l) (write_buffer b l)
  unfolding write write_buffer
  either P good bad = go (whole l) (leb (room (items l)) (length b)) (all_sound (items l)) (leb (precedences (items l)) 1) refl refl refl refl
    where
      go : (p q r t : Bool) → whole l ≡ p → leb (room (items l)) (length b) ≡ q → all_sound (items l) ≡ r → leb (precedences (items l)) 1 ≡ t
          → P (tested p q r t (record { number = done; end = room (items l) }) (λ k. record { number = k; end = 0 }))
          (tested p q r t (put b 0 (part_of (items l))) (λ _. b))
      go true true true true hp hq hr ht =
          good (record { writable = record { is_whole = hp; fits = leb-true _ _ hq; is_sound = hr }; once = leb-true _ _ ht })
      go true true true false hp hq hr ht = bad 63 (λ e. omega arith)
      go true true false t hp hq hr ht = bad 22 (λ e. omega arith)
      go true false r t hp hq hr ht = bad 20 (λ e. omega arith)
      go false q r t hp hq hr ht = bad 20 (λ e. omega arith)

  -- of a result w and a buffer v: the list was accepted, its octets stand in front of the buffer, and the end is behind them
  pub record Placed (w : Written) (v : List ℕ) : Type 0 where
    pub accepted : Accepted
    pub end : w.end ≡ room (items l)
    pub buffer : v ≡ part_of (items l) ++ drop (room (items l)) b

  -- where the number is 0, the list was accepted and its octets stand in front of the buffer
  pub placed : (write b l).number ≡ done → Placed (write b l) (write_buffer b l)
  placed =
      either (λ (w : Written) (v : List ℕ). w.number ≡ done → Placed w v)
      (λ a _.
      let v = part_of (items l) in
      let r = part_room (items l) in
      let f = a.writable.fits in
      record { accepted = a; end = refl; buffer = in_front b v (omega arith) ∙ ap (λ (n : ℕ). v ++ drop n b) r })
      (λ k n e. absurd (n e))
