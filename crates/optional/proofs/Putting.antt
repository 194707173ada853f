-- What is written: a parameter, and where the second pass stands, by what was written so far and what still comes.
use Prim.Native.Nat.{ℕ, ◌+◌, ◌-◌, ◌≤◌, ◌<◌}
use mathlib.Core.Path.{◌≡◌, refl, sym, ap, ap₂, ◌∙◌}
use mathlib.Core.Logic.{◌≢◌, inl, inr}
use mathlib.Core.Bool.{Bool, true, cond}
use mathlib.Core.List.{List, [], ◌∷◌, ◌++◌, map, append_assoc}
use native.Mathlib.Nat.{zero-add, add-zero}
use native.Mathlib.Omega.{arith}
use Rattle.std.specs.Prelude.{Option, Some, None, IsSome}
use lib.ListN.{length, get_or, set, length-append, length-set}
use lib.Seq.{get_or-set_same, get_or-set_other, ext_get_or}
use lib.Dec.{ltb}
use borrow.Author.Tests.{eq-eqb, ne_eqb, ltb-true, ltb-false}
use Rattle.octets.specs.Span.{put}
use Rattle.octets.proofs.Tests.{by_so, by_eq, and_left, and_right}
use Rattle.octets.proofs.Spans.{length-put, put_on, put_off, put-put}
use Rattle.rules.specs.Fields.{level_in, lfb_in}
use Rattle.fields.specs.Precedence.{first_octet, spareless}
use Rattle.optional.specs.declared.list.Entry.{Entry}
use Rattle.optional.specs.List.{Item, items, item_of, item, entries}
use Rattle.optional.specs.Write.{octets_of, part_of, sound, all_sound}
use Rattle.optional.specs.Survey.{Writable}
use Rattle.optional.proofs.Entries.{entries_whole}
use Rattle.optional.proofs.Written.{plain-length, part_room, more_room}

-- ---- a parameter
-- an octet that is written over the first of those that were written
module _ (t : List ℕ) (o : ℕ) (v : List ℕ) (x : ℕ) (f : o + length v ≤ length t) (h : 0 < length v) where
  elsewhere : (j : ℕ) → j ≢ o → get_or (put t o v) j 0 ≡ get_or (put t o (set v 0 x)) j 0
  elsewhere j ne =
      let n = length-set v 0 x in
      by_so (ltb j o)
      (λ l.
      let k = ltb-true j o l in
      let p = put_off t o v j 1 (inr (omega arith)) 0 (omega arith) in
      let q = put_off t o (set v 0 x) j 1 (inr (omega arith)) 0 (omega arith) in
      let e : j + 0 ≡ j = add-zero j in
      ap (λ (n : ℕ). get_or (put t o v) n 0) (sym e) ∙ p ∙ sym q ∙ ap (λ (n : ℕ). get_or (put t o (set v 0 x)) n 0) e)
      (λ l.
      let k = ltb-false j o l in
      let d = j - o in
      let e : o + d ≡ j = omega arith in
      by_so (ltb d (length v))
      (λ m.
      let i = ltb-true d (length v) m in
      let p = put_on t o v f d i in
      let q = put_on t o (set v 0 x) (omega arith) d (omega arith) in
      let z : 0 + d ≡ d = zero-add d in
      let s = get_or-set_other v 0 d x 0 (omega arith) in
      ap (λ (n : ℕ). get_or (put t o v) n 0) (sym e) ∙ p ∙ ap (λ (n : ℕ). get_or v n 0) z ∙ sym s ∙ ap (λ (n : ℕ). get_or (set v 0 x) n 0) (sym z)
      ∙ sym q ∙ ap (λ (n : ℕ). get_or (put t o (set v 0 x)) n 0) e)
      (λ m.
      let i = ltb-false d (length v) m in
      let p = put_off t o v j 1 (inl (omega arith)) 0 (omega arith) in
      let q = put_off t o (set v 0 x) j 1 (inl (omega arith)) 0 (omega arith) in
      let z : j + 0 ≡ j = add-zero j in
      ap (λ (n : ℕ). get_or (put t o v) n 0) (sym z) ∙ p ∙ sym q ∙ ap (λ (n : ℕ). get_or (put t o (set v 0 x)) n 0) z))

  here : x ≡ get_or (put t o (set v 0 x)) o 0
  here =
      let n = length-set v 0 x in
      let q = put_on t o (set v 0 x) (omega arith) 0 (omega arith) in
      sym (get_or-set_same v 0 x 0 h) ∙ sym q ∙ ap (λ (n : ℕ). get_or (put t o (set v 0 x)) n 0) (add-zero o)

  put-over : set (put t o v) o x ≡ put t o (set v 0 x)
  put-over =
      let long = length-put t o v in
      ext_get_or 0 (set (put t o v) o x) (put t o (set v 0 x)) (length-set (put t o v) o x ∙ long ∙ sym (length-put t o (set v 0 x)))
      (λ j _.
      by_eq j o
      (λ e. ap (λ (n : ℕ). get_or (set (put t o v) o x) n 0) e ∙ get_or-set_same (put t o v) o x 0 (omega arith) ∙ here
      ∙ ap (λ (n : ℕ). get_or (put t o (set v 0 x)) n 0) (sym e))
      (λ ne. get_or-set_other (put t o v) o j x 0 ne ∙ elsewhere j ne))

-- its name, how many octets of contents it has, and these
module _ (b : List ℕ) (to : ℕ) (i : Item) (fits : to + 2 + length i.contents ≤ length b) where
  abbrev head : List ℕ
  head = i.name ∷ length i.contents ∷ []

  pub other : i.name ≢ 58 → put (put b to head) (to + 2) i.contents ≡ put b to (octets_of i)
  other n =
      put-put b to head i.contents
      ∙ ap (λ (c : List ℕ). put b to (head ++ c)) (sym (ap (λ (t : Bool). cond t (spareless i.contents) i.contents) (ne_eqb i.name 58 n)))

  pub precedence : i.name ≡ 58 → length i.contents ≡ 6
      → set (put (put b to head) (to + 2) i.contents) (to + 2) (first_octet (lfb_in (get_or i.contents 0 0)) (level_in (get_or i.contents 0 0))) ≡ put b to (octets_of i)
  precedence n six =
      let first = first_octet (lfb_in (get_or i.contents 0 0)) (level_in (get_or i.contents 0 0)) in
      let k = length-put b to head in
      put-over (put b to head) (to + 2) i.contents first (omega arith) (omega arith)
      ∙ put-put b to head (spareless i.contents)
      ∙ ap (λ (c : List ℕ). put b to (head ++ c)) (sym (ap (λ (t : Bool). cond t (spareless i.contents) i.contents) (eq-eqb i.name 58 n)))

-- ---- the list
module _ (b l : List ℕ) where
  -- es still come, and u has what was written, up to a place
  pub record Stands (es : List (Option Item)) (u : List ℕ) (to : ℕ) : Type 0 where
    pub still : List Item
    pub coming : es ≡ map Some still
    pub is_sound : all_sound still ≡ true
    pub front : List ℕ
    pub rest : front ++ part_of still ≡ part_of (items l)
    pub written : u ≡ put b 0 front
    pub reached : to ≡ length front

  pub begins : Writable b l → (m : List ℕ) → m ≡ l → Stands (entries m) b 0
  begins w m e =
      record {
        still = items l;
        coming = ap entries e ∙ entries_whole l w.is_whole;
        is_sound = w.is_sound;
        front = [];
        rest = refl;
        written = refl;
        reached = refl;
      }

  -- what a turn needs of the parameter i that comes, and what it leaves
  pub record Turn (es : List (Option Item)) (u : List ℕ) (to : ℕ) (i : Item) : Type 0 where
    pub sounds : sound i ≡ true
    pub fits : to + 2 + length i.contents ≤ length u
    pub again : (v : List ℕ) (at : ℕ) → v ≡ put u to (octets_of i) → at ≡ to + 2 + length i.contents → Stands es v at

  pub turn : Writable b l → (es fs : List (Option Item)) (u : List ℕ) (to : ℕ) → Stands es u to
      → (x : Option Entry) (e : Entry) → x ≡ Some e → es ≡ item x ∷ fs → Turn fs u to (item_of e)
  turn w es fs u to st x e n h = go st.still (sym st.coming ∙ h ∙ ap (λ (y : Option Entry). item y ∷ fs) n) st.is_sound st.rest
    where
      go : (is : List Item) → map Some is ≡ Some (item_of e) ∷ fs → all_sound is ≡ true → st.front ++ part_of is ≡ part_of (items l) → Turn fs u to (item_of e)
      go [] m s r = cc
      go (j ∷ js) m s r =
          let i = item_of e in
          let same : j ≡ i = cc in
          let others : fs ≡ map Some js = cc in
          let v = st.front in
          let o = octets_of i in
          let part : v ++ (o ++ part_of js) ≡ part_of (items l) = ap (λ (k : Item). v ++ (octets_of k ++ part_of js)) (sym same) ∙ r in
          let n = plain-length i in
          let whole = ap length part ∙ part_room (items l) in
          let front = length-append v (o ++ part_of js) in
          let back = length-append o (part_of js) in
          let more = part_room js in
          let one = more_room js in
          let room = w.fits in
          let to_is = st.reached in
          let size = ap length st.written ∙ length-put b 0 v in
          record {
            sounds = ap sound (sym same) ∙ and_left (sound j) (all_sound js) s;
            fits = omega (arith, n, whole, front, back, more, one, room, to_is, size);
            again = λ t at f g.
                record {
                  still = js;
                  coming = others;
                  is_sound = and_right (sound j) (all_sound js) s;
                  front = v ++ o;
                  rest = append_assoc v o (part_of js) ∙ part;
                  written = f ∙ ap₂ (λ (x : List ℕ) (p : ℕ). put x p o) st.written (to_is ∙ sym (zero-add (length v))) ∙ put-put b 0 v o;
                  reached = let a = length-append v o in omega (arith, g, n, to_is, a);
                };
          }

  -- a whole list has no parameter that is cut short
  pub comes : (es fs : List (Option Item)) (u : List ℕ) (to : ℕ) → Stands es u to → (x : Option Entry) → es ≡ item x ∷ fs → IsSome x
  comes es fs u to st x e = go x st.still (sym st.coming ∙ e)
    where
      go : (x : Option Entry) (is : List Item) → map Some is ≡ item x ∷ fs → IsSome x
      go (Some k) is m = refl
      go None [] m = cc
      go None (j ∷ js) m = cc

  -- behind the last parameter there is room for the end, and with it the part is written
  module _ (w : Writable b l) (es : List (Option Item)) (u : List ℕ) (to : ℕ) (st : Stands es u to) (none : es ≡ []) where
    all_of_it : st.front ++ (0 ∷ []) ≡ part_of (items l)
    all_of_it = go st.still (sym none ∙ st.coming) st.rest
      where
        go : (is : List Item) → [] ≡ map Some is → st.front ++ part_of is ≡ part_of (items l) → st.front ++ (0 ∷ []) ≡ part_of (items l)
        go [] m r = r
        go (j ∷ js) m r = cc

    pub last_fits : to < length u
    last_fits =
        let n = ap length all_of_it ∙ part_room (items l) in
        let a = length-append st.front (0 ∷ []) in
        let r = w.fits in
        let t = st.reached in
        let z = ap length st.written ∙ length-put b 0 st.front in
        omega (arith, n, a, r, t, z)

    pub ends : set u to 0 ≡ put b 0 (part_of (items l))
    ends =
        (λ i. set (st.written i) (sym (add-zero to) i) 0)
        ∙ ap (λ (p : ℕ). put (put b 0 st.front) p (0 ∷ [])) (st.reached ∙ sym (zero-add (length st.front)))
        ∙ put-put b 0 st.front (0 ∷ []) ∙ ap (put b 0) all_of_it
