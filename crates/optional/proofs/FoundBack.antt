-- Precedence is found in what was written exactly if the list has it, at its place and with its values, and the part ends where the writer says.
use Prim.Native.Nat.{ℕ, ◌+◌, ◌≤◌}
use mathlib.Core.Path.{◌≡◌, refl, sym, ap, ◌∙◌}
use mathlib.Core.Bool.{Bool, true, false, cond}
use mathlib.Core.List.{List, [], ◌∷◌}
use native.Mathlib.Nat.{zero-add}
use native.Mathlib.Omega.{arith}
use borrow.Author.Tests.{eqb-true}
use Rattle.octets.proofs.Tests.{by_so, if_true, if_false, if_eq, if_ne}
use Rattle.rules.specs.Numbers.{done}
use Rattle.fields.specs.declared.precedence.Precedence.{Precedence}
use Rattle.fields.specs.Precedence.{read_precedence}
use Rattle.optional.specs.declared.part.Parameter.{Parameter}
use Rattle.optional.specs.Search.{Search}
use Rattle.optional.specs.Part.{end_name, precedence_name, stopped, contents}
use Rattle.optional.specs.Search.{begun, taken, noted, judged, find}
use Rattle.optional.specs.List.{Item, items}
use Rattle.optional.specs.Write.{is_precedence, plain, room, sound, precedences, write_buffer}
use Rattle.optional.specs.Claims.{start_in, value_in, FoundBack}
use Rattle.optional.proofs.Written.{plain-read, placed}
use Rattle.optional.proofs.Through.{stood, met}
use Rattle.optional.proofs.Sound.{named, read_well}

-- the search that took the precedence i at a place
abbrev took : Item → ℕ → Search
took i at = record { going = true; result = record { number = done; found = 1; start = at + 2; end = 0; value = (read_precedence i.contents).value } }

-- ---- what one parameter of the list makes of a search
module _ (s : List ℕ) (h : Search) (i : Item) (at : ℕ) (k : sound i ≡ true) where
  -- another name leaves the search as it was
  skips : is_precedence i ≡ false → h ≡ noted s h (stood i at)
  unfolding noted
  skips f = if_ne _ _ i.name end_name (named i k) (if_false _ _ (is_precedence i) refl f refl)

  -- the first precedence is taken
  takes : contents s (stood i at) ≡ (plain i).contents → is_precedence i ≡ true → h.result.found ≡ 0 → took i at ≡ noted s h (stood i at)
  unfolding noted
  takes c t z =
      let read : read_precedence (contents s (stood i at)) ≡ read_precedence i.contents = ap read_precedence c ∙ plain-read i in
      if_ne _ _ i.name end_name (named i k)
      (if_true _ _ (is_precedence i) refl t
      (if_eq _ _ h.result.found 0 z
      (if_eq _ _ (read_precedence i.contents).number done (read_well i k (eqb-true i.name precedence_name t)) refl ∙ ap (taken (at + 2)) (sym read))))

  -- the search goes on with what a parameter made of it
  turns : (h' : Search) (ps : List Parameter) → h.going ≡ true → h' ≡ noted s h (stood i at) → judged s h (stood i at ∷ ps) ≡ judged s h' ps
  turns h' ps g e d = cond (g d) (judged s (sym e d) ps) h

-- ---- a search through the rest of a list
-- a search that is over keeps what it found, and says an end
abbrev over : Search → ℕ → Search
over h end =
    record {
      going = false;
      result = record { number = h.result.number; found = h.result.found; start = h.result.start; end = end; value = h.result.value };
    }

-- a search that is over, by what it found
abbrev ends : ℕ → ℕ → ℕ → Precedence → Search
ends found start end value = record { going = false; result = record { number = done; found = found; start = start; end = end; value = value } }

-- where the rest has no precedence a search keeps what it found; a search that begins there finds what the rest has
record Finds (s : List ℕ) (at : ℕ) (is : List Item) (ps : List Parameter) : Type 0 where
  keeps : (h : Search) → h.going ≡ true → precedences is ≡ 0 → judged s h ps ≡ over h (at + room is)
  finds : precedences is ≤ 1 → judged s begun ps ≡ ends (precedences is) (start_in at is) (at + room is) (value_in is)

module _ (s : List ℕ) where
  -- at the end no parameter is left
  at_end : (at : ℕ) → Finds s at [] (stopped done at ∷ [])
  unfolding noted
  at_end at = record { keeps = λ h g _ d. cond (g d) (over h (at + 1)) h; finds = λ _. refl }

  -- what holds of the rest behind a parameter holds of the rest with it
  over-one : (at : ℕ) (i : Item) (is : List Item) (ps : List Parameter) → sound i ≡ true → contents s (stood i at) ≡ (plain i).contents
      → Finds s (stood i at).next is ps → Finds s at (i ∷ is) (stood i at ∷ ps)
  over-one at i is ps k c r = record {
    keeps = λ h g n.
        by_so (is_precedence i)
        (λ t. let q = counts true t in absurd (omega arith))
        (λ f. let q = counts false f in turns s h i at k h ps g (skips s h i at k f) ∙ r.keeps h g (omega arith) ∙ ap (over h) end);
    finds = λ n.
        by_so (is_precedence i)
        (λ t.
        let q = counts true t in
        let none : precedences is ≡ 0 = omega arith in
        let one : 1 ≡ precedences (i ∷ is) = omega arith in
        turns s begun i at k (took i at) ps refl (takes s begun i at k c t refl) ∙ r.keeps (took i at) refl none
        ∙ (λ d. ends (one d) (sym (starts true t) d) (end d) (sym (says true t) d)))
        (λ f.
        let q = counts false f in
        let same : precedences is ≡ precedences (i ∷ is) = omega arith in
        turns s begun i at k begun ps refl (skips s begun i at k f) ∙ r.finds (omega arith)
        ∙ (λ d. ends (same d) (sym (starts false f) d) (end d) (sym (says false f) d)));
  }
    where
      counts : (b : Bool) → is_precedence i ≡ b → precedences (i ∷ is) ≡ cond b 1 0 + precedences is
      counts b = ap (λ (x : Bool). cond x 1 0 + precedences is)

      starts : (b : Bool) → is_precedence i ≡ b → start_in at (i ∷ is) ≡ cond b (at + 2) (start_in (stood i at).next is)
      starts b = ap (λ (x : Bool). cond x (at + 2) (start_in (stood i at).next is))

      says : (b : Bool) → is_precedence i ≡ b → value_in (i ∷ is) ≡ cond b (read_precedence i.contents).value (value_in is)
      says b = ap (λ (x : Bool). cond x (read_precedence i.contents).value (value_in is))

      end : (stood i at).next + room is ≡ at + room (i ∷ is)
      end = omega arith

-- a search through the whole list begins at its first parameter
pub found_back : FoundBack
unfolding find
found_back b l w =
    let s = write_buffer b l in
    let is = items l in
    let p = placed b l w in
    let all = met s (Finds s) (at_end s) (over-one s) b l w refl in
    ap (λ (h : Search). h.result) (all.finds p.accepted.once)
    ∙ ap (λ (n : ℕ). (ends (precedences is) (start_in 0 is) n (value_in is)).result) (zero-add (room is) ∙ sym p.end)
