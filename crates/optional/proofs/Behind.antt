-- Octets behind the end of a part are neither read nor refused.
use Prim.Native.Nat.{ℕ, zero, suc, ◌+◌, ◌≤◌, ◌<◌}
use mathlib.Core.Path.{◌≡◌, refl, sym, ap, subst, ◌∙◌}
use mathlib.Core.Bool.{Bool, true, false, cond, ◌&&◌, not, true≢false}
use mathlib.Core.List.{List, ◌++◌}
use native.Mathlib.Omega.{arith}
use lib.ListN.{length, get_or, take, drop, length-append, length-drop, get_or-append}
use lib.Seq.{ext_get_or, get_or-take, get_or-drop, length-take-le}
use lib.Dec.{eqb}
use borrow.Author.Tests.{eqb-true, eqb-false, not-false}
use Rattle.octets.proofs.Tests.{by_so, and_left, if_eq, if_ne, if_gt, if_ge}
use Rattle.fields.specs.Precedence.{read_precedence}
use Rattle.optional.specs.declared.part.Parameter.{Parameter}
use Rattle.optional.specs.Search.{Search}
use Rattle.optional.specs.Part.{standing, parameter_at, is_parameter, contents, steps, walk}
use Rattle.optional.specs.Search.{begun, refused, ended, taken, noted, judged, find}
use Rattle.optional.specs.Claims.{Behind}
use Rattle.optional.proofs.Walk.{cases, within, onward, enough, closes, closed, turn}

-- ---- what a step leaves
module _ (s : List ℕ) (at : ℕ) where
  -- the contents of a parameter lie before the next place
  fills : (parameter_at s at).start + (parameter_at s at).length ≤ (parameter_at s at).next
  fills = cases s (λ p. p.start + p.length ≤ p.next) at (λ _. omega arith) (λ _ _. omega arith) (omega arith) (λ _ _ _. omega arith)

  -- what is no parameter leaves the place
  stays : is_parameter (parameter_at s at) ≡ false → (parameter_at s at).next ≡ at
  stays =
      cases s (λ p. is_parameter p ≡ false → p.next ≡ at) at (λ _ _. refl) (λ _ _ _. refl) (λ _. refl)
      (λ _ z _ f. absurd (z (eqb-true (get_or s at 0) 0 (not-false (eqb (get_or s at 0) 0) f))))

module _ (s : List ℕ) (h : Search) (p : Parameter) where
  -- a parameter at which the search ends is refused
  refuses : h.going ≡ true → is_parameter p ≡ true → (noted s h p).going ≡ false → (noted s h p).result.number ≡ 0 → ⊥
  unfolding noted
  refuses g =
      let r = read_precedence (contents s p) in
      go (eqb p.number 0) (eqb p.name 0) (eqb p.name 58) (eqb h.result.found 0) (eqb r.number 0) _ refl
    where
      go : (a b c d e : Bool) (y : Search) → y.going ≡ true → a && not b ≡ true
          → (let x = cond a (cond b (ended h p.next) (cond c (cond d (cond e y (refused 22)) (refused 63)) h)) (refused p.number) in
          x.going ≡ false → x.result.number ≡ 0 → ⊥)
      go false b c d e y k t f n = true≢false (sym t)
      go true true c d e y k t f n = true≢false (sym t)
      go true false true true true y k t f n = true≢false (sym k ∙ f)
      go true false true true false y k t f n = omega arith
      go true false true false e y k t f n = omega arith
      go true false false d e y k t f n = true≢false (sym g ∙ f)

  -- what is no parameter and no refusal is the end
  ends_there : is_parameter p ≡ false → (noted s h p).result.number ≡ 0 → (p.number ≡ 0) × (p.name ≡ 0)
  unfolding noted
  ends_there = go (eqb p.number 0) (eqb p.name 0) _ refl refl
    where
      go : (a b : Bool) (y : Search) → eqb p.number 0 ≡ a → eqb p.name 0 ≡ b → a && not b ≡ false
          → (cond a (cond b (ended h p.next) y) (refused p.number)).result.number ≡ 0 → (p.number ≡ 0) × (p.name ≡ 0)
      go true true y e d f n = (eqb-true p.number 0 e, eqb-true p.name 0 d)
      go true false y e d f n = absurd (true≢false f)
      go false b y e d f n = absurd (eqb-false p.number 0 e n)

  -- the end is said one octet further
  ends_with : p.number ≡ 0 → p.name ≡ 0 → (noted s h p).result.end ≡ p.next + 1
  unfolding noted
  ends_with n z = ap (λ (x : Search). x.result.end) (sym (if_eq _ _ p.number 0 n (if_eq _ _ p.name 0 z refl)))

-- ---- a search that is not refused
-- the search h comes to the end at a place, and is over there
record Ends (s : List ℕ) (at : ℕ) (h : Search) : Type 0 where
  number : (parameter_at s at).number ≡ 0
  name : (parameter_at s at).name ≡ 0
  next : (parameter_at s at).next ≡ at
  over : (noted s h (parameter_at s at)).going ≡ false

-- what holds at the end, and passes back over a parameter, holds of a search that is not refused
module _ (s : List ℕ) (P : ℕ → ℕ → Search → Type 0)
    (end : (m at : ℕ) (h : Search) → h.going ≡ true → Ends s at h → P (suc m) at h)
    (over : (m at : ℕ) (h : Search) → h.going ≡ true → is_parameter (parameter_at s at) ≡ true
    → P m (parameter_at s at).next (noted s h (parameter_at s at)) → P (suc m) at h) where
  not_refused : (m at : ℕ) (h : Search) → h.going ≡ true → at ≤ length s → length s < at + m
      → (judged s h (steps m s at)).result.number ≡ 0 → P m at h
  not_refused zero at h g l f n = absurd (omega arith)
  not_refused (suc m) at h g l f n =
      let p = parameter_at s at in
      let h' = noted s h p in
      let further = steps m s p.next in
      let number : (judged s h' further).result.number ≡ 0 = sym (λ i. (turn s h (suc m) at g (omega arith) i).result.number) ∙ n in
      let here : h'.going ≡ false → h'.result.number ≡ 0 = λ c. sym (λ i. (closed s h' further c i).result.number) ∙ number in
      by_so (is_parameter p)
      (λ t. let o = onward s at t in
      by_so h'.going
      (λ g'. over m at h g t (not_refused m p.next h' g' o.1 (omega arith) number))
      (λ c. absurd (refuses s h p g t c (here c))))
      (λ f₀. let c = closes s h p f₀ in
      let e = ends_there s h p f₀ (here c) in
      end m at h g (record { number = e.0; name = e.1; next = stays s at f₀; over = c }))

module _ (s : List ℕ) where
  -- where the end is found
  end_at : (m at : ℕ) (h : Search) → h.going ≡ true → Ends s at h → (judged s h (steps (suc m) s at)).result.end ≡ at + 1
  end_at m at h g e =
      let p = parameter_at s at in
      (λ i. (turn s h (suc m) at g (omega arith) i).result.end)
      ∙ (λ i. (closed s (noted s h p) (steps m s p.next) e.over i).result.end)
      ∙ ends_with s h p e.number e.name ∙ ap (λ (k : ℕ). k + 1) e.next

  -- the end is one of the octets
  bounded : (m at : ℕ) (h : Search) → h.going ≡ true → at ≤ length s → length s < at + m
      → (judged s h (steps m s at)).result.number ≡ 0 → (judged s h (steps m s at)).result.end ≤ length s
  bounded =
      not_refused s (λ m at h. (judged s h (steps m s at)).result.end ≤ length s)
      (λ m at h g e. let there = end_at m at h g e in let b = (within s at).before e.number e.name in let n = e.next in omega arith)
      (λ m at h g t r. subst (λ (x : Search). x.result.end ≤ length s) (sym (turn s h (suc m) at g (omega arith))) r)

-- ---- two parts that agree on e octets
module _ (s s' : List ℕ) (e : ℕ) (long' : e ≤ length s') (agree : (j : ℕ) → j < e → get_or s j 0 ≡ get_or s' j 0) where
  -- a step that ends within them is the same
  same_step : (at : ℕ) → (parameter_at s at).number ≡ 0 → (parameter_at s at).next < e → parameter_at s at ≡ parameter_at s' at
  unfolding parameter_at
  same_step at =
      cases s (λ p. p.number ≡ 0 → p.next < e → p ≡ parameter_at s' at) at
      (λ _ n. absurd (omega arith))
      (λ _ z _ b. if_gt _ _ (length s') at (omega arith) (if_eq _ _ (get_or s' at 0) 0 (sym (agree at b) ∙ z) refl))
      (λ n. absurd (omega arith))
      (λ _ z f _ b.
      let name = agree at (omega arith) in
      let count = agree (at + 1) (omega arith) in
      if_gt _ _ (length s') at (omega arith)
      (if_ne _ _ (get_or s' at 0) 0 (λ q. z (name ∙ q))
      (if_gt _ _ (length s') (at + 1) (omega arith)
      (if_ge _ _ (length s') (at + 2 + get_or s' (at + 1) 0) (omega arith)
      (λ i. standing (name i) (count i) at)))))

  -- contents within them are the same
  same_contents : (p : Parameter) → p.start + p.length ≤ e → p.start + p.length ≤ length s → contents s p ≡ contents s' p
  same_contents p f w =
      ext_get_or 0 (contents s p) (contents s' p) (as_long s w ∙ sym (as_long s' (omega arith)))
      (λ j h. let k = as_long s w in at_place s j (omega arith) ∙ agree (p.start + j) (omega arith) ∙ sym (at_place s' j (omega arith)))
    where
      as_long : (t : List ℕ) → p.start + p.length ≤ length t → length (contents t p) ≡ p.length
      as_long t r = let d = length-drop p.start t in length-take-le p.length (drop p.start t) (omega arith)

      at_place : (t : List ℕ) (j : ℕ) → j < p.length → get_or (contents t p) j 0 ≡ get_or t (p.start + j) 0
      at_place t j h = get_or-take p.length (drop p.start t) j 0 h ∙ get_or-drop p.start t j 0

  -- a parameter within them makes the same of a search
  same_noted : (h : Search) (p : Parameter) → p.start + p.length ≤ e → p.start + p.length ≤ length s → noted s h p ≡ noted s' h p
  unfolding noted
  same_noted h p f w =
      ap (λ (c : List ℕ).
      cond (eqb p.number 0)
      (cond (eqb p.name 0) (ended h p.next)
      (cond (eqb p.name 58) (cond (eqb h.result.found 0) (taken p.start (read_precedence c)) (refused 63)) h)) (refused p.number))
      (same_contents p f w)

  -- a turn that ends within them is the same
  step-over : (m at : ℕ) (h : Search) → h.going ≡ true → (parameter_at s at).number ≡ 0 → (parameter_at s at).next < e
      → judged s' (noted s h (parameter_at s at)) (steps m s' (parameter_at s at).next) ≡ judged s' h (steps (suc m) s' at)
  step-over m at h g n b =
      let p = parameter_at s at in
      let f = fills s at in
      ap (λ (k : Search). judged s' k (steps m s' p.next)) (same_noted h p (omega arith) (within s at).inside)
      ∙ ap (λ (x : Parameter). judged s' (noted s' h x) (steps m s' x.next)) (same_step at n b)
      ∙ sym (turn s' h (suc m) at g (omega arith))

  -- a search that ends with them is the same, and ends behind where it stands
  abbrev Same : ℕ → ℕ → Search → Type 0
  Same m at h = (judged s h (steps m s at)).result.end ≡ e → (at < e) × (judged s h (steps m s at) ≡ judged s' h (steps m s' at))

  same : (m at : ℕ) (h : Search) → h.going ≡ true → at ≤ length s → length s < at + m
      → (judged s h (steps m s at)).result.number ≡ 0 → Same m at h
  same =
      not_refused s Same
      (λ m at h g d q.
      let there = end_at s m at h g d in
      let n = d.next in
      let p = parameter_at s at in
      let h' = noted s h p in (
        omega arith,
        turn s h (suc m) at g (omega arith) ∙ closed s h' (steps m s p.next) d.over
            ∙ sym (closed s' h' (steps m s' p.next) d.over) ∙ step-over m at h g d.number (omega arith),
      ))
      (λ m at h g t r q.
      let now = turn s h (suc m) at g (omega arith) in
      let ih = r (sym (λ i. (now i).result.end) ∙ q) in
      let o = onward s at t in
      (omega arith, now ∙ ih.1 ∙ step-over m at h g (eqb-true (parameter_at s at).number 0 (and_left _ _ t)) ih.0))

-- the part up to its end, with any octets behind it: as many steps are allowed in both as would be enough for both together
pub behind : Behind
unfolding find walk
behind s t n =
    let e = (find s).end in
    let front = take e s in
    let s' = front ++ t in
    let b = bounded s (suc (length s)) 0 begun refl (omega arith) (omega arith) n in
    let k : length front ≡ e = length-take-le e s b in
    let long = length-append front t in
    let agree : (j : ℕ) → j < e → get_or s j 0 ≡ get_or s' j 0
    = λ j l. sym (get_or-take e s j 0 l) ∙ sym (get_or-append front t 0 j (omega arith)) in
    let m = suc (length s + length s') in
    let more : judged s begun (walk s) ≡ judged s begun (steps m s 0) =
    ap (judged s begun) (enough s (suc (length s)) m 0 (omega arith) (omega arith) (omega arith)) in
    let found =
    same s s' e (omega arith) agree m 0 begun refl (omega arith) (omega arith) (sym (λ i. (more i).result.number) ∙ n) (sym (λ i. (more i).result.end)) in
    ap (λ (h : Search). h.result) (sym (more ∙ found.1 ∙ ap (judged s' begun) (enough s' m (suc (length s')) 0 (omega arith) (omega arith) (omega arith))))
