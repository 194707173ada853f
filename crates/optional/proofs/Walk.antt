-- Laws of the walk through a part: where its steps lie, that each goes on, and what a turn of the search does.
use Prim.Native.Nat.{ℕ, zero, suc, pred, ◌+◌, ◌≤◌, ◌<◌}
use mathlib.Core.Path.{◌≡◌, refl, sym, ap, ◌∙◌}
use mathlib.Core.Bool.{Bool, true, false, cond, ◌&&◌, not, true≢false}
use mathlib.Core.List.{List, [], ◌∷◌}
use native.Mathlib.Numerals.{sub-one}
use native.Mathlib.Omega.{arith}
use lib.ListN.{length, get_or}
use lib.Dec.{eqb, leb, ltb}
use borrow.Author.Tests.{leb-true, leb-false, ltb-false, eqb-true, eqb-false}
use Rattle.octets.proofs.Tests.{by_test, by_so}
use Rattle.optional.specs.declared.part.Parameter.{Parameter}
use Rattle.optional.specs.Search.{Search}
use Rattle.optional.specs.Part.{stopped, standing, parameter_at, is_parameter, steps, walk}
use Rattle.optional.specs.Search.{Within, begun, refused, ended, noted, judged, find}

module _ (s : List ℕ) where
  -- what holds of the four ways to stop and of a whole parameter holds of what stands at a place
  pub cases : (P : Parameter → Type 0) (at : ℕ)
      → (length s ≤ at → P (stopped 62 at)) → (at < length s → get_or s at 0 ≡ 0 → P (stopped 0 at)) → P (stopped 61 at)
      → (at < length s → (get_or s at 0 ≡ 0 → ⊥) → at + 2 + get_or s (at + 1) 0 ≤ length s → P (standing (get_or s at 0) (get_or s (at + 1) 0) at))
      → P (parameter_at s at)
  unfolding parameter_at
  cases P at none end cut whole =
      by_test P (leb (length s) at) _ _ (λ t. none (leb-true (length s) at t)) (λ a.
      by_test P (eqb (get_or s at 0) 0) _ _ (λ t. end (leb-false (length s) at a) (eqb-true (get_or s at 0) 0 t)) (λ b.
      by_test P (leb (length s) (at + 1)) _ _ (λ t. cut) (λ c.
      by_test P (ltb (length s) (at + 2 + get_or s (at + 1) 0)) _ _ (λ t. cut) (λ d.
      whole (leb-false (length s) at a) (eqb-false (get_or s at 0) 0 b) (ltb-false (length s) (at + 2 + get_or s (at + 1) 0) d)))))

  -- a parameter lies within the octets, and so does the end
  pub within : (at : ℕ) → Within s (parameter_at s at)
  within at =
      cases (Within s) at
      (λ _. record { inside = omega arith; before = λ n. omega arith })
      (λ l _. record { inside = omega arith; before = λ _ _. l })
      (record { inside = omega arith; before = λ n. omega arith })
      (λ l n f. record { inside = f; before = λ _ e. absurd (n e) })

  -- a step over a parameter goes on by two octets at least, and stays within them
  pub onward : (at : ℕ) → is_parameter (parameter_at s at) ≡ true → (at + 2 ≤ (parameter_at s at).next) × ((parameter_at s at).next ≤ length s)
  onward at =
      cases (λ p. is_parameter p ≡ true → (at + 2 ≤ p.next) × (p.next ≤ length s)) at
      (λ _ t. absurd (true≢false (sym t)))
      (λ _ _ t. absurd (true≢false (sym t)))
      (λ t. absurd (true≢false (sym t)))
      (λ _ _ f _. (omega arith, f))

  -- more steps than enough change nothing
  pub enough : (m m' at : ℕ) → at ≤ length s → length s < at + m → length s < at + m' → steps m s at ≡ steps m' s at
  enough zero m' at l f f' = absurd (omega arith)
  enough (suc m) zero at l f f' = absurd (omega arith)
  enough (suc m) (suc m') at l f f' =
      let p = parameter_at s at in
      let onto : ℕ → Bool → List Parameter = λ n b. p ∷ cond b (steps n s p.next) [] in
      by_so (is_parameter p)
      (λ t.
      let o = onward at t in
      ap (onto m) t ∙ ap (λ (ps : List Parameter). p ∷ ps) (enough m m' p.next o.1 (omega arith) (omega arith)) ∙ sym (ap (onto m') t))
      (λ n. ap (onto m) n ∙ sym (ap (onto m') n))

  -- at what is no parameter the search ends
  pub closes : (h : Search) (p : Parameter) → is_parameter p ≡ false → (noted s h p).going ≡ false
  unfolding noted
  closes h p = go (eqb p.number 0) (eqb p.name 0) _
    where
      go : (a b : Bool) (y : Search) → a && not b ≡ false → (cond a (cond b (ended h p.next) y) (refused p.number)).going ≡ false
      go true true y f = refl
      go true false y f = absurd (true≢false f)
      go false b y f = refl

  -- a search that has ended stays as it is
  pub closed : (h : Search) (ps : List Parameter) → h.going ≡ false → judged s h ps ≡ h
  closed h [] f = refl
  closed h (p ∷ ps) f = ap (λ (b : Bool). cond b (judged s (noted s h p) ps) h) f

  -- one turn
  pub turn : (h : Search) (m at : ℕ) → h.going ≡ true → 0 < m
      → judged s h (steps m s at) ≡ judged s (noted s h (parameter_at s at)) (steps (pred m) s (parameter_at s at).next)
  turn h zero at g l = absurd (omega arith)
  turn h (suc m) at g l =
      let p = parameter_at s at in
      let h' = noted s h p in
      let further = steps m s p.next in
      ap (λ (b : Bool). cond b (judged s h' (cond (is_parameter p) further [])) h) g
      ∙ by_so (is_parameter p) (λ t. ap (λ (b : Bool). judged s h' (cond b further [])) t)
      (λ f. closed h' (cond (is_parameter p) further []) (closes h p f) ∙ sym (closed h' further (closes h p f)))

  -- where a search stands: the place, what was found so far, and how many steps are allowed still, which are enough while it goes on
  pub record Stands (m at : ℕ) (h : Search) : Type 0 where
    pub rest : judged s begun (walk s) ≡ judged s h (steps m s at)
    pub enough : h.going ≡ true → (at ≤ length s) × (length s < at + m)

  pub begins : Stands (suc (length s)) 0 begun
  unfolding walk
  begins = record { rest = refl; enough = λ _. (omega arith, omega arith) }

  pub left : (m at : ℕ) (h : Search) → Stands m at h → h.going ≡ true → 0 < m
  left m at h st g = let e = st.enough g in omega arith

  pub goes_on : (m at : ℕ) (h : Search) → Stands m at h → h.going ≡ true → Stands (pred m) (parameter_at s at).next (noted s h (parameter_at s at))
  goes_on m at h st g =
      let p = parameter_at s at in
      let l = left m at h st g in
      let e = st.enough g in
      let k = sub-one m in
      record {
        rest = st.rest ∙ turn h m at g l;
        enough = λ g'.
            by_so (is_parameter p) (λ t. let o = onward at t in (o.1, omega arith)) (λ f. absurd (true≢false (sym g' ∙ closes h p f)));
      }

  pub ends : (m at : ℕ) (h : Search) → Stands m at h → h.going ≡ false → h.result ≡ find s
  unfolding find
  ends m at h st f = ap (λ (k : Search). k.result) (sym (st.rest ∙ closed h (steps m s at) f))
