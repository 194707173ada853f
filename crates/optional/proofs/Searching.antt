-- What a turn of the search finds, by what the reader's step gave.
use Prim.Native.Nat.{ℕ, pred, ◌+◌, ◌-◌, ◌<◌}
use mathlib.Core.Path.{◌≡◌, refl, sym, ap, subst, ◌∙◌}
use mathlib.Core.Bool.{true, not}
use mathlib.Core.List.{List}
use native.Mathlib.Omega.{arith}
use Rattle.std.specs.Prelude.{Option, Some, None, Ok, Err}
use lib.ListN.{length}
use borrow.Author.Tests.{ne_eqb}
use Rattle.octets.proofs.Tests.{if_ne}
use Rattle.optional.specs.declared.part.Fault.{Fault}
use Rattle.optional.specs.declared.part.Fault.TheVariants.{CutShort, NoEnd, PrecedenceTwice, Malformed}
use Rattle.optional.specs.declared.part.Parameter.{Parameter}
use Rattle.optional.specs.declared.part.Standing.{Standing}
use Rattle.optional.specs.declared.search.PrecedenceAt.{PrecedenceAt}
use Rattle.optional.specs.Part.{fault_number, given, Named, parameter_at, is_parameter}
use Rattle.optional.specs.Search.{Search, Lies, refused, ended, noted, had, standing_at, found_in, found, find}
use Rattle.optional.proofs.Walk.{Stands, cases, onward, goes_on, ends}

goes : (o : Option PrecedenceAt) → (had o).going ≡ true
goes None = refl
goes (Some p) = refl

-- a fault has a number
nonzero : (fault : Fault) → fault_number fault ≡ 0 → ⊥
nonzero CutShort e = omega (arith, e)
nonzero NoEnd e = omega (arith, e)
nonzero PrecedenceTwice e = omega (arith, e)
nonzero Malformed e = omega (arith, e)

-- the reader's step gave the parameter p
pub record Gave (s : List ℕ) (at : ℕ) (p : Standing) : Type 0 where
  pub named : p.name ≡ 0 → ⊥
  pub said : given at (Ok (Some p)) ≡ parameter_at s at

pub gave : (r s : List ℕ) (at : ℕ) → r ≡ s → (o : Option Standing) (p : Standing) → o ≡ Some p → given at (Ok o) ≡ parameter_at r at → Named (Ok o) → Gave s at p
gave r s at e o p i h n =
    record {
      named = subst (λ (x : Option Standing). Named (Ok x)) i n;
      said = ap (λ (x : Option Standing). given at (Ok x)) (sym i) ∙ h ∙ ap (λ (l : List ℕ). parameter_at l at) e;
    }

-- the reader stands behind it
pub behind_it : (r s : List ℕ) (at : ℕ) → r ≡ s → (p : Standing) → Gave s at p → (parameter_at r at).next ≡ p.next
behind_it r s at e p g = ap (λ (l : List ℕ). (parameter_at l at).next) e ∙ sym (ap (λ (q : Parameter). q.next) g.said)

module _ (s : List ℕ) (at : ℕ) (p : Standing) (g : Gave s at p) where
  -- it lies within the octets
  pub lies : Lies s p
  lies =
      cases s (λ q. standing_at p ≡ q → Lies s p) at
      (λ _ h. absurd (g.named (ap (λ q. q.name) h)))
      (λ _ _ h. absurd (g.named (ap (λ q. q.name) h)))
      (λ h. absurd (g.named (ap (λ q. q.name) h)))
      (λ _ _ f h.
      let start = ap (λ q. q.start) h in
      let count = ap (λ q. q.length) h in
      let next = ap (λ q. q.next) h in
      record { named = g.named; ends = omega (arith, start, count, next); inside = omega (arith, next, f) }) g.said

  -- it goes on
  pub smaller : length s - p.next < length s - at
  smaller =
      let t : is_parameter (standing_at p) ≡ true = ap not (ne_eqb p.name 0 g.named) in
      let f = onward s at (subst (λ (q : Parameter). is_parameter q ≡ true) g.said t) in
      let k = ap (λ (q : Parameter). q.next) g.said in
      omega (arith, f, k)

module _ (s : List ℕ) (m at : ℕ) (o : Option PrecedenceAt) (st : Stands s m at (had o)) where
  -- what is noted of what stands there is the next that stands
  turn : (p : Parameter) → p ≡ parameter_at s at → Stands s (pred m) p.next (noted s (had o) p)
  turn p e = subst (λ (q : Parameter). Stands s (pred m) q.next (noted s (had o) q)) (sym e) (goes_on s m at (had o) st (goes o))

  -- the octets run out
  pub faulty : (fault : Fault) → given at (Err fault) ≡ parameter_at s at → found (Err fault) ≡ find s
  unfolding noted
  faulty fault e =
      let here : noted s (had o) (given at (Err fault)) ≡ refused (fault_number fault) = sym (if_ne _ _ (fault_number fault) 0 (nonzero fault) refl) in
      ap (λ (h : Search). h.result) (sym here) ∙ ends s _ _ _ (turn (given at (Err fault)) e) (ap (λ (h : Search). h.going) here)

  -- the part ends
  pub over : given at (Ok None) ≡ parameter_at s at → found_in o (at + 1) ≡ find s
  unfolding noted
  over e = same o ∙ ends s _ _ _ (turn (given at (Ok None)) e) refl
    where
      same : (o : Option PrecedenceAt) → found_in o (at + 1) ≡ (ended (had o) at).result
      same None = refl
      same (Some p) = refl

  module _ (p : Standing) (g : Gave s at p) where
    -- precedence is given twice, or is malformed
    pub unfit : (fault : Fault) → refused (fault_number fault) ≡ noted s (had o) (standing_at p) → found (Err fault) ≡ find s
    unfit fault h = ap (λ (k : Search). k.result) h ∙ ends s _ _ _ (turn (standing_at p) g.said) (ap (λ (k : Search). k.going) (sym h))

    -- the search goes on
    pub further : (o' : Option PrecedenceAt) → had o' ≡ noted s (had o) (standing_at p) → Stands s (pred m) p.next (had o')
    further o' h = subst (Stands s (pred m) p.next) (sym h) (turn (standing_at p) g.said)
