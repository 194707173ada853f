-- The numbers that the reader of an optional part gives.
use Prim.Native.Nat.{ℕ, zero, suc, ◌+◌}
use mathlib.Core.Path.{◌≡◌, refl}
use mathlib.Core.Bool.{true}
use mathlib.Core.List.{List, []}
use lib.ListN.{length, get_or}
use lib.Dec.{eqb, leb, ltb}
use Rattle.octets.proofs.Tests.{by_test}
use Rattle.rules.specs.Numbers.{done, precedence_twice}
use Rattle.fields.specs.Precedence.{read_precedence}
use Rattle.optional.specs.declared.part.Parameter.{Parameter}
use Rattle.optional.specs.Part.{end_name, precedence_name, stopped, standing, parameter_at, is_parameter, steps, walk, contents}
use Rattle.optional.specs.Search.{Search, begun, refused, ended, taken, noted, judged, find}
use Rattle.claims.specs.Printed.{among, stepping, finding}

-- what holds of 0, 61 and 62 holds of the number of a step
module _ (P : ℕ → Type 0) (goes : P 0) (cut : P 61) (ends : P 62) (s : List ℕ) where
  by_step : (at : ℕ) → P (parameter_at s at).number
  unfolding parameter_at
  by_step at =
      by_test Has (leb (length s) at) (stopped 62 at) _ (λ q. ends)
      (λ q.
      by_test Has (eqb (get_or s at 0) end_name) (stopped 0 at) _ (λ q. goes)
      (λ q.
      by_test Has (leb (length s) (at + 1)) (stopped 61 at) _ (λ q. cut)
      (λ q. by_test Has (ltb (length s) (at + 2 + get_or s (at + 1) 0)) (stopped 61 at) (standing (get_or s at 0) (get_or s (at + 1) 0) at) (λ q. cut) (λ q. goes))))
    where
      Has : Parameter → Type 0
      Has p = P p.number

  -- what holds of 63 and 22 too holds of the number of the search
  module _ (twice : P 63) (malformed : P 22) where
    abbrev Ends : Search → Type 0
    Ends h = P h.result.number

    by_noting : (h : Search) (p : Parameter) → Ends h → P p.number → Ends (noted s h p)
    unfolding noted
    by_noting h p so at =
        by_test Ends (eqb p.number done) _ (refused p.number)
        (λ q.
        by_test Ends (eqb p.name end_name) (ended h p.next) _ (λ q. so)
        (λ q.
        by_test Ends (eqb p.name precedence_name) _ h
        (λ q.
        by_test Ends (eqb h.result.found 0) (taken p.start (read_precedence (contents s p))) (refused precedence_twice)
        (λ q. by_test Ends (eqb (read_precedence (contents s p)).number done) _ (refused 22) (λ q. goes) (λ q. malformed)) (λ q. twice))
        (λ q. so)))
        (λ q. at)

    by_steps : (n at : ℕ) (h : Search) → Ends h → Ends (judged s h (steps n s at))
    by_steps zero at h so = so
    by_steps (suc n) at h so =
        let p = parameter_at s at in
        let k = noted s h p in
        let after = by_noting h p so (by_step at) in
        by_test Ends h.going _ h
        (λ q. by_test (λ (ps : List Parameter). Ends (judged s k ps)) (is_parameter p) (steps n s p.next) [] (λ q. by_steps n p.next k after) (λ q. after))
        (λ q. so)

    by_find : P (find s).number
    unfolding find walk
    by_find = by_steps (suc (length s)) 0 begun goes

pub step_given : (s : List ℕ) (at : ℕ) → among (parameter_at s at).number stepping ≡ true
step_given = by_step (λ k. among k stepping ≡ true) refl refl refl

pub find-given : (s : List ℕ) → among (find s).number finding ≡ true
find-given s = by_find (λ k. among k finding ≡ true) refl refl refl s refl refl
