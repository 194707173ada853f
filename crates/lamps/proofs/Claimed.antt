-- What the lamp map shows of a table that the check accepts.
use Prim.Native.Nat.{ℕ}
use mathlib.Core.Path.{◌≡◌, refl, sym, ap, ◌∙◌}
use mathlib.Core.Bool.{Bool, cond}
use mathlib.Core.List.{List}
use lib.Dec.{eqb}
use borrow.Author.Tests.{eqb-true}
use Rattle.octets.proofs.Tests.{by_so, by_test}
use Rattle.rules.specs.Records.{checked, check_number}
use Rattle.rules.proofs.Check.{check-most, done-detail}
use Rattle.lamps.specs.declared.Lamps.{Lamps}
use Rattle.lamps.specs.Lamps.{lowest_in, lit_map, dark_map, lamp_map}
use Rattle.lamps.specs.Claims.{LowestTaken, NoneLit, PassedOn}
use Rattle.lamps.proofs.LowestLamp.{table_taken, table_none}

-- number 0 is the check's own
accepted : (t : List ℕ) → (lamp_map t).number ≡ 0 → check_number t ≡ 0
unfolding lamp_map
accepted t h =
    by_so (eqb (check_number t) 0) (eqb-true (check_number t) 0)
    (λ e. sym (ap (λ (b : Bool). (cond b (lit_map t) (dark_map (checked t))).number) e) ∙ h)

-- of a table that the check accepts the map shows the free circuits
pub shown : (t : List ℕ) → check_number t ≡ 0 → lamp_map t ≡ lit_map t
unfolding lamp_map
shown t h = ap (λ (n : ℕ). cond (eqb n 0) (lit_map t) (dark_map (checked t))) h

pub lowest-taken : LowestTaken
lowest-taken t m i h e =
    let k = accepted t h in
    table_taken t (check-most t k) m i (ap (λ (l : Lamps). lowest_in l.words) (sym (shown t k)) ∙ e)

pub none-lit : NoneLit
none-lit t h e =
    let k = accepted t h in
    (table_none t (check-most t k)).0 (ap (λ (l : Lamps). lowest_in l.words) (sym (shown t k)) ∙ e)

pub passed_on : PassedOn
unfolding lamp_map
passed_on t =
    by_test (λ (l : Lamps). (l.number ≡ check_number t) × (l.detail ≡ (checked t).detail)) (eqb (check_number t) 0) (lit_map t) (dark_map (checked t))
    (λ h. let zero = eqb-true (check_number t) 0 h in (sym zero, sym (done-detail t zero)))
    (λ h. (refl, refl))
