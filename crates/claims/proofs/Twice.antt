-- No call reference stands in two parts.
use Prim.Native.Nat.{ℕ, ◌+◌, ◌*◌, ◌/◌, ◌%◌, ◌<◌}
use mathlib.Core.Path.{◌≡◌, sym, ◌∙◌, subst}
use mathlib.Core.Logic.{◌≢◌}
use mathlib.Core.Bool.{cond, ◌&&◌, true≢false}
use mathlib.Core.List.{List}
use native.Mathlib.Omega.{arith}
use lib.Dec.{eqb}
use Rattle.octets.specs.Same.{same}
use Rattle.octets.proofs.Tests.{by_eq}
use Rattle.octets.proofs.Sames.{same_refl}
use Rattle.rules.specs.declared.circuit.Circuit.{Circuit}
use Rattle.rules.specs.Valid.{part_numbered}
use Rattle.rules.specs.Records.{circuit_at, records, circuits, empty_table}
use Rattle.rules.proofs.Faults.{Unique, valid_facts}
use Rattle.claims.specs.History.{history}
use Rattle.claims.specs.Lists.{table_after, past}
use Rattle.claims.specs.Demand.{StandsIn}
use Rattle.claims.specs.Accidents.{InOnePart, NeverTwice}
use Rattle.claims.proofs.Demanded.{now, now_count, history_tells}

module _ (x : ℕ → Circuit) (n : ℕ) (u : Unique (part_numbered x) (2 * n)) (r : List ℕ) where
  apart : (j k : ℕ) → j < 2 * n → k < 2 * n → j ≢ k → StandsIn r (part_numbered x j) → StandsIn r (part_numbered x k) → ⊥
  apart j k a b ne p q =
      true≢false
      (sym ((λ d. p.0 d && q.0 d && same (p.1 d) (q.1 d)) ∙ same_refl r) ∙ u j k a b ne)

  holder_no : (c : ℕ) → StandsIn r (x c).holder → StandsIn r (part_numbered x (2 * c))
  holder_no c =
      let even : 2 * c % 2 ≡ 0 = omega arith in
      let half : 2 * c / 2 ≡ c = omega arith in
      subst (StandsIn r) (sym (λ d. cond (eqb (even d) 0) (x (half d)).holder (x (half d)).reservation))

  reservation_no : (c : ℕ) → StandsIn r (x c).reservation → StandsIn r (part_numbered x (2 * c + 1))
  reservation_no c =
      let odd : (2 * c + 1) % 2 ≡ 1 = omega arith in
      let half : (2 * c + 1) / 2 ≡ c = omega arith in
      subst (StandsIn r) (sym (λ d. cond (eqb (odd d) 0) (x (half d)).holder (x (half d)).reservation))

  pub in_one_part : InOnePart n x r
  in_one_part =
      record {
        one-held =
            λ c d a b p q.
            by_eq c d (λ z. z) (λ ne. absurd (apart (2 * c) (2 * d) (omega arith) (omega arith) (λ z. ne (omega arith)) (holder_no c p) (holder_no d q)));
        one-reserved =
            λ c d a b p q.
            by_eq c d (λ z. z) (λ ne. absurd (apart (2 * c + 1) (2 * d + 1) (omega arith) (omega arith) (λ z. ne (omega arith)) (reservation_no c p) (reservation_no d q)));
        not_both = λ c d a b p q. apart (2 * c) (2 * d + 1) (omega arith) (omega arith) (λ z. omega arith) (holder_no c p) (reservation_no d q);
      }

in_one_part_over : (x y : ℕ → Circuit) (n : ℕ) → ((c : ℕ) → c < n → x c ≡ y c) → (r : List ℕ) → InOnePart n x r → InOnePart n y r
in_one_part_over x y n s r h =
    record {
      one-held = λ c d a b p q. h.one-held c d a b (held c a p) (held d b q);
      one-reserved = λ c d a b p q. h.one-reserved c d a b (reserved c a p) (reserved d b q);
      not_both = λ c d a b p q. h.not_both c d a b (held c a p) (reserved d b q);
    }
  where
    held : (c : ℕ) → c < n → StandsIn r (y c).holder → StandsIn r (x c).holder
    held c l = subst (λ (k : Circuit). StandsIn r k.holder) (sym (s c l))

    reserved : (c : ℕ) → c < n → StandsIn r (y c).reservation → StandsIn r (x c).reservation
    reserved c l = subst (λ (k : Circuit). StandsIn r k.reservation) (sym (s c l))

pub never_twice : NeverTwice
unfolding records
never_twice n lists r =
    let t = empty_table n in
    let u = table_after t lists in
    let ps = past t lists in
    let h = now n lists in
    in_one_part_over (circuit_at u) (history ps) n (history_tells n lists) r
    (subst (λ (m : ℕ). InOnePart m (circuit_at u) r) (now_count n lists)
    (in_one_part (circuit_at u) (circuits u) (valid_facts records u h.still-valid).unique r))
