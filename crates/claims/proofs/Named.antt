-- What the check gives names the first fault, said of octets.
use Prim.Native.Nat.{ℕ, ◌*◌, ◌+◌, ◌/◌, ◌<◌, ◌≤◌}
use mathlib.Core.Path.{◌≡◌, refl, sym, ap, ap₂, ◌∙◌, subst}
use mathlib.Core.Logic.{◌↔◌, ◌⊎◌, inl, inr}
use mathlib.Core.Bool.{Bool, true, false, cond, ◌&&◌, ◌||◌, or-true, true≢false}
use mathlib.Core.List.{List}
use native.Mathlib.Omega.{arith}
use lib.ListN.{length}
use lib.Dec.{eqb}
use borrow.Author.Tests.{eqb-true}
use Rattle.octets.proofs.Tests.{by_eq, by_test}
use Rattle.rules.specs.declared.verdict.Reason.{Reason}
use Rattle.rules.specs.declared.verdict.Reason.TheVariants.{FlagOrLevel, DigitOrPointCode, NotZero, NotAbove}
use Rattle.rules.specs.Verdict.{Verdict, fault, no_fault}
use Rattle.std.specs.Prelude.{Ok, Err}
use Rattle.rules.specs.Numbers.{reason_number}
use Rattle.rules.specs.Valid.{part_numbered, clash, repeated, record_verdict, verdict}
use Rattle.rules.specs.Records.{circuit_at, circuits, table_length, records}
use Rattle.rules.proofs.Numbers.{reason-within}
use Rattle.rules.proofs.Searches.{nothing-found}
use Rattle.rules.proofs.Faults.{Facts, valid_is, record-valid, valid_facts}
use Rattle.rules.proofs.FirstFault.{InRecord, InPart, VerdictIs, verdict_is}
use Rattle.rules.proofs.Check.{length_facts, check_done, by_check}
use Rattle.claims.specs.Named.{flag_or_level, digit_or_point_code, not_zero, not_above, has, repeats, FirstBad, NoneBad, FirstRepeated, FaultNamed, RecordThere, RightLength, ValidExactly}
use Rattle.claims.proofs.Demanded.{table-length}
use Rattle.claims.proofs.Reasons.{record_is, repeats_is}

module _ (t : List ℕ) where
  -- ---- record i by itself
  module _ (i : ℕ) where
    -- what is none of the four, each by its number
    none_of : (m : ℕ) → (m ≡ 41 → flag_or_level t i ≡ false) → (m ≡ 42 → digit_or_point_code t i ≡ false) → (m ≡ 43 → not_zero t i ≡ false) → (m ≡ 44 → not_above t i ≡ false) → has t m i ≡ false
    none_of m f d z a =
        let no : Bool → Type 0 = λ b. b ≡ false in
        by_test no (eqb m 41) _ _ (λ e. f (eqb-true m 41 e))
        (λ x.
        by_test no (eqb m 42) _ _ (λ e. d (eqb-true m 42 e))
        (λ x. by_test no (eqb m 43) _ _ (λ e. z (eqb-true m 43 e)) (λ x. by_test no (eqb m 44) _ _ (λ e. a (eqb-true m 44 e)) (λ x. refl))))

    -- what the verdict on the record says of its octets
    abbrev Says : Verdict → Type 0
    Says (Ok u) = (m : ℕ) → has t m i ≡ false
    Says (Err flaw) = (has t (reason_number flaw.reason) i ≡ true) × ((m : ℕ) → m < reason_number flaw.reason → has t m i ≡ false)

    says : {v : Verdict} → record_verdict records t i ≡ v → Says v
    says e =
        subst Says (sym (record_is t i) ∙ e) (go (flag_or_level t i) (digit_or_point_code t i) (not_zero t i) (not_above t i) refl refl refl refl)
      where
        go : (f d z a : Bool) → flag_or_level t i ≡ f → digit_or_point_code t i ≡ d → not_zero t i ≡ z → not_above t i ≡ a → Says (cond f (fault FlagOrLevel i) (cond d (fault DigitOrPointCode i) (cond z (fault NotZero i) (cond a (fault NotAbove i) no_fault))))
        go true d z a p q r s =
            (p, λ m l. none_of m (λ e. absurd (omega arith)) (λ e. absurd (omega arith)) (λ e. absurd (omega arith)) (λ e. absurd (omega arith)))
        go false true z a p q r s =
            (q, λ m l. none_of m (λ e. p) (λ e. absurd (omega arith)) (λ e. absurd (omega arith)) (λ e. absurd (omega arith)))
        go false false true a p q r s = (r, λ m l. none_of m (λ e. p) (λ e. q) (λ e. absurd (omega arith)) (λ e. absurd (omega arith)))
        go false false false true p q r s = (s, λ m l. none_of m (λ e. p) (λ e. q) (λ e. r) (λ e. absurd (omega arith)))
        go false false false false p q r s = λ m. none_of m (λ e. p) (λ e. q) (λ e. r) (λ e. s)

  -- ---- the first fault
  first_bad : (r : Reason) (i : ℕ) → InRecord records t r i → FirstBad t (reason_number r) i
  first_bad r i h =
      let said = says i h.own in
      record { bad = said.0; first = said.1; lowest = λ m j l. says j (h.lowest j l) m }

  first_repeated : (r : Reason) (i : ℕ) → InPart records t r i → FirstRepeated t i
  unfolding records
  first_repeated r i h =
      record {
        none-bad = λ m j l. says j (h.sound j l) m;
        later =
            repeats_is t i
            ∙ by_eq h.part (2 * i) (λ e. ap (λ (b : Bool). b || again (2 * i + 1)) (here (2 * i) e))
            (λ n. ap (λ (b : Bool). again (2 * i) || b) (here (2 * i + 1) (omega (arith, h.its))) ∙ or-true (again (2 * i)));
        lowest = λ j l. repeats_is t j ∙ ap₂ (λ (a b : Bool). a || b) (h.lowest (2 * j) (omega (arith, h.its))) (h.lowest (2 * j + 1) (omega (arith, h.its)));
      }
    where
      again : ℕ → Bool
      again = repeated (circuit_at t)

      here : (k : ℕ) → h.part ≡ k → again k ≡ true
      here k e = subst (λ (n : ℕ). again n ≡ true) e h.repeats

  fault_is : (r : Reason) (i : ℕ) → verdict records t ≡ fault r i → (i < circuits t) × (InRecord records t r i ⊎ InPart records t r i)
  unfolding records
  fault_is r i e = subst (VerdictIs records t) e (verdict_is records t)

  -- ---- no fault
  none-bad : Facts records t → NoneBad t
  unfolding records
  none-bad f m i l =
      says i
      (valid_is _ (record-valid records t i ∙ (λ d. f.flags i l d && f.levels i l d && (f.fields i l d && (f.blank i l d && (f.pair i l d && true))))))
      m

  none-repeated : Facts records t → (i : ℕ) → i < length t / 32 → repeats t i ≡ false
  unfolding records repeated
  none-repeated f i l = repeats_is t i ∙ ap₂ (λ (a b : Bool). a || b) (once (2 * i) (omega arith)) (once (2 * i + 1) (omega arith))
    where
      once : (k : ℕ) → k < 2 * circuits t → repeated (circuit_at t) k ≡ false
      once k m =
          let part = part_numbered (circuit_at t) in
          nothing-found (λ j. clash (part j) (part k)) k (λ j. true) false (λ j n. f.unique j k (omega arith) m (omega arith))

  pub right_length : (table_length (length t) ≡ true) ↔ RightLength t
  right_length = (
    λ h. let facts = length_facts (length t) h in record { whole = facts.0; some = omega arith; most = omega arith },
    λ r. table-length t (length t / 32) (omega (arith, r.whole)) (omega (arith, r.some)) (omega (arith, r.most)),
  )

-- ---- the claims
pub fault-named : FaultNamed
fault-named =
    record {
      by_itself = λ t. by_check (λ c. 41 ≤ c.number → c.number ≤ 44 → FirstBad t c.number c.detail) t (λ l a b. absurd (omega arith)) (λ l v a b. absurd (omega arith)) (λ l r i v a b. own t r i b (fault_is t r i v).1);
      among-others = λ t. by_check (λ c. c.number ≡ 45 → FirstRepeated t c.detail) t (λ l a. absurd (omega arith)) (λ l v a. absurd (omega arith)) (λ l r i v a. twice t r i a (fault_is t r i v).1);
    }
  where
    own : (t : List ℕ) (r : Reason) (i : ℕ) → reason_number r ≤ 44 → InRecord records t r i ⊎ InPart records t r i → FirstBad t (reason_number r) i
    own t r i b (inl h) = first_bad t r i h
    own t r i b (inr h) = absurd (omega (arith, ap reason_number h.reason))

    twice : (t : List ℕ) (r : Reason) (i : ℕ) → reason_number r ≡ 45 → InRecord records t r i ⊎ InPart records t r i → FirstRepeated t i
    twice t r i a (inl h) = absurd (true≢false (sym (first_bad t r i h).bad ∙ ap (λ (k : ℕ). has t k i) a))
    twice t r i a (inr h) = first_repeated t r i h

pub record-there : RecordThere
record-there t =
    by_check (λ c. (((c.number ≡ 0) ⊎ (c.number ≡ 20)) × (c.detail ≡ 65535)) ⊎ ((41 ≤ c.number) × (c.number ≤ 45) × (c.detail < length t / 32))) t (λ l. inl (inr refl, refl)) (λ l v. inl (inl refl, refl))
    (λ l r i v. inr ((reason-within r).0, (reason-within r).1, (fault_is t r i v).0))

pub valid-exactly : ValidExactly
valid-exactly =
    record {
      valid = λ t. (
        λ h.
            let both = check_done t h in
            let facts = valid_facts records t both.1 in
            ((right_length t).0 both.0, none-bad t facts, none-repeated t facts),
        λ h.
            by_check (λ c. c.number ≡ 0) t (λ l. absurd (true≢false (sym ((right_length t).1 h.0) ∙ l))) (λ l v. refl)
            (λ l r i v. absurd (no_fault t r i h.1 h.2 (fault_is t r i v))),
      );
      wrong = λ t. (
        by_check (λ c. c.number ≡ 20 → RightLength t → ⊥) t (λ l e r. true≢false (sym ((right_length t).1 r) ∙ l)) (λ l v e. absurd (omega arith)) (λ l r i v e. absurd (omega (arith, (reason-within r).0))),
        λ h.
            by_check (λ c. c.number ≡ 20) t (λ l. refl) (λ l v. absurd (h ((right_length t).0 l))) (λ l r i v. absurd (h ((right_length t).0 l))),
      );
    }
  where
    no_fault : (t : List ℕ) (r : Reason) (i : ℕ) → NoneBad t → ((j : ℕ) → j < length t / 32 → repeats t j ≡ false) → (i < circuits t) × (InRecord records t r i ⊎ InPart records t r i) → ⊥
    no_fault t r i none once (l, inl h) = true≢false (sym (first_bad t r i h).bad ∙ none (reason_number r) i l)
    no_fault t r i none once (l, inr h) = true≢false (sym (first_repeated t r i h).later ∙ once i l)
