-- What a verdict says: the first fault of all the records is that of the first record that has one; where none has, the first repeated
-- reference is.
use Rattle.std.proofs.Common.{◌≡◌, ℕ, zero, suc, ◌*◌, ◌/◌, ◌<◌, Bool, true, false, cond, not, ◌&&◌, ◌⊎◌, sym, refl, ap, ◌∙◌, subst, inl, inr, true≢false, arith}
use borrow.Author.Tests.{not-true, not-false}
use Rattle.octets.proofs.Tests.{by_so}
use Rattle.std.specs.Prelude.{Option, Some, None, Ok, Err}
use Rattle.rules.specs.declared.verdict.Reason.{Reason}
use Rattle.rules.specs.declared.verdict.Reason.TheVariants.{FlagOrLevel, DigitOrPointCode, NotZero, NotAbove, Repeated}
use Rattle.rules.specs.Verdict.{Verdict, fault, no_fault}
use Rattle.rules.specs.Layout.{Layout}
use Rattle.rules.specs.Search.{first_to, or_else, found}
use Rattle.rules.specs.Valid.{repeated, or_fault, is_valid, levels_ok, fields_ok, pair_ok, record_verdict, records_to, parts_to, verdict}
use Rattle.rules.proofs.Searches.{FirstIs, first_is}
use Rattle.rules.proofs.Faults.{valid_is}

-- a fault goes before what follows
pub fault_first : (v w : Verdict) → is_valid v ≡ false → or_fault v w ≡ v
fault_first (Ok u) w h = absurd (true≢false h)
fault_first (Err flaw) w h = refl

module _ {S : Type 0} (L : Layout S) (s : S) where
  abbrev v : ℕ → Verdict
  v = record_verdict L s

  abbrev pub bad : ℕ → Bool  -- record i has a fault by itself
  bad i = not (is_valid (v i))

  step : (n : ℕ) (r : Option ℕ) → FirstIs bad n r → or_fault (found r v no_fault) (v n) ≡ found (or_else r (cond (bad n) (Some n) None)) v no_fault
  step n (Some i) g = fault_first (v i) (v n) (not-true _ g.1)
  step n None g =
      by_so (bad n)
      (λ e. sym (ap (λ (b : Bool). found (cond b (Some n) None) v no_fault) e))
      (λ e. valid_is (v n) (not-false _ e) ∙ sym (ap (λ (b : Bool). found (cond b (Some n) None) v no_fault) e))

  pub first_fault : (n : ℕ) → records_to L s n ≡ found (first_to bad n) v no_fault
  first_fault zero = refl
  first_fault (suc n) = ap (λ (w : Verdict). or_fault w (v n)) (first_fault n) ∙ step n (first_to bad n) (first_is bad n)

-- what the first fault of table s is
module _ {S : Type 0} (L : Layout S) (s : S) where
  abbrev n : ℕ
  n = L.count s

  abbrev pub SoundBelow : ℕ → Type 0  -- no record below m has a fault by itself
  SoundBelow m = (j : ℕ) → j < m → record_verdict L s j ≡ no_fault

  -- record i has it by itself, and no lower record has any
  pub record InRecord (r : Reason) (i : ℕ) : Type 0 where
    pub own : record_verdict L s i ≡ fault r i
    pub lowest : SoundBelow i

  -- no record has any by itself, and the reference of part k is the first that stands in an earlier part
  pub record InPart (r : Reason) (i : ℕ) : Type 0 where
    pub reason : r ≡ Repeated
    pub sound : SoundBelow n
    pub part : ℕ
    pub its : part / 2 ≡ i
    pub repeats : repeated (L.view s) part ≡ true
    pub lowest : (j : ℕ) → j < part → repeated (L.view s) j ≡ false

  abbrev pub VerdictIs : Verdict → Type 0
  VerdictIs (Ok u) = Unit {0}
  VerdictIs (Err flaw) = (flaw.at < n) × (InRecord flaw.reason flaw.at ⊎ InPart flaw.reason flaw.at)

  -- a record's own fault names it
  abbrev Names : ℕ → Verdict → Type 0
  Names c (Ok u) = Unit {0}
  Names c (Err flaw) = flaw.at ≡ c

  names : (c : ℕ) → Names c (record_verdict L s c)
  unfolding record_verdict
  names c = go (L.flags s c && levels_ok (L.view s c)) (fields_ok L.reference_ok (L.view s c)) (L.blank s c) (pair_ok (L.view s c))
    where
      go : (b d e f : Bool) → Names c (cond (not b) (fault FlagOrLevel c) (cond (not d) (fault DigitOrPointCode c) (cond (not e) (fault NotZero c) (cond (not f) (fault NotAbove c) no_fault))))
      go true true true true = tt
      go true true true false = refl
      go true true false f = refl
      go true false e f = refl
      go false d e f = refl

  sound_at : (i : ℕ) → bad L s i ≡ false → record_verdict L s i ≡ no_fault
  sound_at i h = valid_is (record_verdict L s i) (not-false _ h)

  in_record : (i : ℕ) → i < n → bad L s i ≡ true → SoundBelow i → (w : Verdict) → VerdictIs (or_fault (record_verdict L s i) w)
  in_record i l h below w = go (record_verdict L s i) refl (names i)
    where
      go : (v : Verdict) → record_verdict L s i ≡ v → Names i v → VerdictIs (or_fault v w)
      go (Ok u) e k = absurd (true≢false (sym (ap is_valid e) ∙ not-true _ h))
      go (Err flaw) e k = subst (λ (m : ℕ). VerdictIs (fault flaw.reason m)) (sym k) (l, inl (record { own = e ∙ ap (fault flaw.reason) k; lowest = below }))

  in_part : SoundBelow n → VerdictIs (parts_to L s n)
  in_part sound = go (first_to (repeated (L.view s)) (2 * n)) (first_is (repeated (L.view s)) (2 * n))
    where
      go : (r : Option ℕ) → FirstIs (repeated (L.view s)) (2 * n) r → VerdictIs (found r (λ k. fault Repeated (k / 2)) no_fault)
      go (Some k) h = (omega arith, inr (record { reason = refl; sound = sound; part = k; its = refl; repeats = h.1; lowest = h.2 }))
      go None h = tt

  pub verdict_is : VerdictIs (verdict L s)
  unfolding verdict
  verdict_is =
      subst (λ (v : Verdict). VerdictIs (or_fault v (parts_to L s n))) (sym (first_fault L s n)) (go (first_to (bad L s) n) (first_is (bad L s) n))
    where
      go : (r : Option ℕ) → FirstIs (bad L s) n r → VerdictIs (or_fault (found r (record_verdict L s) no_fault) (parts_to L s n))
      go (Some i) h = in_record i h.0 h.1 (λ j l. sound_at j (h.2 j l)) (parts_to L s n)
      go None h = in_part (λ j l. sound_at j (h j l))

  -- a fault names a record of the table
  pub fault-there : (r : Reason) (i : ℕ) → verdict L s ≡ fault r i → i < L.count s
  fault-there r i e = (subst VerdictIs e verdict_is).0
