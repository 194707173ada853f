-- The reasons, said of octets, are those of the rules.
use Prim.Native.Nat.{ℕ, zero, suc, ◌+◌, ◌*◌, ◌/◌, ◌%◌}
use mathlib.Core.Path.{◌≡◌, refl, sym, ap, ap₂, ◌∙◌, subst, subst₃}
use mathlib.Core.Bool.{Bool, true, false, cond, ◌&&◌, ◌||◌, not, and-true, or_assoc, not-not}
use mathlib.Core.List.{List}
use native.Mathlib.Omega.{arith}
use lib.Dec.{eqb, leb, ltb}
use borrow.Author.Tests.{eqb-true, eqb-false, leb-true, leb-false, lt-ltb, le-ltb, lt-leb, ne_eqb, not-true, not-false}
use Rattle.octets.specs.Span.{span, zeros}
use Rattle.octets.specs.Same.{same}
use Rattle.octets.proofs.Tests.{and_assoc, by_eq, by_so}
use Rattle.octets.proofs.Spans.{length-span, span_at, zeros_more, zeros_then}
use Rattle.octets.proofs.Sames.{same_agree, same_differ}
use Rattle.rules.specs.declared.part.Part.{Part}
use Rattle.std.specs.Prelude.{Option, Some, None}
use Rattle.rules.specs.declared.verdict.Reason.TheVariants.{FlagOrLevel, DigitOrPointCode, NotZero, NotAbove}
use Rattle.rules.specs.Verdict.{fault, no_fault}
use Rattle.rules.specs.Fields.{decimal, point_code_ok}
use Rattle.rules.specs.Search.{first_to, or_else, found}
use Rattle.rules.specs.Circuit.{same_mark, no_precedence}
use Rattle.rules.specs.Valid.{held_under, levels_ok, fields_ok, pair_ok, part_numbered, clash, repeated, record_verdict}
use Rattle.rules.specs.Records.{part_at, circuit_at, holder_octets, spare_octets, flags_at, blank_at, records}
use Rattle.rules.proofs.Searches.{by_first}
use Rattle.rules.proofs.Numbered.{even, odd}
use Rattle.claims.specs.Named.{octet, holder, reservation, ringing, any_below, any_not_zero, any_differs, present, bad_level, mark_off, bad_holder_level, bad_digit, absent_not_zero, not_zero_at, flag_or_level, digit_or_point_code, not_zero, not_above, stands_in, in_lower, repeats}

-- ---- tests
-- rule p holds unless reason a does
record Unless (p a : Bool) : Type 0 where
  is : p ≡ not a

both_rules : {p q a b : Bool} → Unless p a → Unless q b → Unless (p && q) (a || b)
both_rules {p} {q} {a} {b} h g = record { is = ap₂ (λ (x y : Bool). x && y) h.is g.is ∙ neither a b }
  where
    neither : (x y : Bool) → not x && not y ≡ not (x || y)
    neither true y = refl
    neither false y = refl

either_rule : {p q a b : Bool} → Unless p a → Unless q b → Unless (p || q) (a && b)
either_rule {p} {q} {a} {b} h g = record { is = ap₂ (λ (x y : Bool). x || y) h.is g.is ∙ not_both a b }
  where
    not_both : (x y : Bool) → not x || not y ≡ not (x && y)
    not_both true y = refl
    not_both false y = refl

three_rules : {p q r a b c : Bool} → Unless p a → Unless q b → Unless r c → Unless (p && (q && r)) (a || b || c)
three_rules {p} {q} {r} h g k = record { is = sym (and_assoc p q r) ∙ (both_rules (both_rules h g) k).is }

-- of a part, present or absent by test c
if_present_lem : (c : Bool) {p a : Bool} → Unless p a → Unless (not c || p) (c && a)
if_present_lem true h = h
if_present_lem false h = record { is = refl }

if_absent : (c : Bool) {p a : Bool} → Unless p a → Unless (cond c true p) (not c && a)
if_absent true h = record { is = refl }
if_absent false h = h

if_both : (c d : Bool) {p a : Bool} → Unless p a → Unless (not c || (not d || p)) (c && d && a)
if_both true d h = if_present_lem d h
if_both false d h = record { is = refl }

turned : {p a : Bool} → Unless p a → not p ≡ a
turned {a} h = ap not h.is ∙ not-not a

by_not : (p : Bool) → Unless p (not p)
by_not p = record { is = sym (not-not p) }

by_so_not : (a : Bool) → Unless (not a) a
by_so_not a = record { is = refl }

not_above_lem : (a b : ℕ) → Unless (leb a b) (ltb b a)
not_above_lem a b =
    record {
      is = by_so (leb a b) (λ h. h ∙ sym (ap not (le-ltb b a (leb-true a b h)))) (λ h. h ∙ sym (ap not (lt-ltb b a (leb-false a b h))));
    }

below : (a b : ℕ) → Unless (ltb a b) (leb b a)
below a b = record { is = sym (not-not (ltb a b)) ∙ ap not (sym (not_above_lem b a).is) }

flag_fine : (n : ℕ) → Unless (leb n 1) (not (eqb n 0 || eqb n 1))
flag_fine n =
    by_eq n 0 (λ e. subst Fine (sym e) (record { is = refl }))
    (λ a.
    by_eq n 1 (λ e. subst Fine (sym e) (record { is = refl }))
    (λ b. record { is = lt-leb n 1 (omega arith) ∙ sym (ap₂ (λ (x y : Bool). not (not (x || y))) (ne_eqb n 0 a) (ne_eqb n 1 b)) }))
  where
    Fine : ℕ → Type 0
    Fine m = Unless (leb m 1) (not (eqb m 0 || eqb m 1))

-- ---- some number below n
any_found : (f : ℕ → Bool) (n : ℕ) → any_below f n ≡ found (first_to f n) (λ j. true) false
any_found f zero = refl
any_found f (suc n) = ap (λ (b : Bool). b || f n) (any_found f n) ∙ go (first_to f n) (f n)
  where
    go : (r : Option ℕ) (b : Bool) → found r (λ j. true) false || b ≡ found (or_else r (cond b (Some n) None)) (λ j. true) false
    go (Some i) b = refl
    go None true = refl
    go None false = refl

-- two at a time
any_pairs : (f : ℕ → Bool) (n : ℕ) → any_below f (2 * n) ≡ any_below (λ j. f (2 * j) || f (2 * j + 1)) n
any_pairs f zero = refl
any_pairs f (suc n) =
    let more : 2 * suc n ≡ suc (suc (2 * n)) = omega arith in
    let last : suc (2 * n) ≡ 2 * n + 1 = omega arith in
    ap (any_below f) more ∙ ap₂ (λ (b : Bool) (k : ℕ). b || f (2 * n) || f k) (any_pairs f n) last ∙ or_assoc (any_below (λ j. f (2 * j) || f (2 * j + 1)) n) (f (2 * n)) (f (2 * n + 1))

-- ---- octets
digits_fine : (b : ℕ) → Unless (leb (b / 16) 9 && leb (b % 16) 9) (bad_digit b)
digits_fine b = both_rules (not_above_lem (b / 16) 9) (not_above_lem (b % 16) 9)

module _ (t : List ℕ) where
  zeros_are : (o n : ℕ) → Unless (zeros (span t o n)) (any_not_zero t o n)
  zeros_are o zero = record { is = refl }
  zeros_are o (suc n) =
      record { is = zeros_more t o n ∙ (both_rules (zeros_are o n) (by_not (eqb (octet t (o + n)) 0))).is }

  same_are : (o p n : ℕ) → Unless (same (span t o n) (span t p n)) (any_differs t o p n)
  same_are o p n =
      subst (Unless (same (span t o n) (span t p n))) (sym (any_found differs n))
      (by_first (Unless (same (span t o n) (span t p n))) differs n (λ j. true) false
      (λ i l h. record { is = same_differ (span t o n) (span t p n) i (λ e. eqb-false _ _ (not-true _ h) (sym (span_at t o n i l) ∙ e ∙ span_at t p n i l)) })
      (λ none.
      record {
        is =
            same_agree (span t o n) (span t p n) n (length-span t o n) (length-span t p n)
            (λ j l. span_at t o n j l ∙ eqb-true _ _ (not-false _ (none j l)) ∙ sym (span_at t p n j l));
      }))
    where
      differs : ℕ → Bool
      differs k = not (eqb (octet t (o + k)) (octet t (p + k)))

  -- ---- a part that begins at octet o
  level_fine : (o : ℕ) → Unless (not (present t o) || leb (octet t (o + 1)) 4) (bad_level t o)
  level_fine o = if_present_lem (present t o) (not_above_lem (octet t (o + 1)) 4)

  -- level 15 and a zero domain are the mark of a call under no precedence
  mark_off_lem : (o : ℕ) → Unless (same_mark (part_at t o).mark no_precedence) (not (mark_off t o))
  mark_off_lem o = record { is = ap (λ (b : Bool). eqb (octet t (o + 1)) 15 && b) (zeros_are (o + 2) 5).is ∙ (by_not (mark_off t o)).is }

  holder_level_fine : (o : ℕ) → Unless (not (present t o) || held_under (part_at t o).mark) (bad_holder_level t o)
  holder_level_fine o = if_present_lem (present t o) (either_rule (not_above_lem (octet t (o + 1)) 4) (mark_off_lem o))

  absent_fine : (o n : ℕ) → Unless (cond (present t o) true (zeros (span t o n))) (absent_not_zero t o n)
  absent_fine o n = if_absent (present t o) (zeros_are o n)

  field_fine : (o : ℕ) → Unless (decimal (span t (o + 2) 5) && point_code_ok (span t (o + 7) 5)) (bad_digit (octet t (o + 2)) || bad_digit (octet t (o + 3)) || leb 64 (octet t (o + 11)))
  unfolding decimal point_code_ok
  field_fine o =
      let first : o + 2 + 0 ≡ o + 2 = omega arith in
      let second : o + 2 + 1 ≡ o + 3 = omega arith in
      let last : o + 7 + 4 ≡ o + 11 = omega arith in
      subst₃ (λ (a b c : ℕ). Unless (decimal (span t (o + 2) 5) && point_code_ok (span t (o + 7) 5)) (bad_digit (octet t a) || bad_digit (octet t b) || leb 64 (octet t c))) first second last
      (both_rules (both_rules (digits_fine (octet t (o + 2 + 0))) (digits_fine (octet t (o + 2 + 1)))) (below (octet t (o + 7 + 4)) 64))

  -- ---- record i by itself
  module _ (i : ℕ) where
    levels_fine : Unless (flags_at t i && levels_ok (circuit_at t i)) (flag_or_level t i)
    unfolding flags_at levels_ok
    levels_fine =
        both_rules
        (three_rules (flag_fine (octet t (holder i))) (flag_fine (octet t (reservation i))) (if_present_lem (present t (holder i)) (not_above_lem (octet t (ringing i)) 1)))
        (both_rules (holder_level_fine (holder i)) (level_fine (reservation i)))

    fields_fine : Unless (fields_ok point_code_ok (circuit_at t i)) (digit_or_point_code t i)
    unfolding fields_ok
    fields_fine =
        both_rules (if_present_lem (present t (holder i)) (field_fine (holder i))) (if_present_lem (present t (reservation i)) (field_fine (reservation i)))

    holder-zero : Unless (zeros (holder_octets t i)) (any_not_zero t (holder i) 12 || not_zero_at t (ringing i))
    holder-zero =
        record {
          is = zeros_then (span t (holder i) 12) (octet t (ringing i)) ∙ (both_rules (zeros_are (holder i) 12) (by_not (eqb (octet t (ringing i)) 0))).is;
        }

    spare_zero : Unless (zeros (spare_octets t i)) (not_zero_at t (32 * i + 28) || not_zero_at t (32 * i + 29) || not_zero_at t (32 * i + 31))
    spare_zero =
        let zero : (o : ℕ) → Bool = λ o. eqb (octet t o) 0 in
        record {
          is =
              ap (λ (b : Bool). zero (32 * i + 28) && (zero (32 * i + 29) && b)) (and-true (zero (32 * i + 31)))
              ∙ (three_rules (by_not (zero (32 * i + 28))) (by_not (zero (32 * i + 29))) (by_not (zero (32 * i + 31)))).is;
        }

    blank_fine : Unless (blank_at t i) (not_zero t i)
    unfolding blank_at
    blank_fine = three_rules (if_absent (present t (holder i)) holder-zero) (absent_fine (reservation i) 16) spare_zero

    pair_fine : Unless (pair_ok (circuit_at t i)) (not_above t i)
    unfolding pair_ok
    pair_fine =
        if_both (present t (holder i)) (present t (reservation i))
        (three_rules (if_present_lem (present t (holder i)) (both_rules (not_above_lem (octet t (holder i + 1)) 4) (by_so_not (eqb (octet t (ringing i)) 1)))) (same_are (reservation i + 2) (holder i + 2) 5) (by_not (ltb (octet t (reservation i + 1)) (octet t (holder i + 1)))))

    pub record_is : record_verdict records t i ≡ cond (flag_or_level t i) (fault FlagOrLevel i) (cond (digit_or_point_code t i) (fault DigitOrPointCode i) (cond (not_zero t i) (fault NotZero i) (cond (not_above t i) (fault NotAbove i) no_fault)))
    unfolding record_verdict records
    record_is =
        λ d.
        cond (turned levels_fine d) (fault FlagOrLevel i)
        (cond (turned fields_fine d) (fault DigitOrPointCode i)
        (cond (turned blank_fine d) (fault NotZero i)
        (cond (turned pair_fine d) (fault NotAbove i) no_fault)))

  -- ---- record i among others
  stands_is : (p o : ℕ) → clash (part_at t p) (part_at t o) ≡ stands_in t p o
  stands_is p o = ap (λ (b : Bool). present t p && present t o && b) (same_are (p + 7) (o + 7) 5).is

  abbrev part : ℕ → Part
  part = part_numbered (circuit_at t)

  part-holder : (i : ℕ) → part (2 * i) ≡ part_at t (holder i)
  part-holder = even (λ i. (circuit_at t i).holder) (λ i. (circuit_at t i).reservation)

  part-reservation : (i : ℕ) → part (2 * i + 1) ≡ part_at t (reservation i)
  part-reservation = odd (λ i. (circuit_at t i).holder) (λ i. (circuit_at t i).reservation)

  lower_is : (i o : ℕ) → any_below (λ j. clash (part j) (part_at t o)) (2 * i) ≡ in_lower t i o
  lower_is i o =
      let stands : (k p : ℕ) → part k ≡ part_at t p → clash (part k) (part_at t o) ≡ stands_in t p o = λ k p e. ap (λ (q : Part). clash q (part_at t o)) e ∙ stands_is p o in
      any_pairs (λ j. clash (part j) (part_at t o)) i
      ∙ (λ d. any_below (λ j. stands (2 * j) (holder j) (part-holder j) d || stands (2 * j + 1) (reservation j) (part-reservation j) d) i)

  repeated_any : (k o : ℕ) → part k ≡ part_at t o → repeated (circuit_at t) k ≡ any_below (λ j. clash (part j) (part_at t o)) k
  unfolding repeated
  repeated_any k o e =
      sym (any_found (λ j. clash (part j) (part k)) k) ∙ ap (λ (q : Part). any_below (λ j. clash (part j) q) k) e

  pub repeats_is : (i : ℕ) → repeats t i ≡ repeated (circuit_at t) (2 * i) || repeated (circuit_at t) (2 * i + 1)
  repeats_is i =
      let one : 2 * i + 1 ≡ suc (2 * i) = omega arith in
      let o = reservation i in
      let own = ap (λ (q : Part). clash q (part_at t o)) (part-holder i) ∙ stands_is (holder i) o in
      or_assoc (in_lower t i (holder i)) (in_lower t i o) (stands_in t (holder i) o)
      ∙ sym
      (ap₂ (λ (a b : Bool). a || b) (repeated_any (2 * i) (holder i) (part-holder i) ∙ lower_is i (holder i))
      (repeated_any (2 * i + 1) o (part-reservation i) ∙ ap (any_below (λ j. clash (part j) (part_at t o))) one ∙ ap₂ (λ (a b : Bool). a || b) (lower_is i o) own))
