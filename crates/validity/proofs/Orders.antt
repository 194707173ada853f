-- To a record in order no reason applies.
use Rattle.rules.specs.Verdict.{no_fault}
use Prim.Native.Nat.{ℕ, ◌+◌, ◌*◌, ◌<◌}
use mathlib.Core.Path.{◌≡◌, refl, sym, ap, ◌∙◌}
use mathlib.Core.Bool.{Bool, true, false, cond, ◌&&◌, ◌||◌, not, or-true, true≢false}
use mathlib.Core.List.{List, [], ◌∷◌}
use native.Mathlib.Omega.{arith}
use lib.ListN.{get_or}
use lib.Dec.{leb, eqb}
use borrow.Author.Tests.{eqb-true, le-leb}
use Rattle.octets.specs.Span.{span, zeros}
use Rattle.octets.specs.Same.{same}
use Rattle.octets.proofs.Tests.{and_left, and_right, and_both, halves, by_so, by_test}
use Rattle.octets.proofs.Spans.{span_at, agree_first, zeros_agree, zeros_all, zeros_then}
use Rattle.octets.proofs.Sames.{same_true}
use Rattle.rules.specs.declared.part.Part.{Part}
use Rattle.rules.specs.declared.circuit.Circuit.{Circuit}
use Rattle.rules.specs.Fields.{level_ok}
use Rattle.rules.specs.Circuit.{outranks, same_mark, no_precedence, preemptable}
use Rattle.rules.specs.Valid.{if_present, held_under, levels_ok, fields_ok, pair_ok, record_verdict}
use Rattle.rules.specs.Records.{circuit_size, part_at, circuit_at, holder_octets, reservation_octets, spare_octets, tail_octets, state_octets, flags_at, zero_if_absent, blank_at, records}
use Rattle.rules.proofs.Sound.{if_present_lem, present_so}
use Rattle.rules.proofs.Faults.{valid_is, record-valid}
use Rattle.validity.specs.Order.{fields_fit, fit, part_in_order, above, rings_in_order, after_holder, in_order}

module _ (t : List ℕ) (o w : ℕ) where
  abbrev part : Part  -- the part of w octets from octet o on
  part = part_at t o

  abbrev levels : Bool
  levels = level_ok part.mark.level.0

  abbrev Apart : Type 0  -- what the reasons ask of the part, one by one
  Apart =
      (leb (get_or t o 0) 1 ≡ true) × (if_present part levels ≡ true) × (if_present part (fields_fit part) ≡ true) × (zero_if_absent part (span t o w) ≡ true)

  -- each test, by the flag
  quick : {b : Bool} → part.present ≡ b → part_in_order part (span t o w) ≡ cond b (levels && fields_fit part) (zeros (span t o w))
  quick e = ap (λ (b : Bool). cond b (levels && fields_fit part) (zeros (span t o w))) e

  if_there : (x : Bool) {b : Bool} → part.present ≡ b → if_present part x ≡ not b || x
  if_there x e = ap (λ (b : Bool). not b || x) e

  if_absent : {b : Bool} → part.present ≡ b → zero_if_absent part (span t o w) ≡ cond b true (zeros (span t o w))
  if_absent e = ap (λ (b : Bool). cond b true (zeros (span t o w))) e

  apart : 0 < w → part_in_order part (span t o w) ≡ true → Apart
  apart l h = by_so part.present here absent
    where
      here : part.present ≡ true → Apart
      here e =
          let one = eqb-true (get_or t o 0) 1 e in
          let both = sym (quick e) ∙ h in
          (le-leb (get_or t o 0) 1 (omega arith), if_there levels e ∙ and_left levels (fields_fit part) both, if_there (fields_fit part) e ∙ and_right levels (fields_fit part) both, if_absent e)

      absent : part.present ≡ false → Apart
      absent e =
          let none : get_or t o 0 ≡ 0 = agree_first t o [] 0 w (zeros_agree t o w (sym (quick e) ∙ h)) l in
          (le-leb (get_or t o 0) 1 (omega arith), if_there levels e, if_there (fields_fit part) e, if_absent e ∙ sym (quick e) ∙ h)

-- a holder under a precedence may stand there, and may lose its circuit
held-under : (p : Part) → if_present p (level_ok p.mark.level.0) ≡ true → if_present p (held_under p.mark) ≡ true
held-under p h =
    if_present_lem p (held_under p.mark) (λ q. ap (λ (b : Bool). b || same_mark p.mark no_precedence) (present_so p (level_ok p.mark.level.0) h q))

-- two parts under a precedence, of which the reservation is above the holder, who does not ring
pair_above : (c : Circuit) → if_present c.holder (level_ok c.holder.mark.level.0) ≡ true → c.ringing ≡ false → above c ≡ true → pair_ok c ≡ true
unfolding pair_ok
pair_above c under still h =
    let over = outranks c.reservation.mark c.holder.mark in
    let level = level_ok c.holder.mark.level.0 in
    if_present_lem c.holder (if_present c.reservation (preemptable c && over))
    (λ q.
    if_present_lem c.reservation (preemptable c && over)
    (λ r.
    and_both (preemptable c) over
    (if_present_lem c.holder (level && not c.ringing) (λ q. and_both level (not c.ringing) (present_so c.holder level under q) (ap not still)))
    (present_so c.holder over h q)))

-- where there is no reservation, the reasons ask nothing of the two parts together
pair_absent : (c : Circuit) → c.reservation.present ≡ false → pair_ok c ≡ true
unfolding pair_ok
pair_absent c e = simp (e, or-true)

module _ (t : List ℕ) (i : ℕ) where
  abbrev c : Circuit
  c = circuit_at t i

  abbrev octet30 : ℕ
  octet30 = get_or t (circuit_size * i + 30) 0

  -- what the reasons ask of the last four octets
  record Tail : Type 0 where
    small : leb octet30 1 ≡ true
    nobody : c.holder.present ≡ false → eqb octet30 0 ≡ true
    under : c.reservation.present ≡ true → c.ringing ≡ false
    spare : zeros (spare_octets t i) ≡ true

  -- where the last four octets are these, so is each of them
  tail_at : (l : List ℕ) → tail_octets t i ≡ l → (k m : ℕ) → m ≡ circuit_size * i + 28 + k → k < 4 → get_or t m 0 ≡ get_or l k 0
  tail_at l is k m e n = ap (λ (m : ℕ). get_or t m 0) e ∙ sym (span_at t (circuit_size * i + 28) 4 k n) ∙ ap (λ (l : List ℕ). get_or l k 0) is

  -- those of no part are zero
  spare_zero : (rings : Bool) → tail_octets t i ≡ 0 ∷ 0 ∷ state_octets rings → zeros (spare_octets t i) ≡ true
  spare_zero rings is =
      let at = tail_at (0 ∷ 0 ∷ state_octets rings) is in
      λ d.
      zeros (at 0 (circuit_size * i + 28) (omega arith) (omega arith) d ∷ at 1 (circuit_size * i + 29) (omega arith) (omega arith) d ∷ at 3 (circuit_size * i + 31) (omega arith) (omega arith) d ∷ [])

  tail_zero : zeros (tail_octets t i) ≡ true → Tail
  tail_zero z =
      let is : tail_octets t i ≡ 0 ∷ 0 ∷ state_octets false = zeros_all (tail_octets t i) z in
      let none = tail_at (0 ∷ 0 ∷ state_octets false) is 2 (circuit_size * i + 30) (omega arith) (omega arith) in
      record {
        small = ap (λ (k : ℕ). leb k 1) none;
        nobody = λ e. ap (λ (k : ℕ). eqb k 0) none;
        under = λ e. ap (λ (k : ℕ). eqb k 1) none;
        spare = spare_zero false is;
      }

  -- a holder that rings, with no reservation above
  tail_rings : c.reservation.present ≡ false → c.holder.present ≡ true → same (tail_octets t i) (0 ∷ 0 ∷ state_octets true) ≡ true → Tail
  tail_rings free held q =
      let is = same_true (tail_octets t i) (0 ∷ 0 ∷ state_octets true) q in
      let one = tail_at (0 ∷ 0 ∷ state_octets true) is 2 (circuit_size * i + 30) (omega arith) (omega arith) in
      record {
        small = ap (λ (k : ℕ). leb k 1) one;
        nobody = λ e. absurd (true≢false (sym held ∙ e));
        under = λ e. absurd (true≢false (sym e ∙ free));
        spare = spare_zero true is;
      }

  -- where its octets are zero, there is no reservation
  unreserved : zeros (reservation_octets t i) ≡ true → c.reservation.present ≡ false
  unreserved z = ap (λ (k : ℕ). eqb k 1) (agree_first t (circuit_size * i + 12) [] 0 16 (zeros_agree t (circuit_size * i + 12) 16 z) (omega arith))

  -- the reservation's part by itself, the two together, and the last four octets
  rest : if_present c.holder (level_ok c.holder.mark.level.0) ≡ true → after_holder t i ≡ true → Tail × (part_in_order c.reservation (reservation_octets t i) ≡ true) × (pair_ok c ≡ true)
  rest under h = by_test (λ (b : Bool). b ≡ true → Rest) (zeros (tail_octets t i)) _ (rings_in_order t i) still (λ z. rings) h
    where
      Rest : Type 0
      Rest = Tail × (part_in_order c.reservation (reservation_octets t i) ≡ true) × (pair_ok c ≡ true)

      by_flag : {b : Bool} → c.reservation.present ≡ b → part_in_order c.reservation (reservation_octets t i) ≡ cond b (fit c.reservation) (zeros (reservation_octets t i))
      by_flag e = ap (λ (b : Bool). cond b (fit c.reservation) (zeros (reservation_octets t i))) e

      there : Tail → c.reservation.present ≡ true → fit c.reservation && above c ≡ true → Rest
      there tail e h =
          let both = halves h in
          (tail, by_flag e ∙ both.0, pair_above c under (tail.under e) both.1)

      absent : Tail → zeros (reservation_octets t i) ≡ true → Rest
      absent tail z =
          let free = unreserved z in
          (tail, by_flag free ∙ z, pair_absent c free)

      still : zeros (tail_octets t i) ≡ true → cond c.reservation.present (fit c.reservation && above c) (zeros (reservation_octets t i)) ≡ true → Rest
      still z =
          by_test (λ (b : Bool). b ≡ true → Rest) c.reservation.present (fit c.reservation && above c) (zeros (reservation_octets t i))
          (there (tail_zero z))
          (λ e. absent (tail_zero z))

      rings : rings_in_order t i ≡ true → Rest
      rings q =
          let held = halves q in
          let both = halves held.1 in
          absent (tail_rings (unreserved both.1) held.0 both.0) both.1

  -- the whole of the holder's part is zero where there is no holder
  holder-zero : Tail → zero_if_absent c.holder (span t (circuit_size * i) 12) ≡ true → zero_if_absent c.holder (holder_octets t i) ≡ true
  holder-zero tail h =
      by_so c.holder.present (λ e. ap (λ (b : Bool). cond b true (zeros (holder_octets t i))) e)
      (λ e.
      let first : zeros (span t (circuit_size * i) 12) ≡ true = sym (ap (λ (b : Bool). cond b true (zeros (span t (circuit_size * i) 12))) e) ∙ h in
      ap (λ (b : Bool). cond b true (zeros (holder_octets t i))) e
      ∙ zeros_then (span t (circuit_size * i) 12) octet30
      ∙ and_both _ _ first (tail.nobody e))

  pub in_order_lem : in_order t i ≡ true → record_verdict records t i ≡ no_fault
  unfolding in_order records levels_ok fields_ok flags_at blank_at
  in_order_lem h =
      let first = halves h in
      let a = apart t (circuit_size * i) 12 (omega arith) first.0 in
      let last = rest a.1 first.1 in
      let tail = last.0 in
      let b = apart t (circuit_size * i + 12) 16 (omega arith) last.1 in
      valid_is (record_verdict records t i)
      (record-valid records t i
      ∙ and_both _ _
      (and_both _ _ (and_both _ _ a.0 (and_both _ _ b.0 (if_present_lem c.holder _ (λ q. tail.small)))) (and_both _ _ (held-under c.holder a.1) b.1))
      (and_both _ _ (and_both _ _ a.2 b.2) (and_both _ _ (and_both _ _ (holder-zero tail a.3) (and_both _ _ b.3 tail.spare)) (and_both _ _ last.2 refl))))
