-- The customer says of a bad table (02, L2): "Answer with the record and the reason instead: a flag wrong, or the level of a present part; a
-- digit or point code of a present part wrong; an absent part or spare octet not zero; a reservation not strictly above its holder in the
-- same domain; a reference that stands in an earlier part. Reasons within records come first, lowest record first, in that order; the
-- repeated reference comes after all of them and names the later record, the lowest such if several." And of a holder whose mark came off (02,
-- L4): "A table may hold level 15 with zero domain in the holder part only (else 41), with no reservation above (else 44)." And of octet 30, which
-- is 1 while a holder rings (02, L7): "Octet 30 belongs to the holder's part: not zero in an absent one is reason 43, above 1 in a present one 41, a
-- reservation above a ringing holder 44." Here the reasons are said of octets.
use Rattle.std.specs.Prelude.{ℕ, zero, suc, ◌+◌, ◌*◌, ◌/◌, ◌%◌, ◌<◌, ◌≤◌, ◌≡◌, ◌↔◌, ◌⊎◌, ◌≢◌, Bool, true, false, cond, ◌&&◌, ◌||◌, not, List, ◌∷◌, ◌++◌, length, get_or, replicate, eqb, leb, ltb}
use Rattle.octets.specs.Number.{octets}
use Rattle.rules.specs.Event.{well_formed}
use Rattle.rules.specs.Records.{event_at, event_in, answer_in, answer_number, checked, check_number}
use Rattle.route.specs.Entries.{event_number, event_table, event_answer, list_number, list_table, list_answers}
use Rattle.tally.specs.Entry.{figures_number}

abbrev pub check_record : List ℕ → ℕ  -- the record that the check gives, as check_number is the number
check_record t = (checked t).detail

-- ---- the octets of a table
abbrev pub octet : List ℕ → ℕ → ℕ  -- octet o of table t
octet t o = get_or t o 0

abbrev pub holder : ℕ → ℕ  -- the octet at which the holder's part of record i begins
holder i = 32 * i

abbrev pub reservation : ℕ → ℕ  -- the octet at which the reservation's part of record i begins
reservation i = 32 * i + 12

abbrev pub ringing : ℕ → ℕ  -- the octet of record i that says whether its holder rings
ringing i = 32 * i + 30

abbrev pub any_below : (ℕ → Bool) → ℕ → Bool  -- f holds of some number below n
any_below f zero = false
any_below f (suc n) = any_below f n || f n

abbrev pub not_zero_at : List ℕ → ℕ → Bool  -- octet o is not zero
not_zero_at t o = not (eqb (octet t o) 0)

abbrev pub any_not_zero : List ℕ → ℕ → ℕ → Bool  -- one of the n octets from octet o on is not zero
any_not_zero t o n = any_below (λ k. not_zero_at t (o + k)) n

abbrev pub any_differs : List ℕ → ℕ → ℕ → ℕ → Bool  -- one of the n octets from octet o on differs from that of the n from octet p on
any_differs t o p n = any_below (λ k. not (eqb (octet t (o + k)) (octet t (p + k)))) n

abbrev pub either_part : (ℕ → Bool) → ℕ → Bool  -- f holds of the holder's part of record i or of the reservation's
either_part f i = f (holder i) || f (reservation i)

-- ---- a part that begins at octet o: its octet 0 is the flag and 1 the level; 2-6 are the domain, with the four digits of the network
-- identity in 2 and 3; 7-11 are the reference, with the two spare bits of its point code on top of 11
abbrev pub present : List ℕ → ℕ → Bool  -- the part's flag is 1; else the part is absent
present t o = eqb (octet t o) 1

abbrev pub bad_flag : List ℕ → ℕ → Bool  -- the flag is neither 0 nor 1
bad_flag t o = not (eqb (octet t o) 0 || eqb (octet t o) 1)

abbrev pub bad_level : List ℕ → ℕ → Bool  -- the part is present, and its level above 4
bad_level t o = present t o && ltb 4 (octet t (o + 1))

-- the part has level 15 and a zero domain, as a holder's part may have whose mark came off (02, L4)
abbrev pub mark_off : List ℕ → ℕ → Bool
mark_off t o = eqb (octet t (o + 1)) 15 && not (any_not_zero t (o + 2) 5)

abbrev pub bad_holder_level : List ℕ → ℕ → Bool  -- the part is present, and its level above 4, but not 15 with a zero domain
bad_holder_level t o = present t o && (ltb 4 (octet t (o + 1)) && not (mark_off t o))

abbrev pub bad_digit : ℕ → Bool  -- the digit in the high half of this octet or the one in its low half is above 9
bad_digit b = ltb 9 (b / 16) || ltb 9 (b % 16)

-- the part is present, and a digit is above 9, or a spare bit is set: then octet 11 is 64 or more
abbrev pub bad_field : List ℕ → ℕ → Bool
bad_field t o =
    present t o && (bad_digit (octet t (o + 2)) || bad_digit (octet t (o + 3)) || leb 64 (octet t (o + 11)))

abbrev pub absent_not_zero : List ℕ → ℕ → ℕ → Bool  -- the part, of n octets, is absent, and one of its octets is not zero
absent_not_zero t o n = not (present t o) && any_not_zero t o n

-- the parts at octets p and o are present, and have the same reference
abbrev pub stands_in : List ℕ → ℕ → ℕ → Bool
stands_in t p o = present t p && present t o && not (any_differs t (p + 7) (o + 7) 5)

-- ---- octet 30, which belongs to the holder's part
abbrev pub bad_ringing : List ℕ → ℕ → Bool  -- record i has a holder, and octet 30 is above 1
bad_ringing t i = present t (holder i) && ltb 1 (octet t (ringing i))

abbrev pub holder_not_zero : List ℕ → ℕ → Bool  -- record i has no holder, and an octet of the holder's part (0-11, 30) is not zero
holder_not_zero t i = not (present t (holder i)) && (any_not_zero t (holder i) 12 || not_zero_at t (ringing i))

-- record i has a holder that keeps its circuit: its level is above 4, since its mark is off, or it rings
abbrev pub keeps : List ℕ → ℕ → Bool
keeps t i = present t (holder i) && (ltb 4 (octet t (holder i + 1)) || eqb (octet t (ringing i)) 1)

-- ---- the reasons
-- 41: a flag (octet 0 or 12) is neither 0 nor 1, or octet 30 of a present holder is above 1, or the level of a present part is above 4; but the
-- holder's may be 15 with a zero domain
abbrev pub flag_or_level : List ℕ → ℕ → Bool
flag_or_level t i =
    either_part (bad_flag t) i || bad_ringing t i || (bad_holder_level t (holder i) || bad_level t (reservation i))

-- 42: a digit of the network identity of a present part is above 9, or a spare bit of its point code is set
abbrev pub digit_or_point_code : List ℕ → ℕ → Bool
digit_or_point_code t i = either_part (bad_field t) i

-- 43: an octet of an absent part (0-11 and 30, 12-27) or octet 28, 29 or 31 is not zero
abbrev pub not_zero : List ℕ → ℕ → Bool
not_zero t i =
    holder_not_zero t i || absent_not_zero t (reservation i) 16
    || (not_zero_at t (32 * i + 28) || not_zero_at t (32 * i + 29) || not_zero_at t (32 * i + 31))

-- 44: both parts are present, and the holder keeps its circuit, or the reservation is not strictly above the holder (a smaller level number) in the
-- same domain
abbrev pub not_above : List ℕ → ℕ → Bool
not_above t i =
    present t (holder i) && present t (reservation i)
    && (keeps t i
    || any_differs t (reservation i + 2) (holder i + 2) 5 || not (ltb (octet t (reservation i + 1)) (octet t (holder i + 1))))

abbrev pub has : List ℕ → ℕ → ℕ → Bool  -- record i has reason k, of the four that a record has by itself
has t k i =
    cond (eqb k 41) (flag_or_level t i)
    (cond (eqb k 42) (digit_or_point_code t i)
    (cond (eqb k 43) (not_zero t i)
    (cond (eqb k 44) (not_above t i) false)))

abbrev pub in_lower : List ℕ → ℕ → ℕ → Bool  -- the reference of the part at octet o stands in a part of a record below i
in_lower t i o = any_below (either_part (λ p. stands_in t p o)) i

-- 45: a part of record i has a reference that stands in an earlier part, where the holder's part goes before the reservation's
abbrev pub repeats : List ℕ → ℕ → Bool
repeats t i = either_part (in_lower t i) i || stands_in t (holder i) (reservation i)

-- ---- "Tell us which record is bad"
-- "Reasons within records come first, lowest record first, in that order": record i has reason k, it has no earlier one, and no lower
-- record has any
pub record FirstBad (t : List ℕ) (k i : ℕ) : Type 0 where
  pub bad : has t k i ≡ true
  pub first : (m : ℕ) → m < k → has t m i ≡ false
  pub lowest : (m j : ℕ) → j < i → has t m j ≡ false

-- no record of table t has any reason by itself
abbrev pub NoneBad : List ℕ → Type 0
NoneBad t = (m i : ℕ) → i < length t / 32 → has t m i ≡ false

-- "the repeated reference comes after all of them and names the later record, the lowest such if several"
pub record FirstRepeated (t : List ℕ) (i : ℕ) : Type 0 where
  pub none-bad : NoneBad t
  pub later : repeats t i ≡ true
  pub lowest : (j : ℕ) → j < i → repeats t j ≡ false

-- FaultNamed: what the number and the record that the check gives say of the table's octets
pub record FaultNamed : Type 0 where
  pub by_itself : (t : List ℕ) → 41 ≤ check_number t → check_number t ≤ 44 → FirstBad t (check_number t) (check_record t)
  pub among-others : (t : List ℕ) → check_number t ≡ 45 → FirstRepeated t (check_record t)

-- RecordThere: at 41 to 45 the record is one of the table's, at 0 and 20 it is 65535, and the check gives no other number
abbrev pub RecordThere : Type 0
RecordThere =
    (t : List ℕ)
    → let k = check_number t in
    let i = check_record t in
    (((k ≡ 0) ⊎ (k ≡ 20)) × (i ≡ 65535)) ⊎ ((41 ≤ k) × (k ≤ 45) × (i < length t / 32))

-- "A table is 1 to 256 such records (32 to 8,192 octets)"
pub record RightLength (t : List ℕ) : Type 0 where
  pub whole : length t % 32 ≡ 0
  pub some : 32 ≤ length t
  pub most : length t ≤ 8192

-- the check gives 0 exactly at a right length and with none of the five reasons in any record, and 20 exactly at a wrong length
pub record ValidExactly : Type 0 where
  pub valid : (t : List ℕ) → (check_number t ≡ 0) ↔ (RightLength t × NoneBad t × ((i : ℕ) → i < length t / 32 → repeats t i ≡ false))
  pub wrong : (t : List ℕ) → (check_number t ≡ 20) ↔ (RightLength t → ⊥)

-- ---- "Everything that passes 21 on now passes reason and record on, the record in octets 2-3"
-- an answer with this number, cause 0, this record in octets 2-3, and twelve zeros
abbrev pub naming : ℕ → ℕ → List ℕ
naming k i = k ∷ 0 ∷ octets 2 i ++ replicate 12 0

-- what is answered to event e over a bad table t: what the check gives; but a malformed event is answered by 22 with 65535
abbrev pub passed : List ℕ → List ℕ → List ℕ
passed t e = cond (well_formed (event_at e)) (naming (check_number t) (check_record t)) (naming 22 65535)

-- the event entry leaves that answer, returns its number and keeps the table
pub record Passed (t e place : List ℕ) : Type 0 where
  pub answer : event_answer t e place ≡ passed t e
  pub number : event_number t e place ≡ answer_number (passed t e)
  pub table : event_table t e place ≡ t

-- the list entry leaves that answer for every event and keeps the table
pub record PassedList (t es places : List ℕ) : Type 0 where
  pub answers : (k : ℕ) → k < length es / 16 → answer_in (list_answers t es places) k ≡ passed t (event_in es k)
  pub table : list_table t es places ≡ t

-- PassedOn: over any table of right length of which the check does not give 0
pub record PassedOn : Type 0 where
  pub event : (t e place : List ℕ) → RightLength t → length e ≡ 16 → length place ≡ 16 → check_number t ≢ 0 → Passed t e place
  pub list : (t es places : List ℕ) → list_number t es places ≡ 0 → check_number t ≢ 0 → PassedList t es places

-- ---- "41 to 45, in the order named, replace 21 in its place"
-- TwentyOneGone: the check, the event entry, the list entry and the figures return no 21, and no answer that is written has it; a list that
-- is added to the figures has the list entry's answers, by SameAsList. By NumbersGiven (Printed) no other entry gives 21 either.
pub record TwentyOneGone : Type 0 where
  pub check : (t : List ℕ) → check_number t ≢ 21
  pub event : (t e place : List ℕ) → event_number t e place ≢ 21
  pub answer : (t e place : List ℕ) → event_number t e place ≢ 20 → answer_number (event_answer t e place) ≢ 21
  pub list : (t es places : List ℕ) → list_number t es places ≢ 21
  pub answers :
      (t es places : List ℕ) → list_number t es places ≡ 0
      → (k : ℕ) → k < length es / 16 → answer_number (answer_in (list_answers t es places) k) ≢ 21
  pub figures : (t es places f : List ℕ) → figures_number t es places f ≢ 21
