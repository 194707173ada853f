-- This is 02, L1, "The day's figures": what a list that is to be added gives back and leaves in table, answers and totals.
use Rattle.std.specs.Prelude.{ℕ, zero, suc, ◌+◌, Bool, true, cond, ◌&&◌, List, [], ◌∷◌, length, get_or, eqb, ltb, Result, Ok, Err}
use Rattle.tally.specs.declared.Refused.{Refused}
use Rattle.tally.specs.declared.Refused.TheVariants.{WrongLength, TooManyLists}
use Rattle.rules.specs.Numbers.{done, wrong_length}
use Rattle.rules.specs.Records.{records}
use Rattle.route.specs.Entries.{events_in, list_lengths, list_table, list_answers}
use Rattle.tally.specs.Places as place
use Rattle.tally.specs.Shares.{list_adds}

abbrev pub too_many_lists : ℕ  -- "60 for a list too many, after 20"
too_many_lists = 60

abbrev pub most_lists : ℕ  -- "at most 65,536 lists"
most_lists = 65536

abbrev pub full : ℕ  -- a total of 2^64 - 4,096 has no room in 64 bits for what a list may add to it: 4,096
full = 18446744073709547520

abbrev pub below_to : ℕ → List ℕ → ℕ → Bool  -- each of the first k totals is below m
below_to m f zero = true
below_to m f (suc k) = below_to m f k && ltb (get_or f k 0) m

unfoldable pub has_room : List ℕ → Bool  -- another list may be added to the totals f
has_room f = ltb (get_or f place.lists 0) most_lists && below_to full f place.figures

abbrev pub added : (ℕ → ℕ) → List ℕ → List ℕ  -- the totals with n j added to total j
added n [] = []
added n (x ∷ f) = (x + n 0) ∷ added (λ j. n (suc j)) f

-- ---- a list: table t, events es, answer places, totals f
-- the lengths are those of a list, and there are 95 totals
unfoldable pub figures_lengths : List ℕ → List ℕ → List ℕ → List ℕ → Bool
figures_lengths t es places f = list_lengths t es places && eqb (length f) place.figures

abbrev pub refused_number : Refused → ℕ  -- the number of a refusal
refused_number WrongLength = wrong_length
refused_number TooManyLists = too_many_lists

abbrev pub number_of : Result Unit Refused → ℕ  -- the number by which the entry's result is given back
number_of (Ok u) = done
number_of (Err refusal) = refused_number refusal

unfoldable pub figures_number : List ℕ → List ℕ → List ℕ → List ℕ → ℕ  -- 0, 20 or 60
figures_number t es places f = cond (figures_lengths t es places f) (cond (has_room f) done too_many_lists) wrong_length

unfoldable pub is_added : List ℕ → List ℕ → List ℕ → List ℕ → Bool  -- the list is carried out and added; "a refused list adds nothing"
is_added t es places f = figures_lengths t es places f && has_room f

-- table and answers are those of the list entry
unfoldable pub figures_table : List ℕ → List ℕ → List ℕ → List ℕ → List ℕ
figures_table t es places f = cond (is_added t es places f) (list_table t es places) t

unfoldable pub figures_answers : List ℕ → List ℕ → List ℕ → List ℕ → List ℕ
figures_answers t es places f = cond (is_added t es places f) (list_answers t es places) places

unfoldable pub figures_totals : List ℕ → List ℕ → List ℕ → List ℕ → List ℕ  -- each total with what the list adds to it
figures_totals t es places f = cond (is_added t es places f) (added (list_adds records t (events_in es)) f) f
