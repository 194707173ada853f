-- What the first pass over a list that is to be written finds.
use Rattle.std.specs.Prelude.{ℕ, ◌+◌, ◌≤◌, ◌≡◌, true, false, cond, ◌&&◌, List, [], ◌∷◌, Option, Some, None, Result, Ok, Err, length, leb}
use Rattle.rules.specs.declared.outcome.Refusal.TheVariants.{Malformed}
use Rattle.rules.specs.Numbers.{done, wrong_length, precedence_twice, refusal_number}
use Rattle.optional.specs.declared.survey.Survey.{Survey}
use Rattle.optional.specs.declared.write.Refused.{Refused}
use Rattle.optional.specs.List.{Item, items, whole}
use Rattle.optional.specs.Write.{refused_number, room, sound, all_sound, once, precedences}

-- one parameter more
abbrev pub further : Survey → Item → Survey
further h i =
    record { room = h.room + (2 + length i.contents); sound = h.sound && sound i; precedences = h.precedences + once i.name }

-- before the first
abbrev pub begun : Survey
begun = record { room = 1; sound = true; precedences = 0 }

-- what parameters make of a survey as they come; one that is cut short leaves none
abbrev pub surveyed : Survey → List (Option Item) → Option Survey
surveyed h [] = Some h
surveyed h (None ∷ es) = None
surveyed h (Some i ∷ es) = surveyed (further h i) es

-- what a survey says of the list
pub record Says (l : List ℕ) (h : Survey) : Type 0 where
  pub is_whole : whole l ≡ true
  pub needs : h.room ≡ room (items l)
  pub is_sound : h.sound ≡ all_sound (items l)
  pub gives : h.precedences ≡ precedences (items l)

abbrev pub Surveyed : List ℕ → Option Survey → Type 0
Surveyed l None = whole l ≡ false
Surveyed l (Some h) = Says l h

-- the number of a list that may be written or is refused
abbrev pub number_of : Result (Unit {0}) Refused → ℕ
number_of (Ok _) = done
number_of (Err why) = refused_number why

-- the number for a buffer of n octets: 20, then 22, then 63
unfoldable pub judged : Survey → ℕ → ℕ
judged h n =
    cond (leb h.room n)
    (cond h.sound
    (cond (leb h.precedences 1) done precedence_twice) (refusal_number Malformed)) wrong_length

-- what the second pass rests on: the list is whole, the buffer has room for it, and each parameter is sound
pub record Writable (b l : List ℕ) : Type 0 where
  pub is_whole : whole l ≡ true
  pub fits : room (items l) ≤ length b
  pub is_sound : all_sound (items l) ≡ true
