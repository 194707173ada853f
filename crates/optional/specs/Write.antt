-- This is 02, L5: "A writer puts a parameter list back".
use Rattle.std.specs.Prelude.{ℕ, ◌+◌, Bool, true, cond, ◌&&◌, ◌||◌, not, List, [], ◌∷◌, ◌++◌, Result, Ok, Err, length, eqb, leb}
use Rattle.octets.specs.Span.{put}
use Rattle.rules.specs.declared.outcome.Refusal.TheVariants as refusal
use Rattle.rules.specs.Numbers.{done, wrong_length, precedence_twice, refusal_number}
use Rattle.fields.specs.Precedence.{read_precedence, spareless}
use Rattle.optional.specs.declared.write.Refused.{Refused}
use Rattle.optional.specs.declared.write.Refused.TheVariants.{WrongLength, Malformed, PrecedenceTwice}
use Rattle.optional.specs.declared.write.Written.{Written}
use Rattle.optional.specs.Part.{end_name, precedence_name}
use Rattle.optional.specs.List.{Item, items, whole}

abbrev pub is_precedence : Item → Bool
is_precedence i = eqb i.name precedence_name

-- a parameter as it is written: precedence has its spare bits 0
abbrev pub plain : Item → Item
plain i = record { name = i.name; contents = cond (is_precedence i) (spareless i.contents) i.contents }

-- its octets: "a name octet, a length octet and contents"
abbrev pub octets_of : Item → List ℕ
octets_of i = i.name ∷ length i.contents ∷ (plain i).contents

-- the part: the parameters in their order, "and name 0 ends the part"
abbrev pub part_of : List Item → List ℕ
part_of [] = end_name ∷ []
part_of (i ∷ is) = octets_of i ++ part_of is

-- "20 for too little room": 2 octets a parameter, its contents at their real length, and 1 for the end
abbrev pub room : List Item → ℕ
room [] = 1
room (i ∷ is) = 2 + length i.contents + room is

-- "then 22 for a name 0, a content over 255 octets or a malformed precedence"
abbrev pub sound : Item → Bool
sound i =
    not (eqb i.name end_name)
    && (leb (length i.contents) 255 && (not (is_precedence i) || eqb (read_precedence i.contents).number done))

abbrev pub all_sound : List Item → Bool
all_sound [] = true
all_sound (i ∷ is) = sound i && all_sound is

abbrev pub once : ℕ → ℕ  -- 1 for the name of precedence, else 0
once name = cond (eqb name precedence_name) 1 0

-- "then 63": how often precedence is given
abbrev pub precedences : List Item → ℕ
precedences [] = 0
precedences (i ∷ is) = once i.name + precedences is

-- x where the list l is written into the buffer b, else what a refusal gives: each test is of the whole list before the next. A list that is itself cut
-- short has a wrong length too.
abbrev pub given : {A : Type 0} → List ℕ → List ℕ → A → (ℕ → A) → A
given b l x refuse =
    cond (whole l)
    (cond (leb (room (items l)) (length b))
    (cond (all_sound (items l))
    (cond (leb (precedences (items l)) 1) x (refuse precedence_twice)) (refuse (refusal_number refusal.Malformed))) (refuse wrong_length)) (refuse wrong_length)

-- the number of a refusal
abbrev pub refused_number : Refused → ℕ
refused_number WrongLength = wrong_length
refused_number Malformed = refusal_number refusal.Malformed
refused_number PrecedenceTwice = precedence_twice

-- what C gets of what the writer did
abbrev pub written : Result ℕ Refused → Written
written (Ok end) = record { number = done; end = end }
written (Err why) = record { number = refused_number why; end = 0 }

-- number 0 and how many octets were written, or a refusal and none
unfoldable pub write : List ℕ → List ℕ → Written
write b l = given b l (record { number = done; end = room (items l) }) (λ k. record { number = k; end = 0 })

-- "and leaves the buffer; when it writes, octets behind the end stay"
unfoldable pub write_buffer : List ℕ → List ℕ → List ℕ
write_buffer b l = given b l (put b 0 (part_of (items l))) (λ _. b)
