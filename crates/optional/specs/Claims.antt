-- This is 02, L5: what reading and writing are to each other, and to the octets behind the end.
use Rattle.std.specs.Prelude.{ℕ, ◌+◌, ◌≤◌, ◌<◌, ◌≡◌, true, false, cond, List, [], ◌∷◌, ◌++◌, map, length, get_or, take}
use Rattle.octets.specs.Number.{octets}
use Rattle.rules.specs.Numbers.{done, wrong_length}
use Rattle.fields.specs.declared.precedence.Precedence.{Precedence}
use Rattle.fields.specs.Precedence.{read_precedence}
use Rattle.optional.specs.declared.part.Parameter.{Parameter}
use Rattle.optional.specs.Part.{is_parameter, contents, walk}
use Rattle.optional.specs.Search.{no_value, find}
use Rattle.optional.specs.List.{Item, items, whole}
use Rattle.optional.specs.Write.{is_precedence, plain, precedences, write, write_buffer}

-- a parameter list as it is lent
abbrev pub lent : List Item → List ℕ
lent [] = []
lent (i ∷ is) = i.name ∷ (octets 2 (length i.contents) ++ (i.contents ++ lent is))

-- every parameter list can be lent, in octets where no contents have more than 65,535: its parameters are read from them, and none is cut short
abbrev pub Lent : Type 0
Lent = (is : List Item) → (whole (lent is) ≡ true) × (items (lent is) ≡ is)

-- the parameters that a walk through s meets, names and contents as they stand
abbrev pub listed : List ℕ → List Parameter → List Item
listed s [] = []
listed s (p ∷ ps) = cond (is_parameter p) (record { name = p.name; contents = contents s p } ∷ listed s ps) (listed s ps)

unfoldable pub read : List ℕ → List Item
read s = listed s (walk s)

-- "reading what it wrote gives the list, with the precedence's spare bits 0"
abbrev pub ReadBack : Type 0
ReadBack = (b l : List ℕ) → (write b l).number ≡ done → read (write_buffer b l) ≡ map plain (items l)

-- where precedence stands in a list that is written from a place on, and what it says; nowhere, and zeros, if it is not there
abbrev pub start_in : ℕ → List Item → ℕ
start_in at [] = 0
start_in at (i ∷ is) = cond (is_precedence i) (at + 2) (start_in (at + 2 + length i.contents) is)

abbrev pub value_in : List Item → Precedence
value_in [] = no_value
value_in (i ∷ is) = cond (is_precedence i) (read_precedence i.contents).value (value_in is)

-- precedence is found in what it wrote exactly if the list has it, at its place and with its values, and the part ends where the writer says
abbrev pub FoundBack : Type 0
FoundBack =
    (b l : List ℕ) → (write b l).number ≡ done
    → find (write_buffer b l)
    ≡ record { number = done; found = precedences (items l); start = start_in 0 (items l); end = (write b l).end; value = value_in (items l) }

-- "The end is the first name 0; octets behind it are neither read nor refused."
abbrev pub Behind : Type 0
Behind = (s t : List ℕ) → (find s).number ≡ done → find (take (find s).end s ++ t) ≡ find s

-- "and leaves the buffer; when it writes, octets behind the end stay": of a refusal the end is 0
abbrev pub Stays : Type 0
Stays = (b l : List ℕ) → (length (write_buffer b l) ≡ length b) × ((i : ℕ) → (write b l).end ≤ i → get_or (write_buffer b l) i 0 ≡ get_or b i 0)

-- "20 for too little room": a buffer that is longer than the list has room for its part, so that 20 is then a list that is cut short
abbrev pub RoomEnough : Type 0
RoomEnough = (b l : List ℕ) → length l < length b → (write b l).number ≡ wrong_length → whole l ≡ false
