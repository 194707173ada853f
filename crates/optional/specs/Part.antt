-- This is 02, L5: the optional part of a message, and the walk of a reader through it.
use Rattle.std.specs.Prelude.{ℕ, zero, suc, ◌+◌, ◌≡◌, Bool, cond, ◌&&◌, not, List, [], ◌∷◌, Option, Some, None, Result, Ok, Err, length, get_or, take, drop, eqb, leb, ltb}
use Rattle.rules.specs.declared.outcome.Refusal.TheVariants as refusal
use Rattle.rules.specs.Numbers.{done, parameter_cut_short, no_end, precedence_twice, refusal_number}
use Rattle.optional.specs.declared.part.Fault.{Fault}
use Rattle.optional.specs.declared.part.Fault.TheVariants.{CutShort, NoEnd, PrecedenceTwice, Malformed}
use Rattle.optional.specs.declared.part.Parameter.{Parameter}
use Rattle.optional.specs.declared.part.Standing.{Standing}
use Rattle.optional.specs.declared.reader.Reader.{Reader}

abbrev pub end_name : ℕ  -- "name 0 ends the part"
end_name = 0

abbrev pub precedence_name : ℕ  -- "MLPP precedence (name 58)"
precedence_name = 58

-- the end of the part, or a refusal by number k: the place stays
abbrev pub stopped : ℕ → ℕ → Parameter
stopped k at = record { number = k; name = end_name; length = 0; start = 0; next = at }

-- a parameter at a place, with a name and so many octets of contents: "a name octet, a length octet and contents"
abbrev pub standing : ℕ → ℕ → ℕ → Parameter
standing name count at = record { number = done; name = name; length = count; start = at + 2; next = at + 2 + count }

-- "61 octets run out inside a parameter, 62 they run out before a name", and at one parameter 63 and 22
abbrev pub fault_number : Fault → ℕ
fault_number CutShort = parameter_cut_short
fault_number NoEnd = no_end
fault_number PrecedenceTwice = precedence_twice
fault_number Malformed = refusal_number refusal.Malformed

-- what C gets of a step from a place
abbrev pub given : ℕ → Result (Option Standing) Fault → Parameter
given at (Ok (Some p)) = record { number = done; name = p.name; length = p.length; start = p.start; next = p.next }
given at (Ok None) = stopped done at
given at (Err fault) = stopped (fault_number fault) at

-- a parameter that a step gives has not the name of the end
abbrev pub Named : Result (Option Standing) Fault → Type 0
Named (Ok (Some p)) = p.name ≡ end_name → ⊥
Named (Ok None) = Unit {0}
Named (Err fault) = Unit {0}

-- what stands at a place of the part: "61 octets run out inside a parameter, 62 they run out before a name"
unfoldable pub parameter_at : List ℕ → ℕ → Parameter
parameter_at s at =
    cond (leb (length s) at) (stopped no_end at)
    (cond (eqb (get_or s at 0) end_name) (stopped done at)
    (cond (leb (length s) (at + 1)) (stopped parameter_cut_short at)
    (cond (ltb (length s) (at + 2 + get_or s (at + 1) 0)) (stopped parameter_cut_short at)
    (standing (get_or s at 0) (get_or s (at + 1) 0) at))))

-- it is a parameter, neither the end nor a refusal
abbrev pub is_parameter : Parameter → Bool
is_parameter p = eqb p.number done && not (eqb p.name end_name)

-- what a walk meets from a place on, n things at most: parameters, and last the end or a refusal
abbrev pub steps : ℕ → List ℕ → ℕ → List Parameter
steps zero s at = []
steps (suc n) s at = parameter_at s at ∷ cond (is_parameter (parameter_at s at)) (steps n s (parameter_at s at).next) []

-- "goes through the lent octets parameter by parameter": each takes two octets at least, so that one step more than there are octets is
-- enough, and more change nothing
unfoldable pub walk : List ℕ → List Parameter
walk s = steps (suc (length s)) s 0

-- the contents of a parameter
abbrev pub contents : List ℕ → Parameter → List ℕ
contents s p = take p.length (drop p.start s)

-- a reader at another place: "keeps its place among them"
abbrev pub moved : Reader → ℕ → Reader
moved r at = record { part = r.part; place = at }
