-- This is 02, L5: a reader "finds MLPP precedence (name 58), skips names it doesn't know, and refuses a part cut short, one with no end, precedence
-- given twice, or precedence that isn't six well-formed octets".
use Rattle.std.specs.Prelude.{ℕ, ◌+◌, ◌≤◌, ◌<◌, ◌≡◌, Bool, true, false, cond, List, [], ◌∷◌, Option, Some, None, Result, Ok, Err, length, eqb}
use Rattle.rules.specs.declared.outcome.Refusal.TheVariants.{Malformed}
use Rattle.rules.specs.Numbers.{done, precedence_twice, refusal_number}
use Rattle.fields.specs.declared.precedence.Precedence.{Precedence}
use Rattle.fields.specs.declared.precedence.Reading.{Reading}
use Rattle.fields.specs.Precedence.{read_precedence}
use Rattle.optional.specs.declared.part.Fault.{Fault}
use Rattle.optional.specs.declared.part.Parameter.{Parameter}
use Rattle.optional.specs.declared.part.Standing.{Standing}
use Rattle.optional.specs.declared.search.Found.{Found}
use Rattle.optional.specs.declared.search.Searched.{Searched}
use Rattle.optional.specs.declared.search.PrecedenceAt.{PrecedenceAt}
use Rattle.optional.specs.Part.{end_name, precedence_name, fault_number, contents, walk}

-- what was found so far, and whether the search goes on
pub record Search : Type 0 where
  pub going : Bool
  pub result : Found

-- the values where there is no precedence
abbrev pub no_value : Precedence
no_value = record { level = 0; lfb = 0; digits = 0 ∷ 0 ∷ 0 ∷ 0 ∷ []; service = 0 }

-- number k and nothing found
abbrev pub nothing : ℕ → Found
nothing k = record { number = k; found = 0; start = 0; end = 0; value = no_value }

-- the search before the first parameter
abbrev pub begun : Search
begun = record { going = true; result = nothing done }

-- a fault ends the search
abbrev pub refused : ℕ → Search
refused k = record { going = false; result = nothing k }

-- the end at a place ends it too: what was found is found, and the part has one octet more than stand before that place. "No precedence at all is
-- accepted and said."
abbrev pub ended : Search → ℕ → Search
ended h at =
    record {
      going = false;
      result = record { number = h.result.number; found = h.result.found; start = h.result.start; end = at + 1; value = h.result.value };
    }

-- precedence that was not there before, by what its contents say: "22 precedence malformed"
abbrev pub taken : ℕ → Reading → Search
taken start r =
    cond (eqb r.number done)
    (record { going = true; result = record { number = done; found = 1; start = start; end = 0; value = r.value } })
    (refused (refusal_number Malformed))

-- what one parameter makes of what was found before it: "at one parameter 61, 63, 22"
unfoldable pub noted : List ℕ → Search → Parameter → Search
noted s h p =
    cond (eqb p.number done)
    (cond (eqb p.name end_name) (ended h p.next)
    (cond (eqb p.name precedence_name)
    (cond (eqb h.result.found 0) (taken p.start (read_precedence (contents s p))) (refused precedence_twice)) h)) (refused p.number)

-- what all of them make, until the search is over: "by place"
abbrev pub judged : List ℕ → Search → List Parameter → Search
judged s h [] = h
judged s h (p ∷ ps) = cond h.going (judged s (noted s h p) ps) h

unfoldable pub find : List ℕ → Found
find s = (judged s begun (walk s)).result

-- ---- the search as it is programmed
-- what C gets of what was found in a part of e octets
abbrev pub found_in : Option PrecedenceAt → ℕ → Found
found_in (Some p) e = record { number = done; found = 1; start = p.start; end = e; value = p.value }
found_in None e = record { number = done; found = 0; start = 0; end = e; value = no_value }

-- what was found in a part whose end stands at a place
abbrev pub ended_at : Option PrecedenceAt → ℕ → Searched
ended_at stood at = record { precedence = stood; end = at + 1 }

abbrev pub found : Result Searched Fault → Found
found (Ok searched) = found_in searched.precedence searched.end
found (Err fault) = nothing (fault_number fault)

-- a search that goes on, by the precedence that it found so far
abbrev pub had : Option PrecedenceAt → Search
had None = begun
had (Some p) = record { going = true; result = record { number = done; found = 1; start = p.start; end = 0; value = p.value } }

-- the same, or the end by a fault
abbrev pub after : Result (Option PrecedenceAt) Fault → Search
after (Ok stood) = had stood
after (Err fault) = refused (fault_number fault)

-- a parameter that stands in the octets
abbrev pub standing_at : Standing → Parameter
standing_at p = record { number = done; name = p.name; length = p.length; start = p.start; next = p.next }

-- a parameter lies within the octets, and so does the end
pub record Within (s : List ℕ) (p : Parameter) : Type 0 where
  pub inside : p.start + p.length ≤ length s
  pub before : p.number ≡ done → p.name ≡ end_name → p.next < length s

-- it lies within them, and is not their end
pub record Lies (s : List ℕ) (p : Standing) : Type 0 where
  pub named : p.name ≡ end_name → ⊥
  pub ends : p.next ≡ p.start + p.length
  pub inside : p.next ≤ length s
