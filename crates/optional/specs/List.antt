-- This is 02, L5: a parameter list, and how it is lent: as octets, for each parameter its name, how many octets of contents it has in two octets, the
-- low one first, then the contents. It can say what the writer has to refuse, which an optional part cannot: a name 0, and 256 octets.
use Rattle.std.specs.Prelude.{ℕ, zero, suc, ◌+◌, ◌≡◌, Bool, cond, List, [], ◌∷◌, Option, Some, None, length, get_or, take, drop, eqb, leb, ltb}
use Rattle.octets.specs.Number.{value}
use Rattle.optional.specs.declared.list.Entry.{Entry}

-- a parameter by itself: its name and its contents
pub record Item : Type 0 where
  pub name : ℕ
  pub contents : List ℕ

-- how many octets of contents the parameter at a place of the list has
abbrev pub count_at : List ℕ → ℕ → ℕ
count_at l at = value (get_or l (at + 1) 0 ∷ get_or l (at + 2) 0 ∷ [])

-- the place behind it
abbrev pub behind : List ℕ → ℕ → ℕ
behind l at = at + 3 + count_at l at

abbrev pub item_at : List ℕ → ℕ → Item
item_at l at = record { name = get_or l at 0; contents = take (count_at l at) (drop (at + 3) l) }

-- the parameters from a place on, n at most
abbrev pub items_from : ℕ → List ℕ → ℕ → List Item
items_from zero l at = []
items_from (suc n) l at = cond (ltb at (length l)) (item_at l at ∷ items_from n l (behind l at)) []

-- each takes three octets at least, so that as many as there are octets is enough
unfoldable pub items : List ℕ → List Item
items l = items_from (length l) l 0

-- the list is not cut short inside a parameter: the last one ends where the list does
abbrev pub whole_from : ℕ → List ℕ → ℕ → Bool
whole_from zero l at = eqb at (length l)
whole_from (suc n) l at = cond (ltb at (length l)) (whole_from n l (behind l at)) (eqb at (length l))

unfoldable pub whole : List ℕ → Bool
whole l = whole_from (length l) l 0

-- ---- the list as it is gone through
-- a parameter as it comes, and nothing for one that is cut short
abbrev pub item_of : Entry → Item
item_of e = record { name = e.name; contents = e.contents.now }

abbrev pub item : Option Entry → Option Item
item None = None
item (Some e) = Some (item_of e)

-- e is the first parameter of the list, and r the rest of it
pub record First (l : List ℕ) (e : Entry) (r : List ℕ) : Type 0 where
  pub long : length l ≡ behind l 0 + length r
  pub is : item (Some e) ≡ Some (item_at l 0)
  pub rest : r ≡ drop (behind l 0) l

-- the parameters as they come, n at most; one that is cut short ends them
abbrev pub entries_from : ℕ → List ℕ → List (Option Item)
entries_from zero l = []
entries_from (suc n) l =
    cond (ltb 0 (length l)) (cond (leb (behind l 0) (length l)) (Some (item_at l 0) ∷ entries_from n (drop (behind l 0) l)) (None ∷ [])) []

unfoldable pub entries : List ℕ → List (Option Item)
entries l = entries_from (length l) l
