-- This is 02, L1, "The day's figures": what an event adds to each total, and what a list adds, in any layout.
use Rattle.std.specs.Prelude.{ℕ, ◌+◌, Bool, cond, ◌&&◌, ◌||◌, List, [], ◌∷◌, eqb, Option, Some, None}
use Rattle.std.specs.Bool.{then_some}
use Rattle.rules.specs.declared.event.Event.{Event}
use Rattle.rules.specs.declared.answer.Answer.{Answer}
use Rattle.rules.specs.declared.level.Level.{Level}
use Rattle.rules.specs.Numbers as number
use Rattle.rules.specs.Search.{count_to}
use Rattle.rules.specs.Layout.{Layout}
use Rattle.rules.specs.Run.{after, answered, run}
use Rattle.tally.specs.Places as place

abbrev pub at : ℕ → ℕ → ℕ → ℕ  -- what total j gets where n is added at one place
at p n j = cond (eqb p j) n 0

abbrev pub one : Bool → ℕ  -- 1 where b holds, else 0
one b = cond b 1 0

abbrev pub is_seizure : ℕ → ℕ → Bool  -- a seizure is a set-up, kind 1, that was answered by 1 or 2
is_seizure kind k = eqb kind 1 && (eqb k number.seized || eqb k number.seized_with_loss)

abbrev pub is_release : ℕ → Bool  -- a release is an event that was answered by 5
is_release k = eqb k number.released

-- what an event of this kind and level adds to total j, where it was answered by number k; whether a holder was lost by it, and the level
-- under which that holder stood on the circuit just before it
unfoldable pub adds : ℕ → ℕ → ℕ → Bool → ℕ → ℕ → ℕ
adds kind taker k lost loser j =
    at place.seized (one (is_seizure kind k)) j
    + at place.released (one (is_release k)) j
    + at place.lost (one lost) j
    + at (place.lost_by_level taker loser) (one lost) j
    + at (place.answered k) 1 j

abbrev pub level_lost : Option Level → ℕ  -- the number of the level under which a lost holder stood, or 0 where none was lost
level_lost (Some loser) = loser.0
level_lost None = 0

-- the level under which a holder stood that answer a names as lost, if it names one
abbrev pub lost_under : Answer → Option Level
lost_under a = then_some a.call.present a.call.mark.level

abbrev pub shares : Event → Answer → ℕ → ℕ  -- what event e, answered by a, adds to total j
shares e a j = adds e.kind e.mark.level.0 a.number a.call.present a.call.mark.level.0 j

module _ {S : Type 0} (L : Layout S) where
  unfoldable pub holders : S → ℕ  -- how many circuits of the table have a holder
  holders s = count_to (λ i. (L.view s i).holder.present) (L.count s)

  -- what events, applied one by one from table s on, add to total j
  abbrev pub events_add : S → List (List ℕ) → ℕ → ℕ
  events_add s [] j = 0
  events_add s (e ∷ es) j = shares (L.event e) (answered L s e) j + events_add (after L s e) es j

  -- what a list adds to total j: itself, the holders counted in the table before it and in the table after it, and what its events add
  unfoldable pub list_adds : S → List (List ℕ) → ℕ → ℕ
  list_adds s es j =
      at place.lists 1 j + at place.start (holders s) j + events_add s es j + at place.end (holders (run L s es)) j
