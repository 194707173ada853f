-- Demand 3 is not empty: what it asks can be met, at one circuit, on both of its sides, over a call that was answered and over one that rings.
use Rattle.std.specs.Prelude.{ℕ, ◌+◌, ◌*◌, ◌≡◌, List, [], ◌∷◌, ◌++◌, length, replicate}
use Rattle.rules.specs.declared.circuit.Circuit.{Circuit}
use Rattle.rules.specs.Fields.{routine}
use Rattle.rules.specs.Records.{event_at, answer_size, empty_table, answer_fields, nobody_lost}
use Rattle.rules.specs.Vectors.{sets_up, is_answered, priority}
use Rattle.rules.specs.Answer.{no_detail}
use Rattle.route.specs.Entries.{list_answers}
use Rattle.claims.specs.History.{history}
use Rattle.claims.specs.Lists.{EventList, table_after, past}
use Rattle.claims.specs.Demand.{NewSetUp}

-- a ROUTINE call takes the only circuit, events es follow, and a malformed set-up is refused; then a list with too few answer places is refused
unfoldable pub earlier : List ℕ → List EventList
earlier es =
    record { events = sets_up 1 routine ++ es ++ sets_up 2 0x62; places = replicate (length es + 2 * answer_size) 255 }
    ∷ record { events = sets_up 3 priority; places = [] }
    ∷ []

unfoldable pub answered_call : List EventList  -- the ROUTINE call was answered
answered_call = earlier (is_answered 1)

unfoldable pub ringing_call : List EventList  -- no call was answered, and the ROUTINE call rings
ringing_call = earlier []

abbrev pub no_call : List EventList  -- nothing was asked, and the circuit is free
no_call = []

abbrev pub shown : List EventList → ℕ → Circuit  -- what the history shows after these lists
shown lists = history (past (empty_table 1) lists)

abbrev pub answer_to : List EventList → List ℕ → List ℕ  -- what the list entry answers to e after these lists
answer_to lists e = list_answers (table_after (empty_table 1) lists) e (replicate answer_size 255)

-- where call 1, point code 1, was answered, a new PRIORITY call gets the circuit from it and a new ROUTINE call gets none; with no kind 7 a new
-- PRIORITY call gets the circuit where it is free, and none where call 1 rings
pub record Met : Type 0 where
  pub asks_priority : NewSetUp 1 (shown answered_call) (event_at (sets_up 3 priority))
  pub gets : answer_to answered_call (sets_up 3 priority) ≡ answer_fields 2 0 0 (1 ∷ 1 ∷ 0 ∷ 0 ∷ 1 ∷ 0 ∷ []) nobody_lost
  pub asks_routine : NewSetUp 1 (shown answered_call) (event_at (sets_up 3 routine))
  pub gets_none : answer_to answered_call (sets_up 3 routine) ≡ answer_fields 30 34 no_detail nobody_lost nobody_lost
  pub asks_first : NewSetUp 1 (shown no_call) (event_at (sets_up 3 priority))
  pub gets-free : answer_to no_call (sets_up 3 priority) ≡ answer_fields 1 0 0 nobody_lost nobody_lost
  pub asks_while_ringing : NewSetUp 1 (shown ringing_call) (event_at (sets_up 3 priority))
  pub gets-none-ringing : answer_to ringing_call (sets_up 3 priority) ≡ answer_fields 31 46 no_detail nobody_lost nobody_lost
