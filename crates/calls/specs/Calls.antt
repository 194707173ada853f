-- This is demand 3 of the entries that C and Rust link. On this page a call is one that a host makes of naustvri_list or of
-- naustvri_event, and nothing is known of it but what the contract of that entry promises, which the function that C links has word for word.
use Rattle.std.specs.Prelude.{ℕ, ◌/◌, ◌<◌, ◌≤◌, ◌≡◌, cond, List, [], ◌∷◌, ◌++◌, length, eqb}
use contract.Lifetimes.{Lfts}
use denote.Triple.Clauses.{AtExit}
use borrow.Fn.Kinds.{Out, Dens, res_t, ended_of}
use Rattle.rules.specs.Numbers.{done, wrong_length}
use Rattle.rules.specs.Records.{circuit_at, event_at, most_circuits, event_size, answer_size, empty_table}
use Rattle.claims.specs.History.{Turn, asked, history}
use Rattle.claims.specs.Lists.{turns_to}
use Rattle.claims.specs.Demand.{NewSetUp, Answered}
use Rattle.naustvri.proofs.naustvri_list.Kinds as kinds
use Rattle.naustvri.proofs.naustvri_list.Reads as list
use Rattle.naustvri.proofs.naustvri_event.Reads as event

-- ---- one call
pub data Entry : Type 0 where  -- the two entries that take events: naustvri_list and naustvri_event
  list-entry event-entry : Entry

-- the contract of each entry as the prover reads it, over what is lent, what comes back and what is left; both are lent a table,
-- events and places for the answers, and a number comes back
abbrev pub Contract : Entry → Out 3 kinds.ps kinds.r
Contract list-entry = list.Post
Contract event-entry = event.Post

-- a call that the contract of its entry allows
pub record Call : Type 0 where
  pub entry : Entry
  pub lifetimes : Lfts 3  -- for how long each of the three buffers is lent
  pub lent : Dens lifetimes kinds.ps  -- the buffers as they are lent
  pub number : (res_t kinds.r lifetimes).Denot  -- the number that comes back
  pub left : AtExit (ended_of 3 kinds.ps kinds.r) lifetimes  -- the buffers as they are left
  pub allowed : Contract entry lifetimes lent number left

module _ (c : Call) where
  abbrev pub table : List ℕ  -- the table that is lent
  table = c.lent.0.now

  abbrev pub events : List ℕ  -- the events that are lent, which are one for the event entry
  events = c.lent.1.0.now

  abbrev pub places : List ℕ  -- the places that are lent for the answers
  places = c.lent.1.1.0.now

  abbrev pub table_left : List ℕ  -- the table that the call leaves
  table_left = c.left.0.now

  abbrev pub answers : List ℕ  -- the answers that the call leaves at the places
  answers = c.left.1.1.0.now

-- ---- calls one after another
-- what is heard of a call that returned this number and left these answers: of a list, if it returned 0, each event with the answer at
-- its place; of an event, unless it returned 20, that event with its answer; else nothing
abbrev pub heard : Entry → ℕ → List ℕ → List ℕ → List Turn
heard list-entry number events answers = cond (eqb number done) (turns_to events answers (length events / event_size)) []
heard event-entry number events answers = cond (eqb number wrong_length) [] (record { event = events; answer = answers } ∷ [])

abbrev pub adds : Call → List Turn  -- what a call adds to the past
adds c = heard c.entry c.number (events c) (answers c)

-- calls of both entries in any order, from an empty table of n circuits, each lent the table that the one before left: u is the table
-- that the last one left, and ps the past, the oldest event first
pub data Calls (n : ℕ) : List ℕ → List Turn → Type 0 where
  none : Calls n (empty_table n) []
  more : (u : List ℕ) (ps : List Turn) → Calls n u ps → (c : Call) → table c ≡ u → Calls n (table_left c) (ps ++ adds c)

-- ---- what the customer buys
-- HISTORY TELLS: "who holds and who has reserved each circuit follows from the past events and answers alone": what the table that the
-- last call left shows of a circuit, under which mark and since which clock, is what the history says
abbrev pub HistoryTells : Type 0
HistoryTells = (n : ℕ) (u : List ℕ) (ps : List Turn) → Calls n u ps → (c : ℕ) → c < n → circuit_at u c ≡ history ps c

-- DEMAND 3 of the next call, of either entry: "a well-formed set-up whose reference holds and reserves nothing is refused for want of a
-- circuit exactly if none is free and none stands under a strictly lower precedence in the same domain; else it gets the first free one,
-- failing that the lowest-precedence one by 01's tie rule, and the losers named are exactly those the history shows there"
abbrev pub Demand3 : Type 0
Demand3 =
    (n : ℕ) → 1 ≤ n → n ≤ most_circuits
    → (u : List ℕ) (ps : List Turn) → Calls n u ps
    → (next : Call) → table next ≡ u → length (events next) ≡ event_size → length (places next) ≡ answer_size
    → NewSetUp n (history ps) (event_at (events next))
    → Answered n (history ps) (history (ps ++ adds next)) (event_at (events next)) (answers next)

-- demand 3 holds of a set-up that stands anywhere in any of the calls: before and later are the rest of the past
abbrev pub Demand3Within : Type 0
Demand3Within =
    (n : ℕ) (u : List ℕ) (before : List Turn) (p : Turn) (later : List Turn) → Calls n u (before ++ p ∷ later)
    → NewSetUp n (history before) (asked p)
    → Answered n (history before) (history (before ++ p ∷ [])) (asked p) p.answer

-- a call of entry w that is lent table t, events es and places room
pub record CallWith (w : Entry) (t es room : List ℕ) : Type 0 where
  pub call : Call
  pub entry : call.entry ≡ w
  pub lends_table : table call ≡ t
  pub lends_events : events call ≡ es
  pub lends_places : places call ≡ room

-- the contracts allow a call whatever its octets are, so the claims above are not empty
abbrev pub AnyOctets : Type 0
AnyOctets = (w : Entry) (t es room : List ℕ) → CallWith w t es room
