-- Demand 3, of every set-up in a past and of the next one.
use Prim.Native.Nat.{ℕ, ◌*◌, ◌/◌, ◌%◌, ◌<◌, ◌≤◌}
use mathlib.Core.Path.{◌≡◌, refl, sym, ap, ap₂, ◌∙◌, subst}
use mathlib.Core.Bool.{Bool, true, cond, ◌&&◌}
use mathlib.Core.List.{List, [], ◌∷◌, ◌++◌, append-nil}
use native.Mathlib.Omega.{arith}
use lib.ListN.{length, length-replicate}
use lib.Dec.{eqb, leb}
use borrow.Author.Tests.{eq-eqb, le-leb}
use Rattle.octets.proofs.Tests.{and_both}
use Rattle.octets.proofs.Spans.{span_all}
use Rattle.rules.specs.declared.circuit.Circuit.{Circuit}
use Rattle.rules.specs.Numbers.{wrong_length}
use Rattle.rules.specs.Records.{circuit_at, event_at, table_length, list_length, circuits, empty_table}
use Rattle.route.specs.Entries.{list_lengths, list_number, list_answers}
use Rattle.claims.specs.History.{Turn, asked, empty, after_turn, history_from, history}
use Rattle.claims.specs.Lists.{EventList, turns_to, turns, table_after, past}
use Rattle.claims.specs.Demand.{HistoryTells, NewSetUp, Answered, Demand3, Demand3Within}
use Rattle.claims.proofs.Ran.{Ran, Shown, shown}
use Rattle.claims.proofs.Cut.{past_ran, length-left, past-append}
use Rattle.claims.proofs.Start.{circuit-empty, start-valid}
use Rattle.claims.proofs.Served.{served_within}

-- ---- from the empty table
module _ (n : ℕ) where
  start-long : length (empty_table n) ≡ 32 * n
  start-long = length-replicate (32 * n) 0

  pub start-count : circuits (empty_table n) ≡ n
  start-count = omega (arith, start-long)

  pub start-shows : (c : ℕ) → c < circuits (empty_table n) → circuit_at (empty_table n) c ≡ empty
  start-shows c l = circuit-empty n c

  -- whatever was run from it is shown by the table that was left
  pub ran_shown : (ps : List Turn) (u : List ℕ) → Ran (empty_table n) ps u → Shown (empty_table n) (λ c. empty) ps u
  ran_shown ps u = shown ps (empty_table n) u (start-valid n) (λ c. empty) start-shows

  pub ran_tells : (ps : List Turn) (u : List ℕ) → Ran (empty_table n) ps u → (c : ℕ) → c < n → circuit_at u c ≡ history ps c
  ran_tells ps u ran c l = (ran_shown ps u ran).tells c (omega (arith, start-count))

  pub ran_long : (ps : List Turn) (u : List ℕ) → Ran (empty_table n) ps u → length u ≡ 32 * n
  ran_long ps u ran = (ran_shown ps u ran).as_long ∙ start-long

  module _ (lists : List EventList) where
    pub now : Shown (empty_table n) (λ c. empty) (past (empty_table n) lists) (table_after (empty_table n) lists)
    now = ran_shown (past (empty_table n) lists) (table_after (empty_table n) lists) (past_ran lists (empty_table n))

    pub now_long : length (table_after (empty_table n) lists) ≡ 32 * n
    now_long = ran_long (past (empty_table n) lists) (table_after (empty_table n) lists) (past_ran lists (empty_table n))

    pub now_count : circuits (table_after (empty_table n) lists) ≡ n
    now_count = omega (arith, now_long)

pub history_tells : HistoryTells
history_tells n lists = ran_tells n (past (empty_table n) lists) (table_after (empty_table n) lists) (past_ran lists (empty_table n))

-- ---- one turn more
history-append : (ps qs : List Turn) (y : Circuit) (c : ℕ) → history_from y (ps ++ qs) c ≡ history_from (history_from y ps c) qs c
history-append [] qs y c = refl
history-append (p ∷ ps) qs y c = history-append ps qs (after_turn p c y) c

pub history_then : (ps : List Turn) (p : Turn) → history (ps ++ p ∷ []) ≡ (λ c. after_turn p c (history ps c))
history_then ps p = λ d c. history-append ps (p ∷ []) empty c d

-- a past taken apart was still run
pub ran_split : (n : ℕ) (lists : List EventList) (ps : List Turn) → past (empty_table n) lists ≡ ps → Ran (empty_table n) ps (table_after (empty_table n) lists)
ran_split n lists ps split =
    subst (λ (qs : List Turn). Ran (empty_table n) qs (table_after (empty_table n) lists)) split (past_ran lists (empty_table n))

-- turn p of whatever was run from the empty table
pub ran_demand :
    (n : ℕ) (before : List Turn) (p : Turn) (later : List Turn) (u : List ℕ) → Ran (empty_table n) (before ++ p ∷ later) u
    → NewSetUp n (history before) (asked p) → Answered n (history before) (history (before ++ p ∷ [])) (asked p) p.answer
ran_demand n before p later u ran new =
    subst (λ (y : ℕ → Circuit). Answered n (history before) y (asked p) p.answer) (sym (history_then before p))
    (subst (λ (m : ℕ). NewSetUp m (history before) (asked p) → Answered m (history before) (λ c. after_turn p c (history before c)) (asked p) p.answer) (start-count n)
    (served_within (empty_table n) (start-valid n) (λ c. empty) (start-shows n) before p later u ran) new)

pub demand_3_within : Demand3Within
demand_3_within n lists before p later split =
    ran_demand n before p later (table_after (empty_table n) lists) (ran_split n lists (before ++ p ∷ later) split)

-- ---- the next list, of one event
module _ (t e place : List ℕ) (sixteen : length e ≡ 16) where
  abbrev next : Turn
  next = record { event = e; answer = list_answers t e place }

  pub one-turn : list_lengths t e place ≡ true → turns t (record { events = e; places = place }) ≡ next ∷ []
  unfolding turns list_number
  one-turn h =
      ap (λ (b : Bool). cond (eqb (cond b 0 wrong_length) 0) (turns_to e (list_answers t e place) (length e / 16)) []) h
      ∙ ap (λ (m : ℕ). turns_to e (list_answers t e place) (m / 16)) sixteen
      ∙ (λ d.
      record {
        event = span_all e 16 sixteen d;
        answer = span_all (list_answers t e place) 16 (length-left t e place h ∙ ap (λ (m : ℕ). 16 * (m / 16)) sixteen) d;
      }
      ∷ [])

-- the lengths of a table of n circuits, and of one event
pub table-length : (t : List ℕ) (n : ℕ) → length t ≡ 32 * n → 1 ≤ n → n ≤ 256 → table_length (length t) ≡ true
unfolding table_length
table-length t n long one many =
    and_both (eqb (length t % 32) 0) (leb 1 (circuits t) && leb (circuits t) 256) (eq-eqb (length t % 32) 0 (omega arith))
    (and_both (leb 1 (circuits t)) (leb (circuits t) 256) (le-leb 1 (circuits t) (omega arith)) (le-leb (circuits t) 256 (omega arith)))

pub one-lengths : (t e place : List ℕ) → table_length (length t) ≡ true → length e ≡ 16 → length place ≡ 16 → list_lengths t e place ≡ true
unfolding list_lengths list_length
one-lengths t e place right sixteen room =
    and_both (table_length (length t)) (list_length (length e) (length place)) right (ap₂ list_length sixteen room)

pub demand_3 : Demand3
demand_3 n one many lists e place sixteen room new =
    let t = empty_table n in
    let u = table_after t lists in
    let k : EventList = record { events = e; places = place } in
    let p : Turn = record { event = e; answer = list_answers u e place } in
    let lengths = one-lengths u e place (table-length u n (now_long n lists) one many) sixteen room in
    let split : past t (lists ++ k ∷ []) ≡ past t lists ++ p ∷ [] = past-append lists (k ∷ []) t ∙ ap (λ (ps : List Turn). past t lists ++ ps) (append-nil (turns u k) ∙ one-turn u e place sixteen lengths) in
    subst (λ (ps : List Turn). Answered n (history (past t lists)) (history ps) (event_at e) (list_answers u e place)) (sym split)
    (demand_3_within n (lists ++ k ∷ []) (past t lists) p [] split new)
