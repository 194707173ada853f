-- History tells, and demand 3 of the next call and of a set-up at any place of the calls before it.
use Prim.Native.Nat.{ℕ}
use mathlib.Core.Path.{◌≡◌, sym, ap, ◌∙◌, subst}
use mathlib.Core.Bool.{Bool, true, cond}
use mathlib.Core.List.{List, [], ◌∷◌, ◌++◌}
use lib.ListN.{length}
use borrow.Author.Tests.{ne_eqb}
use Rattle.rules.specs.Numbers.{wrong_length}
use Rattle.rules.specs.Records.{event_at, empty_table, event_size}
use Rattle.route.specs.Entries.{list_lengths}
use Rattle.claims.specs.History.{Turn, history}
use Rattle.claims.specs.Demand.{Answered}
use Rattle.claims.proofs.Ran.{Ran}
use Rattle.claims.proofs.Refused.{returned_not_20}
use Rattle.claims.proofs.Alone.{same_lengths}
use Rattle.claims.proofs.Demanded.{ran_tells, ran_long, ran_demand, one-turn, table-length, one-lengths}
use Rattle.calls.specs.Calls.{Entry, list-entry, event-entry, Contract, Call, table, events, places, table_left, answers, heard, adds, more, HistoryTells, Demand3, Demand3Within}
use Rattle.calls.proofs.Run.{heard-turns, calls_ran}

pub history_tells : HistoryTells
history_tells n u ps calls = ran_tells n ps u (calls_ran n u ps calls)

-- ---- a call with one event is heard as one turn
module _ (c : Call) (right : list_lengths (table c) (events c) (places c) ≡ true) (sixteen : length (events c) ≡ event_size) where
  abbrev turn : List ℕ → Turn  -- the event, answered by these octets
  turn a = record { event = events c; answer = a }

  heard-once : adds c ≡ turn (answers c) ∷ []
  heard-once = go c.entry c.allowed
    where
      go : (w : Entry) → Contract w c.lifetimes c.lent c.number c.left → heard w c.number (events c) (answers c) ≡ turn (answers c) ∷ []
      go list-entry p =
          heard-turns (table c) (events c) (places c) c.number (table_left c) (answers c) p.0 p.1.1
          ∙ one-turn (table c) (events c) (places c) sixteen right ∙ ap (λ (a : List ℕ). turn a ∷ []) (sym p.1.1)
      go event-entry p =
          ap (λ (b : Bool). cond b [] (turn (answers c) ∷ []))
          (ne_eqb c.number wrong_length
          (λ z.
          returned_not_20 (table c) (events c) (places c) (sym (same_lengths (table c) (events c) (places c) sixteen) ∙ right) (sym p.0 ∙ z)))

pub demand_3 : Demand3
demand_3 n one many u ps calls c same sixteen room new =
    let long = ap length same ∙ ran_long n ps u (calls_ran n u ps calls) in
    let right = one-lengths (table c) (events c) (places c) (table-length (table c) n long one many) sixteen room in
    let once = heard-once c right sixteen in
    let ran = calls_ran n (table_left c) (ps ++ adds c) (more u ps calls c same) in
    subst (λ (qs : List Turn). Answered n (history ps) (history (ps ++ qs)) (event_at (events c)) (answers c)) (sym once)
    (ran_demand n ps (turn c right sixteen (answers c)) [] (table_left c)
    (subst (λ (qs : List Turn). Ran (empty_table n) (ps ++ qs) (table_left c)) once ran) new)

pub demand_3_within : Demand3Within
demand_3_within n u before p later calls = ran_demand n before p later u (calls_ran n u (before ++ p ∷ later) calls)
