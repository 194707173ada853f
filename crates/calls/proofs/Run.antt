-- What a call adds to the past was run over the table that it was lent; so what calls one after another add was run over the empty table.
use Prim.Native.Nat.{ℕ}
use mathlib.Core.Path.{◌≡◌, refl, sym, ap₂, ◌∙◌, subst}
use mathlib.Core.List.{List, [], ◌∷◌}
use native.Mathlib.Omega.{arith}
use lib.Dec.{eqb}
use borrow.Author.Tests.{eqb-true, eqb-false}
use Rattle.octets.proofs.Tests.{by_test}
use Rattle.rules.specs.Numbers.{wrong_length}
use Rattle.rules.specs.Records.{empty_table}
use Rattle.route.specs.Entries.{event_number, event_table, event_answer, list_number, list_table, list_answers}
use Rattle.claims.specs.History.{Turn}
use Rattle.claims.specs.Lists.{turns}
use Rattle.claims.proofs.Ran.{Ran, ran_append}
use Rattle.claims.proofs.Cut.{list_ran}
use Rattle.claims.proofs.Refused.{lengths_right, table_then, answer_then, refusal_keeps_table}
use Rattle.calls.specs.Calls.{Entry, list-entry, event-entry, Contract, Call, table, events, places, table_left, answers, heard, adds, Calls, none, more}

-- one call: table t, events es and places room were lent; number k came back, table u and answers w were left
module _ (t es room : List ℕ) (k : ℕ) (u w : List ℕ) where
  pub heard-turns : k ≡ list_number t es room → w ≡ list_answers t es room → heard list-entry k es w ≡ turns t (record { events = es; places = room })
  unfolding turns
  heard-turns p r = ap₂ (λ (m : ℕ) (a : List ℕ). heard list-entry m es a) p r

  by_list : k ≡ list_number t es room → u ≡ list_table t es room → w ≡ list_answers t es room → Ran t (heard list-entry k es w) u
  by_list p q r =
      subst (λ (s : List ℕ). Ran t (heard list-entry k es w) s) (sym q)
      (subst (λ (ps : List Turn). Ran t ps (list_table t es room)) (sym (heard-turns p r)) (list_ran t (record { events = es; places = room })))

  by_event : k ≡ event_number t es room → u ≡ event_table t es room → w ≡ event_answer t es room → Ran t (heard event-entry k es w) u
  by_event p q r =
      by_test (λ (ps : List Turn). Ran t ps u) (eqb k wrong_length) [] (record { event = es; answer = w } ∷ [])
      (λ h. let twenty = eqb-true k wrong_length h in sym (q ∙ refusal_keeps_table t es room (omega arith)))
      (λ h.
      let right = lengths_right t es room (λ z. eqb-false k wrong_length h (p ∙ z)) in
      (r ∙ answer_then t es room right, sym (q ∙ table_then t es room right)))

pub call_ran : (c : Call) → Ran (table c) (adds c) (table_left c)
call_ran c = go c.entry c.allowed
  where
    go : (w : Entry) → Contract w c.lifetimes c.lent c.number c.left → Ran (table c) (heard w c.number (events c) (answers c)) (table_left c)
    go list-entry p = by_list (table c) (events c) (places c) c.number (table_left c) (answers c) p.0 p.1.0 p.1.1
    go event-entry p = by_event (table c) (events c) (places c) c.number (table_left c) (answers c) p.0 p.1.0 p.1.1

pub calls_ran : (n : ℕ) (u : List ℕ) (ps : List Turn) → Calls n u ps → Ran (empty_table n) ps u
calls_ran n _ _ none = refl
calls_ran n _ _ (more u ps before c same) =
    ran_append ps (adds c) (empty_table n) u (table_left c) (calls_ran n u ps before)
    (subst (λ (t : List ℕ). Ran t (adds c) (table_left c)) same (call_ran c))
