-- The lengths of the program's lists are right, so that a list is refused only by 60.
use Prim.Native.Nat.{ℕ, ◌*◌, ◌/◌, ◌%◌, ◌≤◌}
use mathlib.Core.Path.{◌≡◌, refl, sym, ap, ◌∙◌}
use mathlib.Core.Bool.{Bool, true, cond, ◌&&◌}
use mathlib.Core.List.{List}
use native.Mathlib.Omega.{arith}
use lib.ListN.{length}
use lib.Dec.{eqb}
use Rattle.std.specs.Prelude.{Result, Ok, Err, is_ok}
use borrow.Author.Tests.{eq-eqb, le-leb}
use Rattle.octets.proofs.Tests.{and_both, by_so}
use Rattle.rules.specs.Numbers.{done, wrong_length}
use Rattle.rules.specs.Run.{run}
use Rattle.rules.specs.Records.{records, circuits, circuit_size, most_circuits, table_length, list_length, event_size, most_events, answer_size}
use Rattle.route.specs.Entries.{events_in, list_lengths, list_table}
use Rattle.tally.specs.declared.Refused.{Refused}
use Rattle.tally.specs.declared.Refused.TheVariants.{WrongLength, TooManyLists}
use Rattle.tally.specs.Places.{figures}
use Rattle.tally.specs.Shares.{list_adds}
use Rattle.tally.specs.Entry.{too_many_lists, number_of, has_room, added, figures_lengths, figures_number, is_added, figures_table, figures_totals}
use Rattle.figures.specs.Output.{Sized, listed_table, listed_totals}

-- a list is added where its number is 0
abbrev said : Bool → Bool
said b = eqb (cond b done too_many_lists) done

added_by : (r : Result (Unit {0}) Refused) → is_ok r ≡ eqb (number_of r) done
added_by (Ok u) = refl
added_by (Err WrongLength) = refl
added_by (Err TooManyLists) = refl

module _ (t es places f : List ℕ) (table : Sized (length t)) (whole : length es % event_size ≡ 0) (most : length es ≤ event_size * most_events) (each : length places ≡ length es) (all : length f ≡ figures) where
  list_right : list_lengths t es places ≡ true
  unfolding list_lengths list_length table_length
  list_right =
      and_both _ _
      (and_both _ _ (eq-eqb (length t % circuit_size) 0 table.0) (and_both _ _ (le-leb 1 (circuits t) table.1) (le-leb (circuits t) most_circuits table.2)))
      (and_both _ _ (eq-eqb (length es % event_size) 0 whole) (and_both _ _ (le-leb (length es / event_size) most_events (omega arith)) (eq-eqb (length places) (answer_size * (length es / event_size)) (omega arith))))

  right : figures_lengths t es places f ≡ true
  unfolding figures_lengths
  right = and_both _ _ list_right (eq-eqb (length f) figures all)

  is_added_lem : is_added t es places f ≡ has_room f
  unfolding is_added
  is_added_lem = ap (λ (b : Bool). b && has_room f) right

  room_left : (r : Result (Unit {0}) Refused) → number_of r ≡ figures_number t es places f → is_ok r ≡ has_room f
  unfolding figures_number
  room_left r e =
      added_by r
      ∙ ap (λ (n : ℕ). eqb n done) (e ∙ ap (λ (b : Bool). cond b (cond (has_room f) done too_many_lists) wrong_length) right)
      ∙ by_so (has_room f) (λ h. ap said h ∙ sym h) (λ h. ap said h ∙ sym h)

  table-after : figures_table t es places f ≡ listed_table t es f
  unfolding figures_table listed_table list_table
  table-after =
      ap (λ (b : Bool). cond b (list_table t es places) t) is_added_lem
      ∙ ap (λ (b : Bool). cond (has_room f) (cond b (run records t (events_in es)) t) t) list_right

  totals-after : figures_totals t es places f ≡ listed_totals t es f
  unfolding figures_totals listed_totals
  totals-after = ap (λ (b : Bool). cond b (added (list_adds records t (events_in es)) f) f) is_added_lem

  pub listed : (r : Result (Unit {0}) Refused) {u g : List ℕ} → number_of r ≡ figures_number t es places f → u ≡ figures_table t es places f → g ≡ figures_totals t es places f → (is_ok r ≡ has_room f) × ((u ≡ listed_table t es f) × (g ≡ listed_totals t es f))
  listed r n u g = (room_left r n, (u ∙ table-after, g ∙ totals-after))
