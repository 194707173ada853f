-- A list is added to the totals exactly where number 0 comes back: then table and answers are the list entry's, and else nothing is changed.
use Prim.Native.Nat.{ℕ, ◌+◌, ◌<◌}
use mathlib.Core.Path.{◌≡◌, refl, sym, ap, ◌∙◌}
use mathlib.Core.Logic.{◌≢◌}
use mathlib.Core.Bool.{Bool, true, false, cond, ◌&&◌, true≢false}
use mathlib.Core.List.{List}
use native.Mathlib.Omega.{arith}
use lib.ListN.{length}
use borrow.Author.Tests.{eqb-true}
use Rattle.octets.proofs.Tests.{halves}
use Rattle.rules.specs.Run.{run}
use Rattle.rules.specs.Records.{records}
use Rattle.route.specs.Entries.{events_in, list_lengths, list_number, list_table, list_answers}
use Rattle.tally.specs.Places as place
use Rattle.tally.specs.Shares.{events_add, list_adds}
use Rattle.tally.specs.Entry.{has_room, added, figures_lengths, figures_number, is_added, figures_table, figures_answers, figures_totals}
use Rattle.tally.proofs.Added.{length-added, added_at}
use Rattle.tally.proofs.Lists.{list-events}
use Rattle.claims.specs.Figures.{total, SameAsList, AddsNothing}

-- 0 comes of right lengths and room alone
both_so : (a b : Bool) → ◌≡◌ {A = ℕ} (cond a (cond b 0 60) 20) 0 → a && b ≡ true
both_so true true h = refl
both_so true false h = absurd (omega arith)
both_so false b h = absurd (omega arith)

not_both : (a b : Bool) → ◌≢◌ {A = ℕ} (cond a (cond b 0 60) 20) 0 → a && b ≡ false
not_both true true h = absurd (h refl)
not_both true false h = refl
not_both false b h = refl

module _ (t es places f : List ℕ) where
  pub done-added : figures_number t es places f ≡ 0 → is_added t es places f ≡ true
  unfolding figures_number is_added
  done-added = both_so (figures_lengths t es places f) (has_room f)

  -- a list that is not added
  module _ (h : is_added t es places f ≡ false) where
    pub not_done : figures_number t es places f ≢ 0
    not_done z = true≢false (sym (done-added z) ∙ h)

    pub not_added : (figures_table t es places f ≡ t) × (figures_answers t es places f ≡ places) × (figures_totals t es places f ≡ f)
    unfolding figures_table figures_answers figures_totals
    not_added = (
      ap (λ (b : Bool). cond b (list_table t es places) t) h,
      ap (λ (b : Bool). cond b (list_answers t es places) places) h,
      ap (λ (b : Bool). cond b (added (list_adds records t (events_in es)) f) f) h,
    )

  -- a list that is added
  module _ (h : is_added t es places f ≡ true) where
    facts : (list_lengths t es places ≡ true) × (length f ≡ place.figures) × (has_room f ≡ true)
    unfolding is_added figures_lengths
    facts = let both = halves h in let lengths = halves both.0 in (lengths.0, eqb-true (length f) 95 lengths.1, both.1)

    pub list-lengths : list_lengths t es places ≡ true
    list-lengths = facts.0

    pub list_done : list_number t es places ≡ 0
    unfolding list_number
    list_done = ap (λ (b : Bool). cond b 0 20) list-lengths

    pub figures-done : figures_number t es places f ≡ 0
    unfolding figures_number is_added
    figures-done =
        let both : (figures_lengths t es places f ≡ true) × (has_room f ≡ true) = halves h in
        ap (λ (b : Bool). cond b (cond (has_room f) 0 60) 20) both.0 ∙ ap (λ (b : Bool). cond b 0 60) both.1

    pub had_room : has_room f ≡ true
    had_room = facts.2

    pub same_table : figures_table t es places f ≡ list_table t es places
    unfolding figures_table
    same_table = ap (λ (b : Bool). cond b (list_table t es places) t) h

    pub same_answers : figures_answers t es places f ≡ list_answers t es places
    unfolding figures_answers
    same_answers = ap (λ (b : Bool). cond b (list_answers t es places) places) h

    pub table-run : figures_table t es places f ≡ run records t (events_in es)
    unfolding list_table
    table-run = same_table ∙ ap (λ (b : Bool). cond b (run records t (events_in es)) t) list-lengths

    pub many-totals : length (figures_totals t es places f) ≡ place.figures
    unfolding figures_totals
    many-totals =
        let n = list_adds records t (events_in es) in
        ap (λ (b : Bool). length (cond b (added n f) f)) h ∙ length-added n f ∙ facts.1

    -- each total has what the list adds to it
    pub total-added : (j : ℕ) → j < place.figures → total (figures_totals t es places f) j ≡ total f j + list_adds records t (events_in es) j
    unfolding figures_totals
    total-added j l =
        let n = list_adds records t (events_in es) in
        ap (λ (b : Bool). total (cond b (added n f) f) j) h ∙ added_at n f j (let k = facts.1 in omega arith)

    -- but at the places of a list itself, that is what its events add
    pub by_events : (j : ℕ) → j < place.figures → j ≢ place.lists → j ≢ place.start → j ≢ place.end → total (figures_totals t es places f) j ≡ total f j + events_add records t (events_in es) j
    by_events j l x y z = total-added j l ∙ ap (λ (n : ℕ). total f j + n) (list-events records t (events_in es) j x y z)

pub same_as_list : SameAsList
same_as_list t es places f h =
    let q = done-added t es places f h in
    (list_done t es places f q, same_table t es places f q, same_answers t es places f q)

pub adds-nothing : AddsNothing
unfolding figures_number is_added
adds-nothing t es places f h = not_added t es places f (not_both (figures_lengths t es places f) (has_room f) h)
