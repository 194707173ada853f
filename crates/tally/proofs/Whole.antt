-- The lengths of the buffers and the room of the totals settle what the entry gives: what was done, or 20 or 60 and the buffers as they were.
use Prim.Native.Nat.{ℕ, ◌/◌}
use mathlib.Core.Path.{◌≡◌, refl, ap, ◌∙◌}
use mathlib.Core.Bool.{Bool, true, false, ◌&&◌}
use mathlib.Core.List.{List, flatten}
use lib.ListN.{length}
use lib.Dec.{eqb}
use Rattle.octets.specs.Span.{put}
use Rattle.octets.proofs.Tests.{if_true, if_false, and_left}
use Rattle.rules.specs.Numbers.{done, wrong_length}
use Rattle.rules.specs.Run.{run, answer_records}
use Rattle.rules.specs.Records.{records, event_size}
use Rattle.route.specs.Entries.{events_to, events_in, list_lengths}
use Rattle.route.proofs.Whole.{a-list}
use Rattle.tally.specs.Places as place
use Rattle.tally.specs.Shares.{list_adds}
use Rattle.tally.specs.Entry.{too_many_lists, has_room, added, figures_lengths, is_added, figures_number, figures_table, figures_answers, figures_totals}

module _ (t es places f : List ℕ) where
  -- the number, and what is left in table, answers and totals
  abbrev pub Leaves : ℕ → List ℕ → List ℕ → List ℕ → Type 0
  Leaves n u b g =
      (n ≡ figures_number t es places f)
      × ((u ≡ figures_table t es places f) × ((b ≡ figures_answers t es places f) × (g ≡ figures_totals t es places f)))

  -- a list that is not added leaves every buffer
  unchanged : is_added t es places f ≡ false → (t ≡ figures_table t es places f) × ((places ≡ figures_answers t es places f) × (f ≡ figures_totals t es places f))
  unfolding figures_table figures_answers figures_totals
  unchanged h = (if_false _ _ _ refl h refl, (if_false _ _ _ refl h refl, if_false _ _ _ refl h refl))

  pub wrong-lengths : figures_lengths t es places f ≡ false → Leaves wrong_length t places f
  unfolding figures_number is_added
  wrong-lengths h = (if_false _ _ _ refl h refl, unchanged (ap (λ (b : Bool). b && has_room f) h))

  module _ (right : figures_lengths t es places f ≡ true) where
    pub right_list : list_lengths t es places ≡ true
    unfolding figures_lengths
    right_list = and_left (list_lengths t es places) (eqb (length f) place.figures) right

    pub too_many_lem : has_room f ≡ false → Leaves too_many_lists t places f
    unfolding figures_number is_added
    too_many_lem h = (
      if_true _ _ _ refl right (if_false _ _ _ refl h refl),
      unchanged (ap (λ (b : Bool). b && has_room f) right ∙ h),
    )

    pub a-list-added : has_room f ≡ true → {u b g : List ℕ} → u ≡ run records t (events_to es (length es / event_size)) → b ≡ put places 0 (flatten (answer_records records t (events_to es (length es / event_size)))) → g ≡ added (list_adds records t (events_to es (length es / event_size))) f → Leaves done u b g
    unfolding figures_number figures_table figures_answers figures_totals is_added events_in
    a-list-added h q s w =
        let l = a-list t es places right_list q s in
        let both = ap (λ (b : Bool). b && has_room f) right ∙ h in
        (if_true _ _ _ refl right (if_true _ _ _ refl h refl), (if_true _ _ _ refl both l.1.0, (if_true _ _ _ refl both l.1.1, if_true _ _ _ refl both w)))
