-- By the lengths, then by the room.
use Rattle.std.proofs.Common.{Bool, ◌/◌, ◌&&◌, length, sym, ap, ap₂, ◌∙◌, arith}
use lib.Dec.{eqb}
use borrow.Author.Tests.{eq-eqb, ne_eqb}
use Rattle.rules.specs.Records.{records, event_size}
use Rattle.route.specs.Entries.{events_to, list_lengths}
use Rattle.route.proofs.Whole.{list_facts}
use Rattle.tally.specs.Places as place
use Rattle.tally.specs.Shares.{list_adds}
use Rattle.tally.specs.Entry.{has_room, added, figures_lengths}
use Rattle.tally.proofs.Rooms.{room_for}
use Rattle.tally.proofs.Whole.{wrong-lengths, too_many_lem, a-list-added}
use Rattle.tally.proofs.list.Goals as goal

pub returns-then-not-list_lengths : goal.returns-then-not-list_lengths
unfolding figures_lengths list_lengths
returns-then-not-list_lengths c =
    let a = c.args in
    let wrong = sym c.list_lengths.ensures ∙ c.if-not-list_lengths.true in
    let none = wrong-lengths a.t.now a.es.now a.places.now a.totals.now (ap (λ (b : Bool). b && eqb (length a.totals.now) place.figures) wrong) in
    record { number = none.0; table = none.1.0; answers = none.1.1.0; totals = none.1.1.1 }

pub returns-in_default : goal.returns-in_default
unfolding figures_lengths list_lengths
returns-in_default c =
    let a = c.args in
    let right = sym c.list_lengths.ensures ∙ c.if-not-list_lengths.false in
    let none =
    wrong-lengths a.t.now a.es.now a.places.now a.totals.now (ap₂ (λ (b d : Bool). b && d) right (ne_eqb (length a.totals.now) place.figures c.in_default.ensures.cases))
    in
    record { number = none.0; table = none.1.0; answers = none.1.1.0; totals = none.1.1.1 }

pub returns-then-not-has_room : goal.returns-then-not-has_room
unfolding figures_lengths list_lengths
returns-then-not-has_room c =
    let a = c.args in
    let same = c.in-Some.ensures.cases.same in
    let right = ap₂ (λ (b d : Bool). b && d) (sym c.list_lengths.ensures ∙ c.if-not-list_lengths.false) (eq-eqb (length a.totals.now) place.figures c.in-Some.ensures.cases.long) in
    let none = too_many_lem a.t.now a.es.now a.places.now a.totals.now right (ap has_room (sym same) ∙ sym c.has_room.ensures ∙ c.if-not-has_room.true) in
    record { number = none.0; table = none.1.0; answers = none.1.1.0; totals = same ∙ none.1.1.1 }

pub carry_out-requires : goal.carry_out-requires
unfolding list_lengths
carry_out-requires c =
    let a = c.args in
    let l = list_facts a.t.now a.es.now a.places.now (sym c.list_lengths.ensures ∙ c.if-not-list_lengths.false) in
    let same = c.in-Some.ensures.cases.same in
    let f = room_for c.in-Some.totals.now (ap length same ∙ c.in-Some.ensures.cases.long) (sym c.has_room.ensures ∙ c.if-not-has_room.false) in
    record { t_bound = l.0; events_in_bounds = omega arith; answers_in_bounds = omega (arith, l.2); n_le_most_events = l.3; has_room_for = f }

pub returns : goal.returns
unfolding figures_lengths list_lengths
returns c =
    let a = c.args in
    let same = c.in-Some.ensures.cases.same in
    let right = ap₂ (λ (b d : Bool). b && d) (sym c.list_lengths.ensures ∙ c.if-not-list_lengths.false) (eq-eqb (length a.totals.now) place.figures c.in-Some.ensures.cases.long) in
    let one =
    a-list-added a.t.now a.es.now a.places.now a.totals.now right (ap has_room (sym same) ∙ sym c.has_room.ensures ∙ c.if-not-has_room.false) c.carry_out.ensures.table c.carry_out.ensures.answers (c.carry_out.ensures.totals ∙ ap (added (list_adds records a.t.now (events_to a.es.now (length a.es.now / event_size)))) same)
    in
    record { number = one.0; table = one.1.0; answers = one.1.1.0; totals = one.1.1.1 }
