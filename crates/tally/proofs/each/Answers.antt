-- No event changes the verdict on the table, and each adds its own table, answer and shares.
use Rattle.std.proofs.Common.{ℕ, ◌*◌, List, refl, sym, ap, ap₂, subst, ◌∙◌, arith}
use Rattle.octets.specs.Span.{put}
use Rattle.rules.specs.Valid.{verdict}
use Rattle.rules.specs.Run.{after, answered, answer_record}
use Rattle.rules.specs.Records.{records, answer_size, event_in, event_at}
use Rattle.rules.proofs.Records.{lawful}
use Rattle.rules.proofs.Kept.{run-verdict}
use Rattle.route.specs.Entries.{events_to}
use Rattle.route.proofs.Listed.{ran_more, none-answered, answers_more}
use Rattle.tally.specs.Shares.{shares}
use Rattle.tally.specs.Entry.{added}
use Rattle.tally.specs.Room.{HasRoomFor}
use Rattle.tally.proofs.Tallied.{none_gained, gained_more, room-still}
use Rattle.tally.proofs.each.Goals as goal

pub loop-k-init : goal.loop-k-init
loop-k-init c =
    let a = c.args in
    record {
      table = refl;
      answers = none-answered a.t.now a.es.now a.places.now;
      totals = none_gained a.t.now a.es.now a.totals.now;
    }

pub step-requires-clause-verdict_value : goal.step-requires-clause-verdict_value
step-requires-clause-verdict_value c =
    let l = c.loop-k in
    let a = c.args in
    c.requires.verdict_value ∙ sym (run-verdict records lawful (events_to a.es.now l.k) a.t.now) ∙ ap (verdict records) (sym l.invariant.table)

pub step-requires-clause-has_room_for : goal.step-requires-clause-has_room_for
step-requires-clause-has_room_for c =
    let l = c.loop-k in
    let a = c.args in
    subst (HasRoomFor 1) (sym l.invariant.totals) (room-still a.t.now a.es.now a.totals.now a.n l.k (omega arith) c.requires.has_room_for)

pub loop-k-preserved : goal.loop-k-preserved
loop-k-preserved c =
    let l = c.loop-k in
    let a = c.args in
    let t = a.t.now in
    let es = a.es.now in
    let event = event_in es l.k in
    record {
      table = c.step.ensures.table ∙ ap (λ (u : List ℕ). after records u event) l.invariant.table ∙ ran_more t es l.k;
      answers =
          c.step.ensures.answers ∙ ap₂ (λ (u p : List ℕ). put p (answer_size * l.k) (answer_record records u event)) l.invariant.table l.invariant.answers
          ∙ answers_more t es a.places.now l.k;
      totals =
          c.step.ensures.totals ∙ ap₂ (λ (u f : List ℕ). added (shares (event_at event) (answered records u event)) f) l.invariant.table l.invariant.totals
          ∙ gained_more t es a.totals.now l.k;
    }
