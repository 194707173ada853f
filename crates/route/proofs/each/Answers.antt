-- No event changes the verdict on the table, and each adds its own table and answer.
use Rattle.std.proofs.Common.{ℕ, ◌*◌, List, refl, sym, ap, ap₂, ◌∙◌}
use Rattle.octets.specs.Span.{put}
use Rattle.rules.specs.Valid.{verdict}
use Rattle.rules.specs.Run.{after, answer_record}
use Rattle.rules.specs.Records.{records, answer_size, event_in}
use Rattle.rules.proofs.Records.{lawful}
use Rattle.rules.proofs.Kept.{run-verdict}
use Rattle.route.specs.Entries.{events_to}
use Rattle.route.proofs.Listed.{ran_more, none-answered, answers_more}
use Rattle.route.proofs.each.Goals as goal

pub loop-k-init : goal.loop-k-init
loop-k-init c = let a = c.args in record { table = refl; answers = none-answered a.t.now a.es.now a.places.now }

pub apply-requires-clause-verdict_value : goal.apply-requires-clause-verdict_value
apply-requires-clause-verdict_value c =
    let l = c.loop-k in
    let a = c.args in
    c.requires.verdict_value ∙ sym (run-verdict records lawful (events_to a.es.now l.k) a.t.now) ∙ ap (verdict records) (sym l.invariant.table)

pub loop-k-preserved : goal.loop-k-preserved
loop-k-preserved c =
    let l = c.loop-k in
    let t = c.args.t.now in
    let es = c.args.es.now in
    let event = event_in es l.k in
    record {
      table = c.apply.ensures.table ∙ ap (λ (u : List ℕ). after records u event) l.invariant.table ∙ ran_more t es l.k;
      answers =
          c.apply.ensures.answers ∙ ap₂ (λ (u p : List ℕ). put p (answer_size * l.k) (answer_record records u event)) l.invariant.table l.invariant.answers
          ∙ answers_more t es c.args.places.now l.k;
    }
