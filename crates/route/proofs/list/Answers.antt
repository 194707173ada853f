-- By the lengths.
use Rattle.std.proofs.Common.{sym, ◌∙◌, arith}
use Rattle.route.specs.Entries.{list_lengths}
use Rattle.route.proofs.Whole.{no_list, list_facts, a-list}
use Rattle.route.proofs.list.Goals as goal

pub returns-then-not-list_lengths : goal.returns-then-not-list_lengths
unfolding list_lengths
returns-then-not-list_lengths c =
    let a = c.args in
    let none = no_list a.t.now a.es.now a.places.now (sym c.list_lengths.ensures ∙ c.if-not-list_lengths.true) in
    record { number = none.0; table = none.1.0; answers = none.1.1 }

pub each-requires-clause-t_bound : goal.each-requires-clause-t_bound
unfolding list_lengths
each-requires-clause-t_bound c =
    let a = c.args in
    (list_facts a.t.now a.es.now a.places.now (sym c.list_lengths.ensures ∙ c.if-not-list_lengths.false)).0

pub each-requires-clause-answers_in_bounds : goal.each-requires-clause-answers_in_bounds
unfolding list_lengths
each-requires-clause-answers_in_bounds c =
    let a = c.args in
    let f = list_facts a.t.now a.es.now a.places.now (sym c.list_lengths.ensures ∙ c.if-not-list_lengths.false) in
    omega (arith, f.2)

pub returns : goal.returns
unfolding list_lengths
returns c =
    let a = c.args in
    let one = a-list a.t.now a.es.now a.places.now (sym c.list_lengths.ensures ∙ c.if-not-list_lengths.false) c.each.ensures.table c.each.ensures.answers in
    record { number = one.0; table = one.1.0; answers = one.1.1 }
