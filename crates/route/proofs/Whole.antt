-- The lengths of an entry's buffers settle what it gives: at right ones what was done of the whole buffers, at wrong ones 20 and the buffers as they were.
use Prim.Native.Nat.{ℕ, ◌/◌, ◌%◌, ◌≤◌, ◌*◌}
use mathlib.Core.Path.{◌≡◌, refl, sym, ap, ◌∙◌}
use mathlib.Core.Bool.{Bool, true, false, cond, ◌&&◌}
use mathlib.Core.List.{List, flatten}
use native.Mathlib.Omega.{arith}
use lib.ListN.{length}
use lib.Dec.{eqb, leb}
use borrow.Author.Tests.{eqb-true, leb-true}
use Rattle.octets.specs.Span.{put}
use Rattle.octets.proofs.Tests.{and_left, and_right}
use Rattle.octets.proofs.Spans.{span_all, put_whole}
use Rattle.rules.specs.Numbers.{wrong_length}
use Rattle.rules.specs.Run.{after, answered, answer_record, run, answer_records}
use Rattle.rules.specs.Records.{records, table_length, list_length, circuits, most_circuits, event_size, most_events, answer_size, event_in}
use Rattle.rules.proofs.Check.{length_facts}
use Rattle.route.specs.Entries.{event_lengths, event_number, event_table, event_answer, events_to, events_in, list_lengths, list_number, list_table, list_answers}
use Rattle.route.proofs.Listed.{length-answer, answers-length}

module _ {A : Type 0} {b : Bool} (y z : A) where
  when : b ≡ true → {x : A} → x ≡ y → x ≡ cond b y z
  when h e = e ∙ sym (ap (λ (t : Bool). cond t y z) h)

  otherwise : b ≡ false → z ≡ cond b y z
  otherwise h = sym (ap (λ (t : Bool). cond t y z) h)

module _ (t e a : List ℕ) where
  module _ (wrong : event_lengths t e a ≡ false) where
    pub no_event : (wrong_length ≡ event_number t e a) × ((t ≡ event_table t e a) × (a ≡ event_answer t e a))
    unfolding event_number event_table event_answer
    no_event = (otherwise _ _ wrong, (otherwise _ _ wrong, otherwise _ _ wrong))

  module _ (right : event_lengths t e a ≡ true) where
    pub event_facts : (circuits t ≤ most_circuits) × (length e ≡ event_size) × (length a ≡ answer_size)
    unfolding event_lengths
    event_facts =
        let two = eqb (length e) event_size && eqb (length a) answer_size in
        let rest = and_right (table_length (length t)) two right in (
          (length_facts (length t) (and_left (table_length (length t)) two right)).2,
          eqb-true (length e) event_size (and_left (eqb (length e) event_size) (eqb (length a) answer_size) rest),
          eqb-true (length a) answer_size (and_right (eqb (length e) event_size) (eqb (length a) answer_size) rest),
        )

    all : event_in e 0 ≡ e
    all = span_all e event_size event_facts.1

    -- the event's octets were read from place 0 on, and the answer's written there
    pub an_event : {r : ℕ} {u b : List ℕ} → r ≡ (answered records t (event_in e 0)).number → u ≡ after records t (event_in e 0) → b ≡ put a 0 (answer_record records t (event_in e 0)) → (r ≡ event_number t e a) × ((u ≡ event_table t e a) × (b ≡ event_answer t e a))
    unfolding event_number event_table event_answer
    an_event p q s = (
      when _ _ right (p ∙ ap (λ (o : List ℕ). (answered records t o).number) all),
      (
        when _ _ right (q ∙ ap (after records t) all),
        when _ _ right (s ∙ put_whole a (answer_record records t (event_in e 0)) (length-answer t (event_in e 0) ∙ sym event_facts.2) ∙ ap (answer_record records t) all),
      ),
    )

module _ (t es places : List ℕ) where
  module _ (wrong : list_lengths t es places ≡ false) where
    pub no_list : (wrong_length ≡ list_number t es places) × ((t ≡ list_table t es places) × (places ≡ list_answers t es places))
    unfolding list_number list_table list_answers
    no_list = (otherwise _ _ wrong, (otherwise _ _ wrong, otherwise _ _ wrong))

  module _ (right : list_lengths t es places ≡ true) where
    pub list_facts : (circuits t ≤ most_circuits) × (length es % event_size ≡ 0) × (length places ≡ answer_size * (length es / event_size)) × (length es / event_size ≤ most_events)
    unfolding list_lengths list_length
    list_facts =
        let e = length es in
        let p = length places in
        let some = leb (e / event_size) most_events && eqb p (answer_size * (e / event_size)) in
        let rest = and_right (table_length (length t)) (eqb (e % event_size) 0 && some) right in
        let both = and_right (eqb (e % event_size) 0) some rest in (
          (length_facts (length t) (and_left (table_length (length t)) (eqb (e % event_size) 0 && some) right)).2,
          eqb-true (e % event_size) 0 (and_left (eqb (e % event_size) 0) some rest),
          eqb-true p (answer_size * (e / event_size)) (and_right (leb (e / event_size) most_events) (eqb p (answer_size * (e / event_size))) both),
          leb-true (e / event_size) most_events (and_left (leb (e / event_size) most_events) (eqb p (answer_size * (e / event_size))) both),
        )

    pub a-list : {u b : List ℕ} → u ≡ run records t (events_to es (length es / event_size)) → b ≡ put places 0 (flatten (answer_records records t (events_to es (length es / event_size)))) → (0 ≡ list_number t es places) × ((u ≡ list_table t es places) × (b ≡ list_answers t es places))
    unfolding list_number list_table list_answers events_in
    a-list q s = (
      when _ _ right refl,
      (
        when _ _ right q,
        when _ _ right
            (s ∙ put_whole places (flatten (answer_records records t (events_to es (length es / event_size)))) (answers-length t es (length es / event_size) ∙ let f = list_facts in omega arith)),
      ),
    )
