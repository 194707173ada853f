-- What the check gives of a bad table is passed on to every event, and nothing gives 21.
use Prim.Native.Nat.{ℕ, ◌/◌, ◌<◌}
use mathlib.Core.Path.{◌≡◌, refl, sym, ap, ◌∙◌}
use mathlib.Core.Logic.{◌≢◌}
use mathlib.Core.Bool.{Bool, true, false, cond, true≢false}
use mathlib.Core.List.{List, [], ◌∷◌}
use native.Mathlib.Omega.{arith}
use lib.ListN.{length}
use Rattle.octets.proofs.Tests.{halves, by_test, not_so}
use Rattle.rules.specs.declared.event.Event.{Event}
use Rattle.rules.specs.declared.verdict.Reason.{Reason}
use Rattle.rules.specs.declared.verdict.Reason.TheVariants.{FlagOrLevel, DigitOrPointCode, NotZero, NotAbove, Repeated}
use Rattle.rules.specs.Verdict.{Verdict}
use Rattle.rules.specs.declared.outcome.Refusal.TheVariants.{Malformed, BadRecord}
use Rattle.rules.specs.Outcome.{Outcome}
use Rattle.std.specs.Prelude.{Err}
use Rattle.rules.specs.Event.{well_formed}
use Rattle.rules.specs.Decision.{unless, decision}
use Rattle.rules.specs.Numbers.{reason_number}
use Rattle.rules.specs.Answer.{answer_of}
use Rattle.rules.specs.Valid.{valid}
use Rattle.rules.specs.Run.{if_sound, outcome_of, after, answered, answer_record, run}
use Rattle.rules.specs.Records.{circuit_at, circuits, table_length, event_at, event_in, answer_octets, answer_in, answer_number, records, check_number}
use Rattle.rules.proofs.Numbers.{reason-within}
use Rattle.rules.proofs.Records.{lawful}
use Rattle.rules.proofs.Kept.{not_valid_stays}
use Rattle.route.specs.Entries.{events_to, events_in, event_lengths, event_number, list_lengths, list_number, list_table, list_answers}
use Rattle.route.proofs.Listed.{ran, given}
use Rattle.tally.specs.Entry.{has_room, figures_lengths, figures_number}
use Rattle.claims.specs.Named.{naming, passed, PassedOn, TwentyOneGone}
use Rattle.claims.proofs.Octets.{answer-number}
use Rattle.claims.proofs.Cut.{answer_at}
use Rattle.claims.proofs.Demanded.{one-lengths}
use Rattle.claims.proofs.Alone.{same_lengths}
use Rattle.claims.proofs.Carried.{lengths_right, carried_out_lem}
use Rattle.rules.proofs.Check.{valid-done, by_check}
use Rattle.claims.proofs.Refused.{number_then, table_then, answer_then, answered_not, returns-number}
use Rattle.claims.proofs.Named.{right_length}

-- ---- over a table of right length of which the check does not give 0
module _ (t : List ℕ) (l : table_length (length t) ≡ true) (bad : check_number t ≢ 0) where
  pub passed-answer : (e : List ℕ) → answer_record records t e ≡ passed t e
  unfolding answer_record answered answer_of outcome_of records
  passed-answer e =
      by_check (λ c. c.number ≢ 0 → answer_record records t e ≡ cond (well_formed ev) (naming c.number c.detail) (naming 22 65535)) t
      (λ f. absurd (true≢false (sym l ∙ f)))
      (λ f v z. absurd (z refl))
      (λ f r i v z. ap (λ (w : Verdict). told (unless (well_formed ev) Malformed (if_sound w (decision (circuit_at t) (circuits t) ev)))) v ∙ go i r (well_formed ev))
      bad
    where
      ev : Event
      ev = event_at e

      told : Outcome → List ℕ
      told o = answer_octets (answer_of (circuit_at t) (circuits t) ev o)

      go : (i : ℕ) (r : Reason) (b : Bool) → told (unless b Malformed (Err (BadRecord r i))) ≡ cond b (naming (reason_number r) i) (naming 22 65535)
      go i FlagOrLevel true = refl
      go i DigitOrPointCode true = refl
      go i NotZero true = refl
      go i NotAbove true = refl
      go i Repeated true = refl
      go i r false = refl

  stays : (e : List ℕ) → after records t e ≡ t
  stays e = not_valid_stays records lawful t e (not_so (valid records t) (λ v. bad (valid-done t l v)))

  pub run-stays : (es : List (List ℕ)) → run records t es ≡ t
  run-stays [] = refl
  run-stays (e ∷ es) = ap (λ (u : List ℕ). run records u es) (stays e) ∙ run-stays es

-- ---- a list that is carried out
module _ (t es places : List ℕ) (carried : list_number t es places ≡ 0) where
  lengths : list_lengths t es places ≡ true
  lengths = lengths_right t es places ((carried_out_lem t es places).0 carried)

  table_right : table_length (length t) ≡ true
  unfolding list_lengths
  table_right = (halves lengths).0

  pub answer-left : (k : ℕ) → k < length es / 16 → answer_in (list_answers t es places) k ≡ answer_record records (ran t es k) (event_in es k)
  unfolding list_answers events_in
  answer-left k m =
      ap (λ (b : Bool). answer_in (cond b (given t es (length es / 16)) places) k) lengths ∙ answer_at t es (length es / 16) k m

  table-left : list_table t es places ≡ run records t (events_in es)
  unfolding list_table
  table-left = ap (λ (b : Bool). cond b (run records t (events_in es)) t) lengths

-- a bad table stays as it is, so each event of a list is answered as it would be alone
passed-after : (t : List ℕ) → table_length (length t) ≡ true → check_number t ≢ 0 → (es : List (List ℕ)) (e : List ℕ) → answer_record records (run records t es) e ≡ passed t e
passed-after t l bad es e =
    ap (λ (u : List ℕ). answer_record records u e) (run-stays t l bad es) ∙ passed-answer t l bad e

pub passed_on : PassedOn
passed_on =
    record {
      event = λ t e place right sixteen room bad.
          let l = (right_length t).1 right in
          let q = sym (same_lengths t e place sixteen) ∙ one-lengths t e place l sixteen room in
          let answer = passed-answer t l bad e in
          record {
            answer = answer_then t e place q ∙ answer;
            number = number_then t e place q ∙ sym (answer-number t e) ∙ ap answer_number answer;
            table = table_then t e place q ∙ stays t l bad e;
          };
      list = λ t es places carried bad.
          let l = table_right t es places carried in
          record {
            answers = λ k m. answer-left t es places carried k m ∙ passed-after t l bad (events_to es k) (event_in es k);
            table = table-left t es places carried ∙ run-stays t l bad (events_in es);
          };
    }

abbrev Other : ℕ → Type 0
Other k = k ≢ 21

given_not : (t e : List ℕ) → Other (answered records t e).number
given_not t e = answered_not t e 21 (omega arith) (omega arith)

event_not : (t e place : List ℕ) → Other (event_number t e place)
unfolding event_number
event_not t e place = by_test Other (event_lengths t e place) (answered records t e).number 20 (λ q. given_not t e) (λ q h. omega arith)

pub twenty_one_gone : TwentyOneGone
unfolding list_number figures_number
twenty_one_gone =
    record {
      check = λ t. by_check (λ c. c.number ≢ 21) t (λ l e. omega arith) (λ l v e. omega arith) (λ l r i v e. omega (arith, (reason-within r).0));
      event = event_not;
      answer = λ t e place written h. event_not t e place (returns-number t e place written ∙ h);
      list = λ t es places. by_test Other (list_lengths t es places) 0 20 (λ q h. omega arith) (λ q h. omega arith);
      answers = λ t es places carried k m h. given_not (ran t es k) (event_in es k) (sym (answer-number (ran t es k) (event_in es k)) ∙ ap answer_number (sym (answer-left t es places carried k m)) ∙ h);
      figures = λ t es places f.
          by_test Other (figures_lengths t es places f) _ 20 (λ q. by_test Other (has_room f) 0 60 (λ r h. omega arith) (λ r h. omega arith)) (λ q h. omega arith);
    }
