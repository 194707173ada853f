-- A list of events, one more applied.
use Prim.Native.Nat.{ℕ, zero, suc, ◌+◌, ◌*◌}
use mathlib.Core.Path.{◌≡◌, refl, sym, ap, ◌∙◌}
use mathlib.Core.List.{List, [], ◌∷◌, ◌++◌, flatten, append-nil, append_assoc}
use native.Mathlib.Numerals.{add-one}
use native.Mathlib.Nat.{zero-add}
use native.Mathlib.Omega.{arith}
use lib.ListN.{length, length-append}
use Rattle.octets.specs.Span.{put}
use Rattle.octets.proofs.Spans.{put-put}
use Rattle.rules.specs.Run.{after, answer_record, run, answer_records}
use Rattle.rules.specs.Records.{records, answer_size, event_in}
use Rattle.rules.proofs.Kept.{run-append, answers-append}
use Rattle.route.specs.Entries.{events_to}

-- every answer has the octets of one
pub length-answer : (t e : List ℕ) → length (answer_record records t e) ≡ answer_size
unfolding answer_record records
length-answer t e = refl

flatten_more : (ls : List (List ℕ)) (l : List ℕ) → flatten (ls ++ (l ∷ [])) ≡ flatten ls ++ l
unfolding flatten
flatten_more [] l = append-nil l
flatten_more (k ∷ ls) l = ap (λ (r : List ℕ). k ++ r) (flatten_more ls l) ∙ sym (append_assoc k (flatten ls) l)

module _ (t es : List ℕ) where
  abbrev pub ran : ℕ → List ℕ  -- the table after the first k events
  ran k = run records t (events_to es k)

  abbrev pub given : ℕ → List ℕ  -- their answers
  given k = flatten (answer_records records t (events_to es k))

  pub ran_more : (k : ℕ) → after records (ran k) (event_in es k) ≡ ran (k + 1)
  ran_more k = sym (run-append records (events_to es k) (event_in es k ∷ []) t) ∙ ap ran (sym (add-one k))

  pub answers_next : (k : ℕ) → given k ++ answer_record records (ran k) (event_in es k) ≡ given (suc k)
  answers_next k =
      sym (flatten_more (answer_records records t (events_to es k)) (answer_record records (ran k) (event_in es k)))
      ∙ ap flatten (sym (answers-append records (events_to es k) (event_in es k ∷ []) t))

  pub answers-length : (k : ℕ) → length (given k) ≡ answer_size * k
  unfolding flatten
  answers-length zero = refl
  answers-length (suc k) =
      let one = length-answer (ran k) (event_in es k) in
      let before = answers-length k in
      ap length (sym (answers_next k)) ∙ length-append (given k) (answer_record records (ran k) (event_in es k)) ∙ omega arith

  -- before the first event no answer is written
  pub none-answered : (places : List ℕ) → places ≡ put places 0 (given 0)
  unfolding flatten
  none-answered places = refl

  -- the answers written so far, and one more after them
  pub answers_more : (places : List ℕ) (k : ℕ) → put (put places 0 (given k)) (answer_size * k) (answer_record records (ran k) (event_in es k)) ≡ put places 0 (given (k + 1))
  answers_more places k =
      let a = answer_record records (ran k) (event_in es k) in
      ap (λ (o : ℕ). put (put places 0 (given k)) o a) (sym (answers-length k) ∙ sym (zero-add (length (given k))))
      ∙ put-put places 0 (given k) a ∙ ap (put places 0) (answers_next k ∙ ap given (sym (add-one k)))
