-- The numbers of the events run on over lists, and lists one after another give the lines of all their events.
use Prim.Native.Nat.{ℕ, zero, suc, ◌+◌, ◌*◌, ◌/◌, ◌%◌, ◌≤◌}
use mathlib.Core.Path.{◌≡◌, refl, sym, ap, ap₂, ◌∙◌}
use mathlib.Core.Bool.{cond}
use mathlib.Core.List.{List, [], ◌∷◌, ◌++◌, flatten, append-nil, append_assoc}
use native.Mathlib.Nat.{add-zero, add-suc}
use native.Mathlib.Omega.{arith}
use lib.ListN.{length, get_or, length-append, get_or-append}
use lib.Seq.{get_or-append-add}
use Rattle.octets.specs.Span.{span}
use Rattle.octets.proofs.Spans.{span_cong}
use Rattle.rules.specs.Run.{run, answer_records}
use Rattle.rules.specs.Records.{records}
use Rattle.rules.proofs.Kept.{answers-append}
use Rattle.route.specs.Entries.{events_to, events_in, list_table, list_answers}
use Rattle.route.proofs.Listed.{answers-length}
use Rattle.route.proofs.Whole.{list_facts}
use Rattle.lines.specs.Event.{line}
use Rattle.decide.specs.Listing.{listing_to, listing, RunningOn}
use Rattle.decide.specs.Output.{answers_to, ListByList}

-- ---- what is made of records of 16 octets one by one, by their number
module _ {A : Type 0} where
  abbrev pieces : (ℕ → List ℕ → List A) → List ℕ → ℕ → List A
  pieces f s zero = []
  pieces f s (suc k) = pieces f s k ++ f k (span s (16 * k) 16)

  module _ (f : ℕ → List ℕ → List A) (first second : List ℕ) where
    start : (k : ℕ) → 16 * k ≤ length first → pieces f (first ++ second) k ≡ pieces f first k
    start zero l = refl
    start (suc k) l =
        ap₂ (λ (p : List A) (a : List ℕ). p ++ f k a) (start k (omega arith))
        (span_cong (first ++ second) (16 * k) first (16 * k) 16 (λ j b. get_or-append first second 0 (16 * k + j) (omega arith)))

    appended : (n k : ℕ) → 16 * n ≡ length first → pieces f (first ++ second) (n + k) ≡ pieces f first n ++ pieces (λ i. f (n + i)) second k
    appended n zero e =
        ap (pieces f (first ++ second)) (add-zero n) ∙ start n (omega arith) ∙ sym (append-nil (pieces f first n))
    appended n (suc k) e =
        let place : (j : ℕ) → 16 * (n + k) + j ≡ length first + (16 * k + j) = λ j. omega arith in
        let record-at : span (first ++ second) (16 * (n + k)) 16 ≡ span second (16 * k) 16 = span_cong (first ++ second) (16 * (n + k)) second (16 * k) 16 (λ j l. ap (λ (i : ℕ). get_or (first ++ second) i 0) (place j) ∙ get_or-append-add first second (16 * k + j) 0) in
        ap (pieces f (first ++ second)) (add-suc n k) ∙ ap₂ (λ (p : List A) (a : List ℕ). p ++ f (n + k) a) (appended n k e) record-at
        ∙ append_assoc (pieces f first n) (pieces (λ i. f (n + i)) second k) (f (n + k) (span second (16 * k) 16))

both_whole : (first second : List ℕ) → length first % 16 ≡ 0 → length (first ++ second) / 16 ≡ length first / 16 + length second / 16
both_whole first second e = omega (arith, length-append first second)

-- ---- lines, and their numbers
abbrev line_after : ℕ → ℕ → List ℕ → List ℕ
line_after before k a = line (before + suc k) a

lines_pieces : (before : ℕ) (s : List ℕ) (k : ℕ) → listing_to before s k ≡ pieces (line_after before) s k
lines_pieces before s zero = refl
lines_pieces before s (suc k) = ap (λ (l : List ℕ). l ++ line (before + suc k) (span s (16 * k) 16)) (lines_pieces before s k)

lines_after : (before n : ℕ) (s : List ℕ) (k : ℕ) → pieces (λ i. line_after before (n + i)) s k ≡ listing_to (before + n) s k
lines_after before n s zero = refl
lines_after before n s (suc k) =
    let number : before + suc (n + k) ≡ before + n + suc k = omega arith in
    ap₂ (λ (l : List ℕ) (m : ℕ). l ++ line m (span s (16 * k) 16)) (lines_after before n s k) number

pub running_on : RunningOn
unfolding listing
running_on before first second e =
    let n = length first / 16 in
    let k = length second / 16 in
    ap (listing_to before (first ++ second)) (both_whole first second e) ∙ lines_pieces before (first ++ second) (n + k)
    ∙ appended (line_after before) first second n k (omega arith)
    ∙ ap₂ (λ (l m : List ℕ). l ++ m) (sym (lines_pieces before first n)) (lines_after before n second k)

-- ---- events
events_pieces : (s : List ℕ) (k : ℕ) → events_to s k ≡ pieces (λ _ e. e ∷ []) s k
events_pieces s zero = refl
events_pieces s (suc k) = ap (λ (l : List (List ℕ)). l ++ (span s (16 * k) 16 ∷ [])) (events_pieces s k)

events-append : (first second : List ℕ) → length first % 16 ≡ 0 → events_in (first ++ second) ≡ events_in first ++ events_in second
unfolding events_in
events-append first second e =
    let n = length first / 16 in
    let k = length second / 16 in
    ap (events_to (first ++ second)) (both_whole first second e) ∙ events_pieces (first ++ second) (n + k)
    ∙ appended (λ _ e. e ∷ []) first second n k (omega arith)
    ∙ ap₂ (λ (l m : List (List ℕ)). l ++ m) (sym (events_pieces first n)) (sym (events_pieces second k))

flatten-append : (a b : List (List ℕ)) → flatten (a ++ b) ≡ flatten a ++ flatten b
unfolding flatten
flatten-append [] b = refl
flatten-append (x ∷ a) b = ap (λ (l : List ℕ). x ++ l) (flatten-append a b) ∙ sym (append_assoc x (flatten a) (flatten b))

pub list_by_list : ListByList
unfolding answers_to list_table list_answers events_in
list_by_list before t first places rest h =
    let answers = flatten (answer_records records t (events_in first)) in
    let after = run records t (events_in first) in
    let whole : length first % 16 ≡ 0 = (list_facts t first places h).1 in
    let size : length answers ≡ 16 * (length first / 16) = answers-length t first (length first / 16) in
    let split : answers_to t (first ++ rest) ≡ answers ++ answers_to after rest = ap (λ (es : List (List ℕ)). flatten (answer_records records t es)) (events-append first rest whole) ∙ ap flatten (answers-append records (events_in first) (events_in rest) t) ∙ flatten-append (answer_records records t (events_in first)) (answer_records records after (events_in rest)) in
    let number : length answers / 16 ≡ length first / 16 = omega arith in
    ap (listing before) split ∙ running_on before answers (answers_to after rest) (omega arith)
    ∙ (λ i. listing before (cond (sym h i) answers places) ++ listing (before + number i) (answers_to (cond (sym h i) after t) rest))
