-- The answers that a list leaves, cut into records of 16 octets, are those to its events one by one; so lists one after another are one run.
use Prim.Native.Nat.{ℕ, zero, suc, ◌+◌, ◌*◌, ◌/◌, ◌<◌, ◌≤◌}
use mathlib.Core.Path.{◌≡◌, refl, sym, ap, ◌∙◌}
use mathlib.Core.Bool.{Bool, true, false, cond}
use mathlib.Core.List.{List, [], ◌∷◌, ◌++◌, append_assoc}
use native.Mathlib.Nat.{not-suc-le-zero, zero-add}
use native.Mathlib.Omega.{arith}
use lib.ListN.{length, get_or, get_or-append}
use lib.Seq.{get_or-append-add}
use lib.Dec.{eqb}
use Rattle.octets.proofs.Spans.{grow, span_cong, span_all}
use Rattle.rules.specs.Numbers.{wrong_length}
use Rattle.rules.specs.Run.{answer_record}
use Rattle.rules.specs.Records.{records, event_size, answer_size, event_in, answer_in}
use Rattle.rules.proofs.Kept.{run-append}
use Rattle.route.specs.Entries.{events_to, events_in, list_lengths, list_number, list_table, list_answers}
use Rattle.route.proofs.Listed.{length-answer, ran, given, answers_next, answers-length}
use Rattle.claims.specs.History.{Turn}
use Rattle.claims.specs.Lists.{EventList, turns_to, turns, table_after, past}
use Rattle.claims.proofs.Ran.{Ran, ran_append}

-- ---- one list: table t, events es; `ran` and `given` are the table and the answers after some of them
module _ (t es : List ℕ) where
  -- answer m of n
  pub answer_at : (n m : ℕ) → m < n → answer_in (given t es n) m ≡ answer_record records (ran t es m) (event_in es m)
  answer_at zero m l = absurd (not-suc-le-zero l)
  answer_at (suc n) m l =
      let a = answer_record records (ran t es n) (event_in es n) in
      ap (λ (r : List ℕ). answer_in r m) (sym (answers_next t es n))
      ∙ grow (λ (j : ℕ). answer_in (given t es n ++ a) j ≡ answer_record records (ran t es j) (event_in es j)) n
      (λ j b.
      span_cong (given t es n ++ a) (answer_size * j) (given t es n) (answer_size * j) answer_size
      (λ k d. get_or-append (given t es n) a 0 (answer_size * j + k) (omega (arith, answers-length t es n)))
      ∙ answer_at n j b)
      (span_cong (given t es n ++ a) (answer_size * n) a 0 answer_size
      (λ k d.
      ap (λ (i : ℕ). get_or (given t es n ++ a) (i + k) 0) (sym (answers-length t es n))
      ∙ get_or-append-add (given t es n) a k 0 ∙ ap (λ (i : ℕ). get_or a i 0) (sym (zero-add k)))
      ∙ span_all a answer_size (length-answer (ran t es n) (event_in es n)))
      m l

  ran_to : (n m : ℕ) → m ≤ n → Ran t (turns_to es (given t es n) m) (ran t es m)
  ran_to n zero l = refl
  ran_to n (suc m) l =
      ran_append (turns_to es (given t es n) m) (record { event = event_in es m; answer = answer_in (given t es n) m } ∷ []) t (ran t es m) (ran t es (suc m)) (ran_to n m (omega arith)) (answer_at n m l, sym (run-append records (events_to es m) (event_in es m ∷ []) t))

-- ---- lists
pub list_ran : (t : List ℕ) (k : EventList) → Ran t (turns t k) (list_table t k.events k.places)
unfolding turns list_number list_table list_answers events_in
list_ran t k = go (list_lengths t es k.places)
  where
    es : List ℕ
    es = k.events

    n : ℕ
    n = length es / event_size

    go : (b : Bool) → Ran t (cond (eqb (cond b 0 wrong_length) 0) (turns_to es (cond b (given t es n) k.places) n) []) (cond b (ran t es n) t)
    go true = ran_to t es n n (omega arith)
    go false = refl

pub past_ran : (lists : List EventList) (t : List ℕ) → Ran t (past t lists) (table_after t lists)
past_ran [] t = refl
past_ran (k ∷ ks) t =
    let u = list_table t k.events k.places in
    ran_append (turns t k) (past u ks) t u (table_after u ks) (list_ran t k) (past_ran ks u)

-- a list that is carried out leaves the octets of an answer for each event
pub length-left : (t es places : List ℕ) → list_lengths t es places ≡ true → length (list_answers t es places) ≡ answer_size * (length es / event_size)
unfolding list_answers events_in
length-left t es places h =
    ap (λ (b : Bool). length (cond b (given t es (length es / event_size)) places)) h ∙ answers-length t es (length es / event_size)

-- lists, and one more
pub past-append : (ks ls : List EventList) (t : List ℕ) → past t (ks ++ ls) ≡ past t ks ++ past (table_after t ks) ls
past-append [] ls t = refl
past-append (k ∷ ks) ls t =
    let u = list_table t k.events k.places in
    ap (λ (ps : List Turn). turns t k ++ ps) (past-append ks ls u) ∙ sym (append_assoc (turns t k) (past u ks) (past (table_after u ks) ls))
