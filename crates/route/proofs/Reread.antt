-- An answer that was written among others is read as it was written.
use Prim.Native.Nat.{ℕ, ◌+◌, ◌*◌, ◌≤◌}
use mathlib.Core.Path.{◌≡◌, ap, ◌∙◌}
use mathlib.Core.List.{List}
use native.Mathlib.Omega.{arith}
use lib.ListN.{length}
use Rattle.octets.specs.Span.{put}
use Rattle.octets.proofs.Spans.{span_cong, span_all, put_on}
use Rattle.rules.specs.Run.{answered, answer_record}
use Rattle.rules.specs.Records.{records, answer_size, answer_in, answer_number}
use Rattle.route.proofs.Listed.{length-answer}

-- the answer to event o over table t was written as answer k and read again as a
module _ (t o places : List ℕ) (k : ℕ) (fits : answer_size * k + answer_size ≤ length places) {p a : List ℕ} (written : p ≡ put places (answer_size * k) (answer_record records t o)) (read : a ≡ answer_in p k) where
  pub reread : a ≡ answer_record records t o
  reread =
      let r = answer_record records t o in
      let size = length-answer t o in
      read ∙ ap (λ (q : List ℕ). answer_in q k) written
      ∙ span_cong (put places (answer_size * k) r) (answer_size * k) r 0 answer_size (λ i m. put_on places (answer_size * k) r (omega arith) i (omega arith))
      ∙ span_all r answer_size size

  pub number_read : {n : ℕ} → n ≡ answer_number a → n ≡ (answered records t o).number
  unfolding answer_record records
  number_read h = h ∙ ap answer_number reread
