-- A table of free circuits is valid, and shows each of them empty.
use Prim.Native.Nat.{ℕ, ◌+◌, ◌*◌, ◌/◌, ◌%◌}
use mathlib.Core.Path.{◌≡◌, sym, ap, ◌∙◌}
use mathlib.Core.Bool.{true, cond, ◌&&◌, ◌||◌, not}
use mathlib.Core.List.{[], ◌∷◌, ◌++◌}
use native.Mathlib.Nat.{add-zero}
use native.Mathlib.Omega.{arith}
use lib.ListN.{get_or}
use lib.Dec.{eqb, leb}
use Rattle.octets.specs.Number.{value}
use Rattle.octets.specs.Span.{span, zeros}
use Rattle.octets.proofs.Tests.{by_test}
use Rattle.octets.proofs.Spans.{span_cong, empty_agree}
use Rattle.rules.specs.declared.part.Part.{Part}
use Rattle.rules.specs.Fields.{point_code_ok}
use Rattle.rules.specs.Circuit.{nobody}
use Rattle.rules.specs.Valid.{levels_ok, fields_ok, pair_ok, part_numbered, clash, valid}
use Rattle.rules.specs.Records.{part_at, circuit_at, flags_at, blank_at, empty_table, records}
use Rattle.rules.proofs.Faults.{facts_valid}
use Rattle.claims.specs.History.{empty}

module _ (n : ℕ) where
  zero_at : (i : ℕ) → get_or (empty_table n) i 0 ≡ 0
  zero_at i = ap (λ (k : ℕ). get_or (empty_table n) k 0) (sym (add-zero i)) ∙ empty_agree (32 * n) i 1 0 (omega arith)

  zero-span : (o w : ℕ) → span (empty_table n) o w ≡ span [] 0 w
  zero-span o w = span_cong (empty_table n) o [] 0 w (empty_agree (32 * n) o w)

  part-empty : (o : ℕ) → part_at (empty_table n) o ≡ nobody
  part-empty o =
      λ d.
      record {
        present = eqb (zero_at o d) 1;
        mark = record { level = record { 0 = zero_at (o + 1) d }; domain = zero-span (o + 2) 5 d };
        reference = zero-span (o + 7) 5 d;
      }

  pub circuit-empty : (c : ℕ) → circuit_at (empty_table n) c ≡ empty
  circuit-empty c =
      λ d.
      record {
        holder = part-empty (32 * c) d;
        reservation = part-empty (32 * c + 12) d;
        clock = value (zero-span (32 * c + 24) 4 d);
        ringing = eqb (zero_at (32 * c + 30) d) 1;
      }

  flags-empty : (c : ℕ) → flags_at (empty_table n) c ≡ true
  unfolding flags_at
  flags-empty c =
      λ d.
      leb (zero_at (32 * c) d) 1 && (leb (zero_at (32 * c + 12) d) 1 && (not (eqb (zero_at (32 * c) d) 1) || leb (zero_at (32 * c + 30) d) 1))

  blank-empty : (c : ℕ) → blank_at (empty_table n) c ≡ true
  unfolding blank_at
  blank-empty c =
      λ d.
      cond (eqb (zero_at (32 * c) d) 1) true (zeros (zero-span (32 * c) 12 d ++ (zero_at (32 * c + 30) d ∷ [])))
      && (cond (eqb (zero_at (32 * c + 12) d) 1) true (zeros (zero-span (32 * c + 12) 16 d))
      && zeros (zero_at (32 * c + 28) d ∷ zero_at (32 * c + 29) d ∷ zero_at (32 * c + 31) d ∷ []))

  part-numbered : (k : ℕ) → part_numbered (circuit_at (empty_table n)) k ≡ nobody
  part-numbered k =
      by_test (λ (p : Part). p ≡ nobody) (eqb (k % 2) 0) (part_at (empty_table n) (32 * (k / 2))) (part_at (empty_table n) (32 * (k / 2) + 12))
      (λ q. part-empty (32 * (k / 2))) (λ q. part-empty (32 * (k / 2) + 12))

  pub start-valid : valid records (empty_table n) ≡ true
  unfolding records levels_ok fields_ok pair_ok
  start-valid =
      facts_valid records (empty_table n)
      (record {
        flags = λ c l. flags-empty c;
        levels = λ c l. ap levels_ok (circuit-empty c);
        fields = λ c l. ap (fields_ok point_code_ok) (circuit-empty c);
        blank = λ c l. blank-empty c;
        pair = λ c l. ap pair_ok (circuit-empty c);
        unique = λ j k a b ne. ap (λ (p : Part). clash p (part_numbered (circuit_at (empty_table n)) k)) (part-numbered j);
      })
