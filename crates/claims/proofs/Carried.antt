-- A list is carried out exactly at right lengths.
use Prim.Native.Nat.{ℕ, ◌/◌, ◌%◌, ◌≤◌, ◌*◌}
use mathlib.Core.Path.{◌≡◌, refl, ap}
use mathlib.Core.Bool.{Bool, true, false, cond}
use mathlib.Core.List.{List}
use native.Mathlib.Omega.{arith}
use lib.ListN.{length}
use borrow.Author.Tests.{eqb-true, leb-true, eq-eqb, le-leb}
use Rattle.octets.proofs.Tests.{halves, and_both}
use Rattle.rules.specs.Records.{table_length, list_length, circuits, circuit_size, most_circuits, event_size, most_events, answer_size}
use Rattle.route.specs.Entries.{list_lengths, list_number}
use Rattle.claims.specs.OneByOne.{RightLengths, CarriedOut}

-- 0 came back, so the lengths were found right
found_right : (b : Bool) → ◌≡◌ {A = ℕ} (cond b 0 20) 0 → b ≡ true
found_right true h = refl
found_right false h = absurd (omega arith)

pub right_lengths : (t es places : List ℕ) → list_lengths t es places ≡ true → RightLengths t es places
unfolding list_lengths table_length list_length
right_lengths t es places h =
    let lengths = halves h in
    let table = halves lengths.0 in
    let sizes = halves table.1 in
    let list = halves lengths.1 in
    let rest = halves list.1 in
    let some = leb-true 1 (circuits t) sizes.0 in
    let most = leb-true (circuits t) most_circuits sizes.1 in
    let whole = eqb-true (length t % circuit_size) 0 table.0 in
    let events = eqb-true (length es % event_size) 0 list.0 in
    let many = leb-true (length es / event_size) most_events rest.0 in
    record {
      circuits = whole;
      some = omega arith;
      most = omega arith;
      events = events;
      many = omega arith;
      answers = eqb-true (length places) (answer_size * (length es / event_size)) rest.1;
    }

pub lengths_right : (t es places : List ℕ) → RightLengths t es places → list_lengths t es places ≡ true
unfolding list_lengths table_length list_length
lengths_right t es places r =
    let some : 1 ≤ circuits t = omega (arith, r.some) in
    let most : circuits t ≤ most_circuits = omega (arith, r.most) in
    let many : length es / event_size ≤ most_events = omega (arith, r.many) in
    and_both _ _ (and_both _ _ (eq-eqb (length t % circuit_size) 0 r.circuits) (and_both _ _ (le-leb 1 (circuits t) some) (le-leb (circuits t) most_circuits most)))
    (and_both _ _ (eq-eqb (length es % event_size) 0 r.events) (and_both _ _ (le-leb (length es / event_size) most_events many) (eq-eqb (length places) (answer_size * (length es / event_size)) r.answers)))

pub carried_out_lem : CarriedOut
unfolding list_number
carried_out_lem t es places = (
  λ h. right_lengths t es places (found_right (list_lengths t es places) h),
  λ r. ap (λ (b : Bool). cond b 0 20) (lengths_right t es places r),
)
