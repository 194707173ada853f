-- The first accident cannot happen: what is not there by the history is zero on record.
use Prim.Native.Nat.{ℕ}
use mathlib.Core.Path.{◌≡◌, sym, ap, ◌∙◌}
use mathlib.Core.Bool.{Bool, true, false, cond, ◌&&◌}
use mathlib.Core.List.{List}
use native.Mathlib.Omega.{arith}
use Rattle.octets.specs.Span.{zeros}
use Rattle.octets.proofs.Tests.{and_left, and_right}
use Rattle.rules.specs.declared.part.Part.{Part}
use Rattle.rules.specs.declared.circuit.Circuit.{Circuit}
use Rattle.rules.specs.Records.{circuit_at, zero_if_absent, blank_at, records, holder_octets, reservation_octets, spare_octets, empty_table}
use Rattle.rules.proofs.Faults.{valid_facts}
use Rattle.claims.specs.History.{history}
use Rattle.claims.specs.Lists.{table_after, past}
use Rattle.claims.specs.Accidents.{OnlyWithParty, NoMarkLeft}
use Rattle.claims.proofs.Demanded.{now, now_count, history_tells}

-- an absent part is zero in every octet
zero-part : (p : Part) (octets : List ℕ) → zero_if_absent p octets ≡ true → p.present ≡ false → zeros octets ≡ true
zero-part p octets h q = sym (ap (λ (b : Bool). cond b true (zeros octets)) q) ∙ h

only_with_party : (t : List ℕ) (c : ℕ) (y : Circuit) → blank_at t c ≡ true → circuit_at t c ≡ y → OnlyWithParty t c y
unfolding blank_at
only_with_party t c y h s =
    let x = circuit_at t c in
    let a = zero_if_absent x.holder (holder_octets t c) in
    let b = zero_if_absent x.reservation (reservation_octets t c) in
    let rest = and_right a (b && zeros (spare_octets t c)) h in
    record {
      shows = s;
      no_holder = λ q. zero-part x.holder (holder_octets t c) (and_left a _ h) (ap (λ (k : Circuit). k.holder.present) s ∙ q);
      no_reservation = λ q. zero-part x.reservation (reservation_octets t c) (and_left b _ rest) (ap (λ (k : Circuit). k.reservation.present) s ∙ q);
    }

pub no_mark_left : NoMarkLeft
unfolding records
no_mark_left n lists c l =
    let t = empty_table n in
    let u = table_after t lists in
    let ps = past t lists in
    let h = now n lists in
    only_with_party u c (history ps c) ((valid_facts records u h.still-valid).blank c (omega (arith, now_count n lists))) (history_tells n lists c l)
