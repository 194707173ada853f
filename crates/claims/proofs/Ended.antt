-- A kind 7 ends the ringing of the holder that has its reference.
use Prim.Native.Nat.{ℕ, ◌+◌, ◌*◌, ◌<◌}
use mathlib.Core.Path.{◌≡◌, sym, ap, ◌∙◌}
use mathlib.Core.Bool.{Bool, true, false}
use mathlib.Core.List.{List}
use native.Mathlib.Omega.{arith}
use lib.ListN.{length, get_or}
use lib.Dec.{leb}
use borrow.Author.Tests.{eqb-false, leb-true}
use Rattle.octets.proofs.Tests.{and_right}
use Rattle.octets.proofs.Width.{octet_at}
use Rattle.rules.specs.declared.circuit.Circuit.{Circuit}
use Rattle.rules.specs.declared.outcome.Act.TheVariants.{Answered}
use Rattle.rules.specs.Numbers as number
use Rattle.rules.specs.Circuit.{with_holder, made}
use Rattle.rules.specs.Answer.{answer_of}
use Rattle.rules.specs.Valid.{valid}
use Rattle.rules.specs.Records.{circuit_size, ringing_octet, circuit_at, circuits, put_circuit, flags_at, check_number, event_at, answer_size, records}
use Rattle.rules.proofs.Sound.{present_so}
use Rattle.rules.proofs.Records.{count-put, stored_same}
use Rattle.rules.proofs.Faults.{valid_facts}
use Rattle.rules.proofs.Check.{check_done}
use Rattle.rules.proofs.Again.{answered-call}
use Rattle.route.specs.Entries.{event_table}
use Rattle.claims.specs.Demand.{StandsIn}
use Rattle.claims.specs.OnHolder.{HolderEvent}
use Rattle.claims.specs.Ringing.{EndsRinging, RingingEnds}
use Rattle.claims.proofs.OnHolder.{nobody-holds, still-sound, number-given, answer-given, table-made, circuit-made, others_stay}

-- in a valid table u octet 30 of a holder that does not ring is 0
octet-zero : (u : List ℕ) → valid records u ≡ true → (c : ℕ) → c < circuits u → (circuit_at u c).holder.present ≡ true → (circuit_at u c).ringing ≡ false → ringing_octet u c ≡ 0
unfolding records flags_at
octet-zero u v c l held still =
    let b = ringing_octet u c in
    let flags = (valid_facts records u v).flags c l in
    let small = and_right (leb (get_or u (circuit_size * c + 12) 0) 1) _ (and_right (leb (get_or u (circuit_size * c) 0) 1) _ flags) in
    let most = leb-true b 1 (present_so (circuit_at u c).holder (leb b 1) small held) in
    let not-one = eqb-false b 1 still in
    omega arith

module _ (t f place r : List ℕ) (takes : check_number t ≡ number.done) (g : HolderEvent 7 r f) (long : length place ≡ answer_size) (c : ℕ) (l : c < circuits t) (holds : StandsIn r (circuit_at t c).holder) where
  left : event_table t f place ≡ put_circuit t c (made (event_at f) Answered (circuit_at t c))
  left = table-made answered-call t f place r takes g long c l holds

  made_so : circuit_at (event_table t f place) c ≡ with_holder (circuit_at t c).holder false (circuit_at t c)
  made_so = circuit-made answered-call t f place r takes g long c l holds

  ends_ringing : EndsRinging t f place c
  unfolding answer_of records
  ends_ringing =
      record {
        accepted = number-given answered-call t f place r takes g long c l holds;
        answer = answer-given answered-call t f place r takes g long c l holds;
        octet =
            octet-zero (event_table t f place) (still-sound answered-call t f place r takes g long) c
            (let many = ap circuits left ∙ count-put t c (made (event_at f) Answered (circuit_at t c)) in omega arith)
            (ap (λ (y : Circuit). y.holder.present) made_so ∙ holds.0) (ap (λ (y : Circuit). y.ringing) made_so);
        circuit = made_so;
        others = others_stay answered-call t f place r takes g long c l holds;
        stays =
            λ o still.
            let facts = valid_facts records t (check_done t takes).1 in
            left ∙ ap (λ (b : Bool). put_circuit t c (with_holder (circuit_at t c).holder b (circuit_at t c))) (sym still)
            ∙ stored_same t c (octet_at t o) (facts.flags c l) (facts.blank c l);
      }

pub ringing_ends : RingingEnds
ringing_ends t f place r takes g long = (ends_ringing t f place r takes g long, nobody-holds answered-call t f place r takes g long)
