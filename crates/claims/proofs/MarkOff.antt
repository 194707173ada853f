-- A kind 6 takes the mark off the holder that has its reference.
use Prim.Native.Nat.{ℕ, ◌+◌, ◌*◌, ◌<◌}
use mathlib.Core.Path.{◌≡◌, ap, ◌∙◌}
use mathlib.Core.List.{List}
use lib.ListN.{length}
use Rattle.octets.proofs.Spans.{length-span}
use Rattle.rules.specs.Numbers as number
use Rattle.rules.specs.Circuit.{nobody, no_precedence}
use Rattle.rules.specs.Answer.{answer_of}
use Rattle.rules.specs.Records.{circuit_at, circuits, check_number, loser, nobody_lost, answer_fields, answer_size, records}
use Rattle.rules.proofs.Records.{lawful}
use Rattle.rules.proofs.Faults.{valid_facts}
use Rattle.rules.proofs.Check.{check_done}
use Rattle.rules.proofs.Again.{no_service_lem}
use Rattle.claims.specs.Demand.{StandsIn, loser_octets}
use Rattle.claims.specs.OnHolder.{HolderEvent}
use Rattle.claims.specs.NoService.{ComesOff, MarkComesOff}
use Rattle.claims.proofs.Served.{loser-octets}
use Rattle.claims.proofs.OnHolder.{nobody-holds, number-given, answer-given, circuit-made, others_stay}

module _ (t f place r : List ℕ) (takes : check_number t ≡ number.done) (g : HolderEvent 6 r f) (long : length place ≡ answer_size) (c : ℕ) (l : c < circuits t) (holds : StandsIn r (circuit_at t c).holder) where
  -- the reservation that is named as lost is the one that was there
  names_lost_lem : loser (circuit_at t c).reservation ≡ loser_octets (circuit_at t c).reservation
  unfolding records
  names_lost_lem =
      loser-octets (circuit_at t c).reservation (length-span t (32 * c + 12 + 7) 5)
      (lawful.tidy_view t c ((valid_facts records t (check_done t takes).1).blank c l)).reservation

  comes_off : ComesOff t f place r c
  unfolding answer_of
  comes_off =
      record {
        accepted = number-given no_service_lem t f place r takes g long c l holds;
        answer = answer-given no_service_lem t f place r takes g long c l holds ∙ ap (answer_fields number.unmarked 0 c nobody_lost) names_lost_lem;
        circuit =
            circuit-made no_service_lem t f place r takes g long c l holds
            ∙ (λ d.
            record {
              holder = record { present = holds.0 d; mark = no_precedence; reference = holds.1 d };
              reservation = nobody;
              clock = 0;
              ringing = (circuit_at t c).ringing;
            });
        others = others_stay no_service_lem t f place r takes g long c l holds;
      }

pub mark_comes_off : MarkComesOff
mark_comes_off t f place r takes g long = (comes_off t f place r takes g long, nobody-holds no_service_lem t f place r takes g long)
