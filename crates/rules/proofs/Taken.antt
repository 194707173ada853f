-- A set-up takes a circuit only from a holder under a precedence, who does not ring and is strictly lower in the same domain.
use Rattle.std.proofs.Common.{◌≡◌, ℕ, true, false, not, ◌&&◌, ⊎_elim}
use borrow.Author.Tests.{not-true}
use Rattle.octets.proofs.Tests.{and_left, halves}
use Rattle.rules.specs.declared.part.Part.{Part}
use Rattle.rules.specs.declared.circuit.Circuit.{Circuit}
use Rattle.rules.specs.declared.event.Event.{Event}
use Rattle.rules.specs.Fields.{level_ok}
use Rattle.rules.specs.Circuit.{outranks, preemptable}
use Rattle.rules.specs.Valid.{pair_ok}
use Rattle.rules.proofs.Sound.{present_so, reserved_pair, own_above}
use Rattle.rules.proofs.Grounds.{Seizes}

module _ (x : ℕ → Circuit) (n : ℕ) (e : Event) (i : ℕ) (order : pair_ok (x i) ≡ true) (held : (x i).holder.present ≡ true) where
  abbrev p : Part
  p = (x i).holder

  abbrev Yields : Type 0  -- the holder has a level of 0 to 4 and does not ring, and the event's call outranks it
  Yields = (level_ok p.mark.level.0 ≡ true) × ((x i).ringing ≡ false) × (outranks e.mark p.mark ≡ true)

  -- whether the call had reserved the circuit or it was open to the call, it is preemptable, and the call outranks the holder
  below : Seizes x n e i → preemptable (x i) && outranks e.mark p.mark ≡ true
  unfolding pair_ok
  below s =
      ⊎_elim (λ own. own_above e.mark (x i) order (and_left (x i).reservation.present _ own.0) own.1 held)
      (λ new. present_so p (preemptable (x i) && outranks e.mark p.mark) (reserved_pair e (x i) order new.0) held) s.given

  pub holder_yields : Seizes x n e i → Yields
  holder_yields s =
      let both = halves (below s) in
      let free = halves (present_so p (level_ok p.mark.level.0 && not (x i).ringing) both.0 held) in
      (free.0, not-true (x i).ringing free.1, both.1)
