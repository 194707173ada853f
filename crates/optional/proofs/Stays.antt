-- Octets behind the end of what is written stay, and a refusal leaves the buffer.
use Prim.Native.Nat.{ℕ, ◌≤◌}
use mathlib.Core.Path.{◌≡◌, refl}
use mathlib.Core.List.{List}
use native.Mathlib.Omega.{arith}
use lib.ListN.{length, get_or}
use Rattle.octets.proofs.Spans.{length-put}
use Rattle.optional.specs.declared.write.Written.{Written}
use Rattle.optional.specs.List.{items}
use Rattle.optional.specs.Write.{part_of}
use Rattle.optional.specs.Claims.{Stays}
use Rattle.optional.proofs.Written.{part_room, behind-put, either}

-- a list that is written takes its room in front of the buffer, and a refusal writes nothing
pub stays : Stays
stays b l =
    let v = part_of (items l) in
    let r = part_room (items l) in
    either b l (λ (w : Written) (t : List ℕ). (length t ≡ length b) × ((i : ℕ) → w.end ≤ i → get_or t i 0 ≡ get_or b i 0))
    (λ _. (length-put b 0 v, λ i f. behind-put b v i (omega arith)))
    (λ _ _. (refl, λ _ _. refl))
