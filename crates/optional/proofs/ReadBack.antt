-- Reading what was written gives the list, with the precedence's spare bits 0.
use mathlib.Core.Path.{◌≡◌, refl}
use mathlib.Core.Bool.{cond}
use mathlib.Core.List.{◌∷◌, map}
use Rattle.optional.specs.Write.{plain, write_buffer}
use Rattle.optional.specs.Claims.{listed, read, ReadBack}
use Rattle.optional.proofs.Through.{is_met, met}

-- each parameter that is met is listed as it was written
pub read_back : ReadBack
unfolding read
read_back b l w =
    let s = write_buffer b l in
    met s (λ _ is ps. listed s ps ≡ map plain is) (λ _. refl)
    (λ at i is ps k c r d. cond (is_met i at k d) (record { name = i.name; contents = c d } ∷ r d) (listed s ps)) b l w refl
