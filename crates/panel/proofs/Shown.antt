-- The panel shows the free circuits, and names the one that a search takes.
use Prim.Native.Nat.{ℕ, ◌+◌, ◌*◌}
use mathlib.Core.Path.{◌≡◌, refl, sym, ap, ◌∙◌}
use mathlib.Core.Bool.{Bool, true≢false}
use native.Mathlib.Omega.{arith}
use lib.ListN.{get_or}
use Rattle.octets.specs.Bit.{bit}
use Rattle.std.specs.Prelude.{Option, Some, None}
use Rattle.lamps.specs.declared.Lamps.{Lamps}
use Rattle.lamps.specs.Lamps.{lit_at, four_words, lowest_in, lamp_map}
use Rattle.lamps.proofs.Shown.{lamp_in_lem}
use Rattle.lamps.proofs.LowestLamp.{lamp-shown}
use Rattle.lamps.proofs.Claimed.{shown, lowest-taken, none-lit}
use Rattle.lines.specs.Panel.{lamp, drawing}
use Rattle.lines.proofs.Rows.{drawn_at}
use Rattle.panel.specs.Drawn.{panel, FreeShown, FirstTaken}

pub free-shown : FreeShown
unfolding panel
free-shown t h j i l m =
    let words = four_words (lit_at t) in
    let lit : bit (get_or words j 0) i ≡ lit_at t (64 * j + i) = sym (lamp_in_lem words j i m) ∙ lamp-shown (lit_at t) (64 * j + i) (omega arith) in
    drawn_at (lamp_map t).words _ _ j i l m
    ∙ ap (λ (x : Lamps). get_or (lamp (bit (get_or x.words j 0) i)) 0 0) (shown t h) ∙ ap (λ (b : Bool). get_or (lamp b) 0 0) lit

pub first_taken : FirstTaken
unfolding panel
first_taken t m i h l e k = ap (drawing (lamp_map t).words (lamp_map t).lit) (first (lowest_in (lamp_map t).words) refl)
  where
    number : (lamp_map t).number ≡ 0
    number = ap (λ (x : Lamps). x.number) (shown t h)

    first : (f : Option ℕ) → lowest_in (lamp_map t).words ≡ f → f ≡ Some i
    first (Some j) q = sym (lowest-taken t m j number q) ∙ k
    first None q = absurd (true≢false (sym e ∙ none-lit t number q i l))
