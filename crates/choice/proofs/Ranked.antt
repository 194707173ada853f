-- What a glance tells of a circuit that is not free: it is better where it is takeable, and worth more than the greatest rank so far.
use Prim.Native.Nat.{ℕ, ◌+◌, ◌*◌, ◌<◌, ◌≤◌}
use mathlib.Core.Path.{◌≡◌, refl, sym, ap, ap₂, ◌∙◌}
use mathlib.Core.Bool.{Bool, true, false, cond, ◌&&◌, not}
use native.Mathlib.Omega.{arith}
use lib.Dec.{ltb}
use Rattle.octets.specs.Same.{same}
use Rattle.octets.proofs.Tests.{by_so, second_off, if_lt, if_ge}
use Rattle.rules.specs.declared.level.Level.{Level}
use Rattle.rules.specs.declared.mark.Mark.{Mark}
use Rattle.rules.specs.declared.circuit.Circuit.{Circuit}
use Rattle.rules.specs.declared.standing.Standing.{Standing}
use Rattle.rules.specs.Circuit.{outranks, standing, free, preemptable, takeable, worth, rank}
use Rattle.rules.specs.Standing.{standing_of}
use Rattle.rules.proofs.Choice.{rank-taken, rank_not}
use Rattle.choice.specs.declared.Glance.TheVariants.{Better, NoBetter}
use Rattle.choice.specs.Glance.{above}

-- ---- what is read of a circuit says its worth, and whether it is takeable
pub worth-read : (c : Circuit) {w : ℕ} {l : Level} {held : Bool} → l ≡ (standing c).level → held ≡ c.holder.present → w ≡ 1 + 2 * l.0 + cond held 0 1 → w ≡ worth c
unfolding worth
worth-read c p q e = e ∙ ap₂ (λ (l : Level) (held : Bool). 1 + 2 * l.0 + cond held 0 1) p q

module _ (m : Mark) (c : Circuit) where
  pub takeable-read : {r : Bool} {s : Standing} → s ≡ standing_of c → r ≡ not (not s.held && not s.reserved) && (s.preemptable && outranks m s.mark) → r ≡ takeable m c
  unfolding takeable
  takeable-read p e = e ∙ ap (λ (s : Standing). not (not s.held && not s.reserved) && (s.preemptable && outranks m s.mark)) p

  -- ---- a takeable circuit that is worth more has a rank above the top, and no other
  module _ (top : ℕ) where
    pub taken : {w : ℕ} → w ≡ worth c → top < w → takeable m c ≡ true → Better w ≡ above top (rank m c)
    taken e l t = let r = rank-taken m c t in if_lt _ _ top (rank m c) (omega arith) (ap Better (omega arith))

    stays : rank m c ≤ top → NoBetter ≡ above top (rank m c)
    stays l = if_ge _ _ top (rank m c) l refl

    pub not_taken : takeable m c ≡ false → NoBetter ≡ above top (rank m c)
    not_taken t = let r = rank_not m c t in stays (omega arith)

    pub not_lower : ltb m.level.0 (standing c).level.0 ≡ false → NoBetter ≡ above top (rank m c)
    unfolding takeable
    not_lower h =
        not_taken
        (sym (second_off (not (free c)) (preemptable c && outranks m (standing c)) (sym (second_off (preemptable c) (outranks m (standing c)) (sym (second_off (same m.domain (standing c).domain) (ltb m.level.0 (standing c).level.0) h))))))

    pub not_worth : worth c ≤ top → NoBetter ≡ above top (rank m c)
    not_worth l = stays (by_so (takeable m c) (λ t. let r = rank-taken m c t in omega arith) (λ t. let r = rank_not m c t in omega arith))
