-- Each event counts once among the 64 answer totals, and each lost holder once among the 25 of the levels, where the loser is the lower.
use Prim.Native.Nat.{ℕ, ◌+◌, ◌*◌, ◌<◌, ◌≤◌}
use mathlib.Core.Path.{◌≡◌, refl, ap, ◌∙◌}
use mathlib.Core.Bool.{Bool, true}
use mathlib.Core.List.{List}
use native.Mathlib.Omega.{arith}
use lib.ListN.{length}
use Rattle.octets.proofs.Tests.{by_so}
use Rattle.rules.specs.Layout.{Layout}
use Rattle.rules.specs.Run.{answered}
use Rattle.rules.specs.Records.{records}
use Rattle.route.specs.Entries.{events_in}
use Rattle.tally.specs.Places as place
use Rattle.tally.specs.Shares.{at, one, shares, events_add}
use Rattle.tally.specs.Entry.{is_added, figures_totals}
use Rattle.tally.proofs.Placed.{at_off, at_le, shares-lost, shares_by_level, shares-answered}
use Rattle.tally.proofs.Levels.{lost-levels}
use Rattle.route.proofs.Numbers.{number_below}
use Rattle.tally.proofs.Shared.{events-none, level-place}
use Rattle.tally.proofs.Lists.{length-events}
use Rattle.claims.specs.Figures.{total, sum_to, EachOnce, LostOnce}
use Rattle.claims.proofs.Added.{done-added, by_events}
use Rattle.claims.proofs.Rows.{sum_cong, sum_add, Falls, Counts, each_falls_once}

module _ {S : Type 0} (L : Layout S) where
  -- ---- the row of the 64 numbers: every event falls at its answer's
  abbrev every : S → List ℕ → Bool
  every s e = true

  abbrev number : S → List ℕ → ℕ
  number s e = (answered L s e).number

  falls_by_number : Falls L 31 64 every number
  falls_by_number =
      record {
        within = λ s e h. number_below L s e;
        there = λ s e i l. shares-answered (L.event e) (answered L s e) (level-place L s e) i;
      }

  numbers-once : (es : List (List ℕ)) (s : S) → sum_to (λ k. events_add L s es (31 + k)) 64 ≡ length es
  numbers-once =
      each_falls_once L 31 64 every number falls_by_number (λ s es. length es) (record { none = λ s. refl; more = λ s e es. omega arith })

  -- ---- the row of the 25 pairs of levels: every event that takes a holder's circuit falls at its own level and the holder's
  abbrev pub takes : S → List ℕ → Bool
  takes s e = (answered L s e).call.present

  abbrev pub levels : S → List ℕ → ℕ
  levels s e = 5 * (L.event e).mark.level.0 + (answered L s e).call.mark.level.0

  pub by_levels : (s : S) (e : List ℕ) (i : ℕ) → i < 25 → shares (L.event e) (answered L s e) (6 + i) ≡ at (levels s e) (one (takes s e)) i
  by_levels s e = shares_by_level (L.event e) (answered L s e)

  falls_by_levels : Falls L 6 25 takes levels
  falls_by_levels = record { within = λ s e h. let t = lost-levels L s e h in omega (arith, t.taker-level, t.loser-level); there = by_levels }

  losses : Counts L 6 25 takes levels (λ s es. events_add L s es place.lost)
  losses =
      record {
        none = λ s. refl;
        more = λ s e es. omega (arith, shares-lost (L.event e) (answered L s e));
      }

  losses_once : (es : List (List ℕ)) (s : S) → sum_to (λ k. events_add L s es (6 + k)) 25 ≡ events_add L s es place.lost
  losses_once = each_falls_once L 6 25 takes levels falls_by_levels (λ s es. events_add L s es place.lost) losses

  -- none falls where the loser is not strictly lower than the taker
  module _ (taker loser : ℕ) (t : taker < 5) (l : loser ≤ taker) where
    never_there : (s : S) (e : List ℕ) → shares (L.event e) (answered L s e) (6 + (5 * taker + loser)) ≡ 0
    never_there s e =
        let i = 5 * taker + loser in
        let n = one (takes s e) in
        by_so (takes s e)
        (λ h.
        let k = lost-levels L s e h in
        omega (arith, by_levels s e i (omega arith), at_off (levels s e) n i (λ z. omega (arith, k.taker-level, k.loser-level, k.higher))))
        (λ h. let none = ap one h in omega (arith, by_levels s e i (omega arith), at_le (levels s e) n i))

    not_higher : (es : List (List ℕ)) (s : S) → events_add L s es (6 + (5 * taker + loser)) ≡ 0
    not_higher = events-none L (6 + (5 * taker + loser)) never_there

-- ---- over 01's records, a list that is added to totals f
module _ (t es places f : List ℕ) (h : is_added t es places f ≡ true) where
  abbrev g : List ℕ  -- the totals after it
  g = figures_totals t es places f

  abbrev events : ℕ → ℕ  -- what its events add
  events = events_add records t (events_in es)

  -- from place 6 on totals grow by what the events add
  pub from_six : (j : ℕ) → 6 ≤ j → j < place.figures → total g j ≡ total f j + events j
  from_six j a b = by_events t es places f h j b (λ z. omega arith) (λ z. omega arith) (λ z. omega arith)

  row_grows : (o m : ℕ) → 6 ≤ o → o + m ≤ place.figures → sum_to (λ k. total g (o + k)) m ≡ sum_to (λ k. total f (o + k)) m + sum_to (λ k. events (o + k)) m
  row_grows o m a b =
      sum_cong (λ k. total g (o + k)) (λ k. total f (o + k) + events (o + k)) m (λ k l. from_six (o + k) (omega arith) (omega arith))
      ∙ sum_add (λ k. total f (o + k)) (λ k. events (o + k)) m

pub each-once : EachOnce
each-once t es places f q =
    row_grows t es places f (done-added t es places f q) 31 64 (omega arith) (omega arith)
    ∙ ap (λ (n : ℕ). sum_to (λ k. total f (31 + k)) 64 + n) (numbers-once records (events_in es) t ∙ length-events es)

-- two totals that grow by the same
grow_alike : (a b c d m n : ℕ) → b ≡ a + m → m ≡ n → d ≡ c + n → b + c ≡ a + d
grow_alike a b c d m n p q r = omega arith

pub lost-once : LostOnce
lost-once t es places f q =
    let h = done-added t es places f q in
    let added = events_add records t (events_in es) in
    let lost = by_events t es places f h place.lost (omega arith) (λ z. omega arith) (λ z. omega arith) (λ z. omega arith) in
    record {
      together =
          grow_alike _ _ _ _ _ _ (row_grows t es places f h 6 25 (omega arith) (omega arith)) (losses_once records (events_in es) t) lost;
      lower =
          λ taker loser a b.
          let j : place.lost_by_level taker loser ≡ 6 + (5 * taker + loser) = omega arith in
          omega (arith, from_six t es places f h (place.lost_by_level taker loser) (omega arith) (omega arith), ap added j, not_higher records taker loser a b (events_in es) t);
    }
