-- The octets of an answer tell whether a holder was lost, as the answer has it; so what is counted is the event's share.
use Prim.Native.Nat.{ℕ, ◌<◌}
use mathlib.Core.Path.{◌≡◌, refl, sym, ap, ◌∙◌, subst}
use mathlib.Core.Bool.{Bool, true, false}
use mathlib.Core.List.{List}
use native.Mathlib.Omega.{arith}
use Rattle.std.specs.Bool.{then_some}
use Rattle.std.specs.Prelude.{Option, is_some, IfSome}
use Rattle.rules.specs.declared.level.Level.{Level}
use Rattle.rules.specs.declared.event.Event.{Event}
use Rattle.rules.specs.Run.{answered, answer_record}
use Rattle.rules.specs.Records.{records, event_at, lost_call, is_lost}
use Rattle.rules.proofs.Records.{flag_back}
use Rattle.tally.specs.Places as place
use Rattle.tally.specs.Shares.{adds, level_lost, lost_under, shares}
use Rattle.tally.specs.Entry.{added}
use Rattle.route.proofs.Numbers.{number_below}
use Rattle.tally.proofs.Added.{added_cong, at_nothing}
use Rattle.tally.proofs.Shared.{level-place}

-- the octets of the answer to event o over table t were read as a
module _ (t o : List ℕ) {a : List ℕ} (read : a ≡ answer_record records t o) where
  lost-is : {q : List ℕ} {lost : Bool} → q ≡ lost_call a → lost ≡ is_lost q → lost ≡ (answered records t o).call.present
  unfolding answer_record records
  lost-is h g = g ∙ ap is_lost h ∙ ap (λ (r : List ℕ). is_lost (lost_call r)) read ∙ flag_back (answered records t o).call.present

  -- the loser's level, where the octets say that there is one
  pub told-lost : {q : List ℕ} {b : Bool} {l : Level} {lost : Option Level} → q ≡ lost_call a → b ≡ is_lost q → l ≡ (answered records t o).call.mark.level → lost ≡ then_some b l → lost ≡ lost_under (answered records t o)
  told-lost h g m e = e ∙ (λ i. then_some (lost-is h g i) (m i))

-- what an event adds hangs on a loser's level only where there is a loser
adds_lost : (kind taker k : ℕ) (present : Bool) (level : Level) (j : ℕ) → let lost : Option Level = then_some present level in adds kind taker k (is_some lost) (level_lost lost) j ≡ adds kind taker k present level.0 j
adds_lost kind taker k true level j = refl
adds_lost kind taker k false level j =
    unfold adds in omega (arith, at_nothing (place.lost_by_level taker 0) j, at_nothing (place.lost_by_level taker level.0) j)

some_below : (taker : ℕ) (present : Bool) (level : Level) → (present ≡ true → place.lost_by_level taker level.0 < 31) → let lost : Option Level = then_some present level in IfSome lost (λ l. place.lost_by_level taker l.0 < 31)
some_below taker true level h = h refl
some_below taker false level h = tt

-- what was counted of an event e that the octets o say is its share
module _ (t o : List ℕ) {e : Event} (says : e ≡ event_at o) {n : ℕ} {lost : Option Level} (number : n ≡ (answered records t o).number) (loses : lost ≡ lost_under (answered records t o)) where
  pub counted-place : IfSome lost (λ l. place.lost_by_level e.mark.level.0 l.0 < 31)
  unfolding records
  counted-place =
      let a = answered records t o in
      let m = ap (λ (v : Event). v.mark.level.0) says in
      subst (λ (q : Option Level). IfSome q (λ l. place.lost_by_level e.mark.level.0 l.0 < 31)) (sym loses)
      (some_below e.mark.level.0 a.call.present a.call.mark.level (λ h. let q = level-place records t o h in omega (arith, q, m)))

  pub counted-number : n < 64
  counted-number = omega (arith, number_below records t o, number)

  pub counted : (f : List ℕ) {g : List ℕ} → g ≡ added (adds e.kind e.mark.level.0 n (is_some lost) (level_lost lost)) f → g ≡ added (shares (event_at o) (answered records t o)) f
  counted f h =
      let a = answered records t o in
      let v = event_at o in
      h ∙ (λ i. added (adds (says i).kind (says i).mark.level.0 (number i) (is_some (loses i)) (level_lost (loses i))) f)
      ∙ added_cong _ _ f (adds_lost v.kind v.mark.level.0 a.number a.call.present a.call.mark.level)
