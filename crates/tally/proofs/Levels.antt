-- A holder is lost to a set-up that is strictly higher, and both have a level of 0 to 4: one under no precedence is never lost. In any
-- layout.
use Prim.Native.Nat.{ℕ, ◌<◌}
use mathlib.Core.Path.{◌≡◌, refl, sym, ◌∙◌}
use mathlib.Core.Bool.{true, false, ◌&&◌, true≢false}
use mathlib.Core.List.{List}
use native.Mathlib.Omega.{arith}
use lib.Dec.{ltb}
use borrow.Author.Tests.{leb-true, ltb-true}
use Rattle.octets.specs.Same.{same}
use Rattle.octets.proofs.Tests.{and_left, and_right, by_so}
use Rattle.rules.specs.declared.circuit.Circuit.{Circuit}
use Rattle.rules.specs.declared.event.Event.{Event}
use Rattle.rules.specs.declared.outcome.Act.TheVariants.{Seize, Reserve, Release, Cancel, Unmark, Answered}
use Rattle.rules.specs.Outcome.{Outcome}
use Rattle.std.specs.Prelude.{Ok, Err}
use Rattle.rules.specs.declared.outcome.Deed.TheVariants.{Do, Clock}
use Rattle.rules.specs.Fields.{level_ok, lfb_ok, decimal, parameter_ok}
use Rattle.rules.specs.Answer.{answer_of}
use Rattle.rules.specs.Valid.{pair_ok, valid}
use Rattle.rules.specs.Layout.{Layout}
use Rattle.rules.specs.Run.{outcome_of, answered}
use Rattle.rules.proofs.Faults.{valid_facts}
use Rattle.rules.proofs.Grounds.{Seizes, Grounds, decided}
use Rattle.rules.proofs.Taken.{holder_yields}
use Rattle.rules.proofs.Kept.{not_valid_refused}

-- the levels of a taker and of the holder that it takes a circuit from: 0 is the highest
pub record Taken (taker loser : ℕ) : Type 0 where
  pub taker-level : taker < 5
  pub loser-level : loser < 5
  pub higher : taker < loser

module _ (x : ℕ → Circuit) (n : ℕ) (e : Event) (pairs : (c : ℕ) → c < n → pair_ok (x c) ≡ true) where
  from-holder : (i : ℕ) → Seizes x n e i → (x i).holder.present ≡ true → Taken e.mark.level.0 (x i).holder.mark.level.0
  unfolding parameter_ok
  from-holder i h q =
      let p = (x i).holder in
      let m = e.mark in
      let yields = holder_yields x n e i (pairs i h.there) q h in
      let a = leb-true m.level.0 4 (and_left (level_ok m.level.0) (lfb_ok e.lfb && decimal m.domain) h.well_marked) in
      let b = leb-true p.mark.level.0 4 yields.0 in
      record {
        taker-level = omega arith;
        loser-level = omega arith;
        higher = ltb-true m.level.0 p.mark.level.0 (and_right (same m.domain p.mark.domain) (ltb m.level.0 p.mark.level.0) yields.2);
      }

  lost-taken : (o : Outcome) → Grounds x n e o → let a = answer_of x n e o in a.call.present ≡ true → Taken e.mark.level.0 a.call.mark.level.0
  unfolding answer_of
  lost-taken (Err r) h q = absurd (true≢false (sym q))
  lost-taken (Ok (Do Seize i)) h q = from-holder i h q
  lost-taken (Ok (Do Reserve i)) h q = absurd (true≢false (sym q))
  lost-taken (Ok (Do Release i)) h q = absurd (true≢false (sym q))
  lost-taken (Ok (Do Cancel i)) h q = absurd (true≢false (sym q))
  lost-taken (Ok (Do Unmark i)) h q = absurd (true≢false (sym q))
  lost-taken (Ok (Do Answered i)) h q = absurd (true≢false (sym q))
  lost-taken (Ok Clock) h q = absurd (true≢false (sym q))

pub lost-levels : {S : Type 0} (L : Layout S) (s : S) (e : List ℕ) → let a = answered L s e in a.call.present ≡ true → Taken (L.event e).mark.level.0 a.call.mark.level.0
unfolding answered answer_of
lost-levels L s e q =
    let ev = L.event e in
    by_so (valid L s)
    (λ v. let f = valid_facts L s v in lost-taken (L.view s) (L.count s) ev f.pair (outcome_of L s ev) (decided L s ev) q)
    (λ v. absurd (true≢false (sym q ∙ not_valid_refused L (λ o. (answer_of (L.view s) (L.count s) ev o).call.present ≡ false) s ev v (λ r. refl))))
