-- A lost holder counts under the level that the history shows, and over any table under the level that stands there just before the event.
use Prim.Native.Nat.{ℕ, ◌+◌, ◌*◌, ◌<◌}
use mathlib.Core.Path.{◌≡◌, refl, sym, ap, ap₂, ◌∙◌}
use mathlib.Core.Bool.{Bool, true, ◌&&◌, true≢false}
use mathlib.Core.List.{List, []}
use native.Mathlib.Omega.{arith}
use lib.Dec.{eqb}
use borrow.Author.Tests.{eq-eqb, ne_eqb}
use Rattle.octets.proofs.Tests.{by_eq, by_so}
use Rattle.rules.specs.declared.part.Part.{Part}
use Rattle.rules.specs.declared.circuit.Circuit.{Circuit}
use Rattle.rules.specs.declared.event.Event.{Event}
use Rattle.rules.specs.declared.answer.Answer.{Answer}
use Rattle.rules.specs.declared.outcome.Act.TheVariants.{Seize, Reserve, Release, Cancel, Unmark, Answered}
use Rattle.rules.specs.Outcome.{Outcome}
use Rattle.std.specs.Prelude.{Ok, Err}
use Rattle.rules.specs.declared.outcome.Deed.TheVariants.{Do, Clock}
use Rattle.rules.specs.Answer.{answer_of}
use Rattle.rules.specs.Layout.{Layout}
use Rattle.rules.specs.Run.{outcome_of, answered}
use Rattle.rules.specs.Records.{circuit_at, records, circuits, answer_detail, empty_table}
use Rattle.rules.proofs.Grounds.{Grounds, decided}
use Rattle.tally.specs.Places as place
use Rattle.tally.specs.Shares.{at, one, shares}
use Rattle.tally.proofs.Placed.{at_on, at_off, at_le}
use Rattle.tally.proofs.Levels.{lost-levels}
use Rattle.claims.specs.History.{Turn, asked, history}
use Rattle.claims.specs.Lists.{table_after, past}
use Rattle.claims.specs.Figures.{lost_by, LevelShown, stands, LevelStood}
use Rattle.claims.proofs.Ran.{Ran}
use Rattle.claims.proofs.Cut.{past_ran}
use Rattle.claims.proofs.Demanded.{ran_tells, ran_long}
use Rattle.claims.proofs.Once.{levels, by_levels}
use Rattle.claims.proofs.Turns.{ran_run, Said, says_where, says-lost, turns_grow}

-- ---- who is lost: the holder of the circuit that the answer names
abbrev Names : (ℕ → Circuit) → ℕ → Answer → Type 0
Names x n a = (a.detail < n) × (a.call ≡ (x a.detail).holder)

module _ (x : ℕ → Circuit) (n : ℕ) (e : Event) where
  names : (o : Outcome) → Grounds x n e o → (answer_of x n e o).call.present ≡ true → Names x n (answer_of x n e o)
  unfolding answer_of
  names (Err r) h q = absurd (true≢false (sym q))
  names (Ok (Do Seize i)) h q = (h.there, refl)
  names (Ok (Do Reserve i)) h q = absurd (true≢false (sym q))
  names (Ok (Do Release i)) h q = absurd (true≢false (sym q))
  names (Ok (Do Cancel i)) h q = absurd (true≢false (sym q))
  names (Ok (Do Unmark i)) h q = absurd (true≢false (sym q))
  names (Ok (Do Answered i)) h q = absurd (true≢false (sym q))
  names (Ok Clock) h q = absurd (true≢false (sym q))

lost-there : {S : Type 0} (L : Layout S) (s : S) (e : List ℕ) → (answered L s e).call.present ≡ true → Names (L.view s) (L.count s) (answered L s e)
unfolding answered
lost-there L s e = names (L.view s) (L.count s) (L.event e) (outcome_of L s (L.event e)) (decided L s (L.event e))

-- ---- two levels that are below 5 have one place of the 25
one_pair : (a b c d : ℕ) → a < 5 → b < 5 → c < 5 → d < 5 → at (5 * a + b) 1 (5 * c + d) ≡ one (eqb a c && eqb b d)
one_pair a b c d ha hb hc hd =
    by_eq a c
    (λ p.
    by_eq b d
    (λ q. at_on (5 * a + b) 1 (5 * c + d) (omega arith) ∙ sym (ap₂ (λ (v w : Bool). one (v && w)) (eq-eqb a c p) (eq-eqb b d q)))
    (λ q. at_off (5 * a + b) 1 (5 * c + d) (λ z. q (omega arith)) ∙ sym (ap₂ (λ (v w : Bool). one (v && w)) (eq-eqb a c p) (ne_eqb b d q))))
    (λ p. at_off (5 * a + b) 1 (5 * c + d) (λ z. p (omega arith)) ∙ sym (ap (λ (v : Bool). one (v && eqb b d)) (ne_eqb a c p)))

-- ---- after turns that ran from table start on, each table has the circuits that are shown
abbrev Tells : List ℕ → (List Turn → ℕ → Circuit) → Type 0
Tells start shows = (before : List Turn) (t : List ℕ) → Ran start before t → (c : ℕ) → c < circuits t → circuit_at t c ≡ shows before c

module _ (start : List ℕ) (shows : List Turn → ℕ → Circuit) (tells : Tells start shows) (taker loser : ℕ) (ht : taker < 5) (hl : loser < 5) where
  module _ (before : List Turn) (t : List ℕ) (ran : Ran start before t) (p : Turn) (said : Said t p) where
    abbrev a : Answer
    a = answered records t p.event

    shown-level : a.call.present ≡ true → a.call.mark.level.0 ≡ (shows before (answer_detail p.answer)).holder.mark.level.0
    unfolding records
    shown-level h =
        let w = lost-there records t p.event h in
        ap (λ (q : Part). q.mark.level.0) w.1
        ∙ ap (λ (y : Circuit). y.holder.mark.level.0) (tells before t ran a.detail w.0)
        ∙ ap (λ (i : ℕ). (shows before i).holder.mark.level.0) (sym (says_where t p said))

    level_counts : shares (records.event p.event) a (place.lost_by_level taker loser) ≡ one (lost_by shows taker loser before p)
    unfolding records
    level_counts =
        let e = p.event in
        let i = 5 * taker + loser in
        let k = (asked p).mark.level.0 in
        let m = a.call.mark.level.0 in
        let shown = (shows before (answer_detail p.answer)).holder.mark.level.0 in
        let j : place.lost_by_level taker loser ≡ 6 + i = omega arith in
        let share = ap (shares (records.event e) a) j ∙ by_levels records t e i (omega arith) in
        by_so a.call.present
        (λ h.
        let w = lost-levels records t e h in
        share ∙ ap (λ (b : Bool). at (5 * k + m) (one b) i) h ∙ one_pair k m taker loser w.taker-level w.loser-level ht hl
        ∙ ap (λ (j : ℕ). one (eqb k taker && eqb j loser)) (shown-level h)
        ∙ sym (ap (λ (b : Bool). one (b && (eqb k taker && eqb shown loser))) (says-lost t p said ∙ h)))
        (λ h.
        let none = ap one h in
        let nobody = ap (λ (b : Bool). one (b && (eqb k taker && eqb shown loser))) (says-lost t p said ∙ h) in
        omega (arith, share, at_le (levels records t e) (one a.call.present) i))

pub level-shown : LevelShown
level-shown n lists l f done taker loser ht hl =
    let start = empty_table n in
    let tells : Tells start history = λ before t ran c m. ran_tells n before t ran c (omega (arith, ran_long n before t ran)) in
    turns_grow start (past start lists) (table_after start lists) (past_ran lists start) l f done (place.lost_by_level taker loser) (omega arith) (λ z. omega arith) (λ z. omega arith) (λ z. omega arith) (lost_by history taker loser) (level_counts start history tells taker loser ht hl)

pub level_stood : LevelStood
level_stood t l f done taker loser ht hl =
    let tells : Tells t (stands t) = λ before u ran c m. ap (λ (v : List ℕ). circuit_at v c) (sym (ran_run before t u ran)) in
    turns_grow t [] t refl l f done (place.lost_by_level taker loser) (omega arith) (λ z. omega arith) (λ z. omega arith) (λ z. omega arith) (lost_by (stands t) taker loser) (level_counts t (stands t) tells taker loser ht hl)
