-- The figures of one event close, over any table of any lawful layout: its holders before it and a seizure are a release, a lost holder and
-- its holders after it.
use Prim.Native.Nat.{ℕ, zero, suc, ◌+◌, ◌<◌, ◌≤◌}
use mathlib.Core.Path.{◌≡◌, refl, sym, ap, ◌∙◌}
use mathlib.Core.Logic.{◌≢◌}
use mathlib.Core.Bool.{Bool, false, cond, ◌&&◌, ◌||◌, and-false}
use mathlib.Core.List.{List}
use native.Mathlib.Nat.{not-suc-le-zero}
use native.Mathlib.Omega.{arith}
use lib.Dec.{eqb}
use borrow.Author.Tests.{eq-eqb, ne_eqb}
use Rattle.octets.specs.Same.{same}
use Rattle.octets.proofs.Tests.{by_eq, by_so, by_test, and_left}
use Rattle.rules.specs.declared.part.Part.{Part}
use Rattle.rules.specs.declared.circuit.Circuit.{Circuit}
use Rattle.rules.specs.declared.event.Event.{Event}
use Rattle.rules.specs.declared.outcome.Act.{Act}
use Rattle.rules.specs.declared.outcome.Act.TheVariants.{Seize, Reserve, Release, Cancel, Unmark, Answered}
use Rattle.rules.specs.Outcome.{Outcome, does}
use Rattle.std.specs.Prelude.{Ok, Err}
use Rattle.rules.specs.declared.outcome.Deed.TheVariants.{Do, Clock}
use Rattle.rules.specs.Search.{count_to}
use Rattle.rules.specs.Circuit.{overdue, made}
use Rattle.rules.specs.Numbers.{refusal_number}
use Rattle.rules.specs.Answer.{becomes, anothers, answer_of}
use Rattle.rules.specs.Layout.{Layout}
use Rattle.rules.specs.Valid.{valid}
use Rattle.rules.specs.Run.{outcome_of, effect, after, answered}
use Rattle.rules.proofs.Numbers.{refusal_high}
use Rattle.rules.proofs.Lawful.{Lawful}
use Rattle.rules.proofs.Grounds.{Grounds, decided}
use Rattle.rules.proofs.Kept.{not_valid_refused, count-after, view-after}
use Rattle.tally.specs.Shares.{one, is_seizure, is_release, holders}

-- two counts whose tests differ at i alone: they are equal where i is not below n, and else they differ by these two tests
count_but : (f g : ℕ → Bool) (i n : ℕ) → ((c : ℕ) → c < n → c ≢ i → f c ≡ g c) → (n ≤ i → count_to f n ≡ count_to g n) × (i < n → count_to f n + one (g i) ≡ count_to g n + one (f i))
count_but f g i zero h = (λ l. refl, λ l. absurd (not-suc-le-zero l))
count_but f g i (suc n) h =
    let before = count_but f g i n (λ c l. h c (omega arith)) in
    let last : i ≢ n → one (f n) ≡ one (g n) = λ z. ap one (h n (omega arith) (λ w. z (sym w))) in (
      λ l. omega (arith, before.0 (omega arith), last (λ z. omega arith)),
      λ l.
          by_eq i n
          (λ z.
          let a = before.0 (omega arith) in
          let p = ap (λ (j : ℕ). one (f j)) z in
          let q = ap (λ (j : ℕ). one (g j)) z in
          omega arith)
          (λ z. omega (arith, before.1 (omega arith), last z)),
    )

-- circuits x become circuits y by an outcome of event e that has its grounds
module _ (x y : ℕ → Circuit) (n : ℕ) (e : Event) where
  abbrev held : (ℕ → Circuit) → ℕ
  held z = count_to (λ c. (z c).holder.present) n

  abbrev Becomes : Outcome → Type 0
  Becomes o = (c : ℕ) → c < n → y c ≡ becomes e o c (x c)

  -- an outcome that leaves every holder
  unmoved : (o : Outcome) → Becomes o → ((c : ℕ) → (becomes e o c (x c)).holder ≡ (x c).holder) → held y ≡ held x
  unmoved o q h = (count_but (λ c. (y c).holder.present) (λ c. (x c).holder.present) n n (λ c l ne. ap (λ (z : Circuit). z.holder.present) (q c l) ∙ ap (λ (p : Part). p.present) (h c))).0 (omega arith)

  -- an act on circuit i
  moved : (a : Act) (i : ℕ) → i < n → Becomes (does a i) → held y + one (x i).holder.present ≡ held x + one (made e a (x i)).holder.present
  moved a i l q =
      let off : (c : ℕ) → c < n → c ≢ i → (y c).holder.present ≡ (x c).holder.present = λ c k ne. ap (λ (z : Circuit). z.holder.present) (q c k) ∙ ap (λ (b : Bool). (cond b (made e a (x c)) (x c)).holder.present) (ne_eqb i c (λ z. ne (sym z))) in
      let on = ap (λ (z : Circuit). one z.holder.present) (q i l) ∙ ap (λ (b : Bool). one (cond b (made e a (x i)) (x i)).holder.present) (eq-eqb i i refl) in
      omega (arith, (count_but (λ c. (y c).holder.present) (λ c. (x c).holder.present) i n off).1 l)

  abbrev Closed : Outcome → Type 0
  Closed o =
      let a = answer_of x n e o in
      held x + one (is_seizure e.kind a.number) ≡ one (is_release a.number) + one a.call.present + held y

  -- an event of another kind than 1 is no seizure
  no_seizure : (kind k : ℕ) → e.kind ≡ kind → eqb kind 1 ≡ false → one (is_seizure e.kind k) ≡ 0
  no_seizure kind k h t = ap (λ (m : ℕ). one (is_seizure m k)) h ∙ ap (λ (b : Bool). one (b && (eqb k 1 || eqb k 2))) t

  closed : (o : Outcome) → Grounds x n e o → Becomes o → Closed o
  unfolding answer_of
  closed (Err r) h q =
      let k = refusal_number r in
      let high = refusal_high r in
      let none : one (is_seizure e.kind k) ≡ 0 = ap (λ (b : Bool). one (eqb e.kind 1 && b)) (λ d. ne_eqb k 1 (λ z. omega arith) d || ne_eqb k 2 (λ z. omega arith) d) ∙ ap one (and-false (eqb e.kind 1)) in
      let not_released = ap one (ne_eqb k 5 (λ z. omega arith)) in
      omega (arith, unmoved (Err r) q (λ c. refl))
  closed (Ok (Do Seize i)) h q =
      let b = (x i).holder.present || (anothers e.reference (x i).reservation).present in
      let seized = ap (λ (m : ℕ). one (is_seizure m (cond b 2 1))) h.set_up_lem ∙ by_test (λ (k : ℕ). one (is_seizure 1 k) ≡ 1) b 2 1 (λ t. refl) (λ t. refl) in
      let not_released = by_test (λ (k : ℕ). one (is_release k) ≡ 0) b 2 1 (λ t. refl) (λ t. refl) in
      omega (arith, moved Seize i h.there q)
  closed (Ok (Do Reserve i)) h q =
      let b = (x i).reservation.present in
      let none = no_seizure 3 (cond b 4 3) h.look_ahead_lem refl in
      let not_released = by_test (λ (k : ℕ). one (is_release k) ≡ 0) b 4 3 (λ t. refl) (λ t. refl) in
      omega (arith, moved Reserve i h.there q)
  closed (Ok (Do Release i)) h q =
      let there = ap one (and_left (x i).holder.present (same (x i).holder.reference e.reference) h.own) in
      omega (arith, no_seizure 2 5 h.kind refl, moved Release i h.there q)
  closed (Ok (Do Cancel i)) h q = omega (arith, no_seizure 4 6 h.kind refl, moved Cancel i h.there q)
  closed (Ok (Do Unmark i)) h q = omega (arith, no_seizure 6 8 h.kind refl, moved Unmark i h.there q)
  closed (Ok (Do Answered i)) h q = omega (arith, no_seizure 7 9 h.kind refl, moved Answered i h.there q)
  closed (Ok Clock) h q =
      let s = unmoved (Ok Clock) q (λ c. by_test (λ (z : Circuit). z.holder ≡ (x c).holder) (overdue e.clock (x c)) (made e Cancel (x c)) (x c) (λ t. refl) (λ t. refl)) in
      omega (arith, no_seizure 5 7 h refl)

module _ {S : Type 0} (L : Layout S) (W : Lawful L) (s : S) (e : List ℕ) where
  -- what becomes of each circuit: over a table that is not valid it stays
  view-always : (c : ℕ) → c < L.count s → L.view (after L s e) c ≡ becomes (L.event e) (outcome_of L s (L.event e)) c (L.view s c)
  unfolding after effect
  view-always c l =
      let ev = L.event e in
      by_so (valid L s) (λ v. view-after L W s e v c l)
      (λ v. not_valid_refused L (λ o. L.view (effect L s ev o) c ≡ becomes ev o c (L.view s c)) s ev v (λ r. refl))

  pub event-closes : let a = answered L s e in holders L s + one (is_seizure (L.event e).kind a.number) ≡ one (is_release a.number) + one a.call.present + holders L (after L s e)
  unfolding holders answered
  event-closes =
      let ev = L.event e in
      let o = outcome_of L s ev in
      let h = closed (L.view s) (L.view (after L s e)) (L.count s) ev o (decided L s ev) view-always in
      let same_count = ap (count_to (λ i. (L.view (after L s e) i).holder.present)) (count-after L W s e) in
      omega arith
