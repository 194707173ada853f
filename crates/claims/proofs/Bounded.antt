-- The totals never overflow: lists one after another add at most 4,096 each to a total, and 60 comes after 65,536 of them and not before.
use Prim.Native.Nat.{ℕ, ◌+◌, ◌*◌, ◌≤◌}
use mathlib.Core.Path.{◌≡◌, refl, sym, ap, ◌∙◌, subst}
use mathlib.Core.Logic.{◌↔◌}
use mathlib.Core.Bool.{Bool, true, cond, ◌&&◌, and-true}
use mathlib.Core.List.{List, [], ◌∷◌}
use native.Mathlib.Decide.{dec_lt}
use native.Mathlib.Nat.{zero-add, add-zero}
use native.Mathlib.Omega.{arith}
use lib.ListN.{length, get_or-eq_default, length-replicate}
use lib.Dec.{eqb, ltb}
use borrow.Author.Tests.{ltb-false, le-ltb, eq-eqb, ne_eqb}
use Rattle.octets.proofs.Tests.{by_so}
use Rattle.octets.proofs.Spans.{empty_agree}
use Rattle.rules.specs.Records.{records, most_events}
use Rattle.rules.proofs.Records.{lawful}
use Rattle.route.specs.Entries.{events_in}
use Rattle.tally.specs.Places as place
use Rattle.tally.specs.Shares.{one, list_adds}
use Rattle.tally.specs.Entry.{most_lists, full, has_room, figures_lengths, figures_number, is_added, figures_totals}
use Rattle.tally.proofs.Lists.{length-events, list-lists, list-most}
use Rattle.claims.specs.Figures.{total, no_figures, TableList, add_list, number_of, totals_after, carried_out, NeverFull}
use Rattle.claims.proofs.Carried.{carried_out_lem}
use Rattle.claims.proofs.Settled.{below_all, has_room_lem}
use Rattle.claims.proofs.Added.{not_done, not_added, list_done, figures-done, had_room, many-totals, total-added}

-- what totals are after n lists that were added
record After (f : List ℕ) (n : ℕ) : Type 0 where
  pub many : length f ≡ place.figures
  pub counted : total f place.lists ≡ n
  pub most : n ≤ most_lists
  pub each : (j : ℕ) → total f j ≤ most_events * n

module _ (t es places f : List ℕ) (h : is_added t es places f ≡ true) where
  abbrev g : List ℕ
  g = figures_totals t es places f

  -- what a list adds is at most 4,096
  adds-most : (j : ℕ) → list_adds records t (events_in es) j ≤ most_events
  unfolding records
  adds-most =
      let r = (carried_out_lem t es places).0 (list_done t es places f h) in
      list-most records t (events_in es) lawful most_events (omega arith) (omega (arith, r.most)) (omega (arith, length-events es, r.many))

  -- as many totals as before, so that past the last there is nothing
  one_more : (n : ℕ) → After f n → After g (1 + n)
  one_more n before =
      let more : (j : ℕ) → total g j ≤ most_events * (1 + n) = λ j. elim (dec_lt j place.figures) [
        | yes l ↦ omega (arith, total-added t es places f h j l, adds-most j, before.each j)
        | no l ↦ omega (arith, get_or-eq_default g 0 {n = j} (omega (arith, many-totals t es places f h)))
      ] in
      record {
        many = many-totals t es places f h;
        counted = omega (arith, total-added t es places f h place.lists (omega arith), list-lists records t (events_in es), before.counted);
        most = omega (arith, ((has_room_lem f).0 (had_room t es places f h)).lists, before.counted);
        each = more;
      }

-- a list that is added or not
carried-one : (f : List ℕ) (l : TableList) (n : ℕ) → After f n → After (add_list f l) (one (eqb (number_of f l) 0) + n)
carried-one f l n before =
    let t = l.table in
    let es = l.list.events in
    let places = l.list.places in
    by_so (is_added t es places f)
    (λ h. subst (λ (b : Bool). After (add_list f l) (one b + n)) (sym (eq-eqb (number_of f l) 0 (figures-done t es places f h))) (one_more t es places f h n before))
    (λ h.
    subst (λ (b : Bool). After (add_list f l) (one b + n)) (sym (ne_eqb (number_of f l) 0 (not_done t es places f h)))
    (subst (λ (g : List ℕ). After g (0 + n)) (sym (not_added t es places f h).2) (subst (After f) (sym (zero-add n)) before)))

carried-after : (ls : List TableList) (f : List ℕ) (n : ℕ) → After f n → After (totals_after f ls) (n + carried_out f ls)
carried-after [] f n h = subst (After f) (omega arith) h
carried-after (l ∷ ls) f n h =
    subst (After (totals_after (add_list f l) ls)) (omega arith) (carried-after ls (add_list f l) (one (eqb (number_of f l) 0) + n) (carried-one f l n h))

-- ---- another list, where each total is below 2^64 - 4,096
module _ (f : List ℕ) (n : ℕ) (h : After f n) where
  -- the count of lists alone decides
  room_so : has_room f ≡ ltb n most_lists
  unfolding has_room
  room_so =
      let below = below_all full f place.figures (λ j l. omega (arith, h.each j, h.most)) in
      ap (λ (b : Bool). ltb (total f place.lists) most_lists && b) below ∙ and-true (ltb (total f place.lists) most_lists) ∙ ap (λ (k : ℕ). ltb k most_lists) h.counted

  exactly : (t es places : List ℕ) → figures_lengths t es places f ≡ true → (figures_number t es places f ≡ 60) ↔ (n ≡ most_lists)
  unfolding figures_number
  exactly t es places lengths =
      let number : figures_number t es places f ≡ cond (ltb n most_lists) 0 60 = ap (λ (b : Bool). cond b (cond (has_room f) 0 60) 20) lengths ∙ ap (λ (b : Bool). cond b 0 60) room_so in (
        λ q. by_so (ltb n most_lists) (λ z. absurd (let done = ap (λ (b : Bool). cond {A = ℕ} b 0 60) z in omega arith)) (λ z. let l = ltb-false n most_lists z in omega (arith, h.most)),
        λ q. number ∙ ap (λ (b : Bool). cond b 0 60) (le-ltb n most_lists (omega arith)),
      )

start : After no_figures 0
start =
    record {
      many = length-replicate {A = ℕ} 95 0;
      counted = refl;
      most = omega arith;
      each = λ j. let none = ap (λ (k : ℕ). total no_figures k) (sym (add-zero j)) ∙ empty_agree 95 j 1 0 (omega arith) in omega arith;
    }

pub never_full : NeverFull
never_full ls =
    let f = totals_after no_figures ls in
    let n = carried_out no_figures ls in
    let h = subst (After f) (zero-add n) (carried-after ls no_figures 0 start) in
    record { counted = h.counted; most = h.most; each = h.each; small = λ j. omega (arith, h.each j, h.most); exactly = exactly f n h }
