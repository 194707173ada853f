-- The figures close: of a list, of lists over any tables, and of lists over one table.
use Prim.Native.Nat.{ℕ, ◌+◌}
use mathlib.Core.Path.{◌≡◌, refl, sym, ap, subst}
use mathlib.Core.Bool.{true}
use mathlib.Core.List.{List, [], ◌∷◌}
use native.Mathlib.Omega.{arith}
use Rattle.octets.proofs.Tests.{by_so}
use Rattle.rules.specs.Layout.{Layout}
use Rattle.rules.specs.Run.{after, answered, run}
use Rattle.rules.specs.Records.{records}
use Rattle.rules.proofs.Lawful.{Lawful}
use Rattle.rules.proofs.Records.{lawful}
use Rattle.route.specs.Entries.{events_in}
use Rattle.tally.specs.Places as place
use Rattle.tally.specs.Shares.{holders, events_add}
use Rattle.tally.specs.Entry.{is_added, figures_totals}
use Rattle.tally.proofs.Placed.{shares-seized, shares-released, shares-lost}
use Rattle.tally.proofs.Lists.{list-start, list-end}
use Rattle.claims.specs.Lists.{EventList}
use Rattle.claims.specs.Figures.{total, no_figures, Closes, TableList, add_list, totals_after, FiguresClose, Figured, figured, figured_after, OneRoute}
use Rattle.claims.proofs.Closing.{event-closes}
use Rattle.claims.proofs.Added.{not_added, table-run, total-added, by_events}

-- ---- a list, in any lawful layout
module _ {S : Type 0} (L : Layout S) (W : Lawful L) where
  events_close : (es : List (List ℕ)) (s : S) → holders L s + events_add L s es place.seized ≡ events_add L s es place.released + events_add L s es place.lost + holders L (run L s es)
  events_close [] s = omega arith
  events_close (e ∷ es) s =
      let ev = L.event e in
      let a = answered L s e in
      let seized = shares-seized ev a in
      let released = shares-released ev a in
      let lost = shares-lost ev a in
      omega (arith, event-closes L W s e, events_close es (after L s e))

-- ---- a list over 01's records that is added to totals f
module _ (t es places f : List ℕ) (h : is_added t es places f ≡ true) where
  abbrev g : List ℕ  -- the totals after it
  g = figures_totals t es places f

  -- the holders before it and what it adds to the seizures are what it adds to the releases and to the lost holders, and the holders after it
  list-closes : holders records t + total g place.seized + total f place.released + total f place.lost ≡ total f place.seized + total g place.released + total g place.lost + holders records (run records t (events_in es))
  list-closes =
      let seized = by_events t es places f h place.seized (omega arith) (λ z. omega arith) (λ z. omega arith) (λ z. omega arith) in
      let released = by_events t es places f h place.released (omega arith) (λ z. omega arith) (λ z. omega arith) (λ z. omega arith) in
      let lost = by_events t es places f h place.lost (omega arith) (λ z. omega arith) (λ z. omega arith) (λ z. omega arith) in
      omega (arith, events_close records lawful (events_in es) t)

  still_close : Closes f → Closes g
  still_close before =
      let start = total-added t es places f h place.start (omega arith) in
      let end = total-added t es places f h place.end (omega arith) in
      omega (arith, list-closes, list-start records t (events_in es), list-end records t (events_in es))

-- ---- a list that is added or not
still : (f : List ℕ) (l : TableList) → Closes f → Closes (add_list f l)
still f l before =
    let t = l.table in
    let es = l.list.events in
    let places = l.list.places in
    by_so (is_added t es places f) (λ h. still_close t es places f h before)
    (λ h. subst Closes (sym (not_added t es places f h).2) before)

always : (ls : List TableList) (f : List ℕ) → Closes f → Closes (totals_after f ls)
always [] f h = h
always (l ∷ ls) f h = always ls (add_list f l) (still f l h)

pub figures_close : FiguresClose
figures_close = record { still = still; always = λ ls. always ls no_figures refl }

-- ---- lists over one table, with k holders at its start
module _ (k : ℕ) where
  abbrev Kept : Figured → Type 0
  Kept s = k + total s.totals place.seized ≡ total s.totals place.released + total s.totals place.lost + holders records s.table

  kept : (s : Figured) (l : EventList) → Kept s → Kept (figured s l)
  kept s l before =
      let t = s.table in
      let f = s.totals in
      let es = l.events in
      let places = l.places in
      by_so (is_added t es places f)
      (λ h.
      let table = ap (holders records) (table-run t es places f h) in
      omega (arith, list-closes t es places f h))
      (λ h.
      let same = not_added t es places f h in
      subst Kept (sym (λ d. record { table = same.0 d; totals = same.2 d })) before)

  kept-after : (lists : List EventList) (s : Figured) → Kept s → Kept (figured_after s lists)
  kept-after [] s h = h
  kept-after (l ∷ ls) s h = kept-after ls (figured s l) (kept s l h)

pub one_route : OneRoute
one_route t lists =
    kept-after (holders records t) lists (record { table = t; totals = no_figures }) (omega arith)
