-- Each total grows by what is counted in the two tables, or in the events and answers of the list.
use Prim.Native.Nat.{ℕ}
use mathlib.Core.Path.{◌≡◌, refl, sym, ap, ◌∙◌}
use mathlib.Core.List.{List, []}
use native.Mathlib.Omega.{arith}
use Rattle.rules.specs.Numbers as number
use Rattle.rules.specs.Run.{answered}
use Rattle.rules.specs.Records.{records}
use Rattle.route.specs.Entries.{events_in}
use Rattle.tally.specs.Places as place
use Rattle.tally.specs.Shares.{at, one, is_seizure, is_release, holders, shares}
use Rattle.tally.proofs.Placed.{shares-seized, shares-released, shares-lost, shares-answered}
use Rattle.tally.proofs.Shared.{level-place}
use Rattle.tally.proofs.Lists.{list-lists, list-start, list-end}
use Rattle.claims.specs.History.{Turn, asked}
use Rattle.claims.specs.Figures.{answered_by, seizes, names_lost, FromAnswers}
use Rattle.claims.proofs.Added.{done-added, table-run, many-totals, total-added}
use Rattle.claims.proofs.Turns.{Said, says-number, says-lost, turns_grow}

-- ---- one turn, answered over table t
module _ (t : List ℕ) (p : Turn) (said : Said t p) where
  abbrev share : ℕ → ℕ
  share = shares (records.event p.event) (answered records t p.event)

  seizure_counts : share place.seized ≡ one (seizes p)
  unfolding records
  seizure_counts = shares-seized (asked p) (answered records t p.event) ∙ ap (λ (k : ℕ). one (is_seizure (asked p).kind k)) (sym (says-number t p said))

  release_counts : share place.released ≡ one (answered_by number.released p)
  unfolding records
  release_counts = shares-released (asked p) (answered records t p.event) ∙ ap (λ (k : ℕ). one (is_release k)) (sym (says-number t p said))

  loss_counts : share place.lost ≡ one (names_lost p)
  unfolding records
  loss_counts = shares-lost (asked p) (answered records t p.event) ∙ ap one (sym (says-lost t p said))

  number_counts : (k : ℕ) → share (place.answered k) ≡ one (answered_by k p)
  unfolding records
  number_counts k = shares-answered (asked p) (answered records t p.event) (level-place records t p.event) k ∙ ap (λ (n : ℕ). at n 1 k) (sym (says-number t p said))

pub from-answers : FromAnswers
from-answers t l f done =
    let es = l.events in
    let h = done-added t es l.places f done in
    let grows = turns_grow t [] t refl l f done in
    record {
      all = many-totals t es l.places f h;
      lists = omega (arith, total-added t es l.places f h place.lists (omega arith), list-lists records t (events_in es));
      start = omega (arith, total-added t es l.places f h place.start (omega arith), list-start records t (events_in es));
      seized = grows place.seized (omega arith) (λ z. omega arith) (λ z. omega arith) (λ z. omega arith) (λ before. seizes) (λ before u ran. seizure_counts u);
      released = grows place.released (omega arith) (λ z. omega arith) (λ z. omega arith) (λ z. omega arith) (λ before. answered_by number.released) (λ before u ran. release_counts u);
      lost = grows place.lost (omega arith) (λ z. omega arith) (λ z. omega arith) (λ z. omega arith) (λ before. names_lost) (λ before u ran. loss_counts u);
      end = omega (arith, total-added t es l.places f h place.end (omega arith), list-end records t (events_in es), ap (holders records) (table-run t es l.places f h));
      answered =
          λ k b.
          grows (place.answered k) (omega arith) (λ z. omega arith) (λ z. omega arith) (λ z. omega arith) (λ before. answered_by k) (λ before u ran p said. number_counts u p said k);
    }
