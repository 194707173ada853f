-- A list of events, one more counted.
use Prim.Native.Nat.{ℕ, ◌+◌, ◌<◌}
use mathlib.Core.Path.{◌≡◌, refl, sym, ap, ◌∙◌}
use mathlib.Core.List.{List, [], ◌∷◌}
use native.Mathlib.Numerals.{add-one}
use native.Mathlib.Omega.{arith}
use lib.ListN.{length}
use Rattle.rules.specs.Run.{answered}
use Rattle.rules.specs.Records.{records, event_at, event_in}
use Rattle.route.specs.Entries.{events_to}
use Rattle.route.proofs.Listed.{ran}
use Rattle.tally.specs.Places as place
use Rattle.tally.specs.Shares.{at, shares, holders, events_add, list_adds}
use Rattle.tally.specs.Entry.{added}
use Rattle.tally.specs.Room.{HasPlace, HasRoomFor}
use Rattle.tally.proofs.Added.{length-added, added_at, added_none, added_cong, added-added}
use Rattle.tally.proofs.Counted.{and_then, still-place}
use Rattle.tally.proofs.Shared.{events-append, events-most}
use Rattle.tally.proofs.Lists.{length_events_to}

module _ (t es f : List ℕ) where
  abbrev pub gained : ℕ → List ℕ  -- the totals after the first k events
  gained k = added (events_add records t (events_to es k)) f

  pub none_gained : f ≡ gained 0
  none_gained = sym (added_none (λ j. 0) f (λ j. refl))

  pub gained_more : (k : ℕ) → added (shares (event_at (event_in es k)) (answered records (ran t es k) (event_in es k))) (gained k) ≡ gained (k + 1)
  unfolding records
  gained_more k =
      added-added (events_add records t (events_to es k)) (shares (event_at (event_in es k)) (answered records (ran t es k) (event_in es k))) f
      ∙ added_cong _ (events_add records t (events_to es (k + 1))) f one_more
    where
      one_more : (j : ℕ) → events_add records t (events_to es k) j + shares (event_at (event_in es k)) (answered records (ran t es k) (event_in es k)) j ≡ events_add records t (events_to es (k + 1)) j
      one_more j =
          omega (arith, events-append records (events_to es k) (event_in es k ∷ []) t j)
          ∙ ap (λ (n : ℕ). events_add records t (events_to es n) j) (sym (add-one k))

  -- where there is room for n events, there is room for one more after fewer
  pub room-still : (n k : ℕ) → k < n → HasRoomFor n f → HasRoomFor 1 (gained k)
  room-still n k l h =
      record {
        all = length-added (events_add records t (events_to es k)) f ∙ h.all;
        room =
            λ j b.
            let there : j < length f = omega (arith, h.all) in
            omega (arith, h.room j b, added_at (events_add records t (events_to es k)) f j there, events-most records (events_to es k) t j, length_events_to es k);
      }

  -- the list itself counts where its events do not, so that it has the room that it had
  pub list-place : (n : ℕ) {g : List ℕ} → g ≡ gained n → (w p : ℕ) → events_add records t (events_to es n) p ≡ 0 → HasPlace w f p → HasPlace w g p
  list-place n e w p z h = still-place f (events_add records t (events_to es n)) e w p h z

  -- the events, and the list itself with its holders before and after them
  pub list_gained : (n : ℕ) {u g k : List ℕ} {start end : ℕ} → u ≡ ran t es n → g ≡ gained n → start ≡ holders records t → end ≡ holders records u → k ≡ added (λ j. at place.lists 1 j + at place.start start j + at place.end end j) g → k ≡ added (list_adds records t (events_to es n)) f
  unfolding list_adds
  list_gained n q e a z h =
      and_then f (events_add records t (events_to es n)) e _ h
      ∙ (λ i. added (λ j. events_add records t (events_to es n) j + (at place.lists 1 j + at place.start (a i) j + at place.end ((z ∙ ap (holders records) q) i) j)) f)
      ∙ added_cong _ _ f (λ j. omega arith)
