-- What the events of a list add to a total is the number of its turns that count there, by what event and answer say.
use Prim.Native.Nat.{ℕ, zero, suc, ◌+◌, ◌/◌, ◌<◌}
use mathlib.Core.Path.{◌≡◌, refl, ap, ◌∙◌}
use mathlib.Core.Logic.{◌≢◌}
use mathlib.Core.Bool.{Bool, cond}
use mathlib.Core.List.{List, [], ◌∷◌, ◌++◌}
use native.Mathlib.Omega.{arith}
use lib.ListN.{length}
use lib.Dec.{eqb}
use Rattle.rules.specs.Run.{after, answered, answer_record, run}
use Rattle.rules.specs.Records.{records, event_size, event_in, answer_in, answer_number, answer_detail, lost_call, is_lost}
use Rattle.rules.proofs.Records.{flag_back}
use Rattle.route.specs.Entries.{events_to, events_in, list_number, list_table, list_answers}
use Rattle.tally.specs.Places as place
use Rattle.tally.specs.Shares.{one, shares, events_add}
use Rattle.tally.specs.Entry.{figures_number, figures_totals}
use Rattle.claims.specs.History.{Turn}
use Rattle.claims.specs.Lists.{EventList, turns_to, turns}
use Rattle.claims.specs.Figures.{total, count_turns, events_of, names_lost}
use Rattle.claims.proofs.Octets.{answer-detail}
use Rattle.claims.proofs.Ran.{Ran, ran_append}
use Rattle.claims.proofs.Cut.{list_ran}
use Rattle.claims.proofs.Added.{done-added, list_done, by_events}

-- ---- the events of turns are those of the list
events_more : (ps : List Turn) (p : Turn) → events_of (ps ++ p ∷ []) ≡ events_of ps ++ p.event ∷ []
events_more [] p = refl
events_more (q ∷ ps) p = ap (λ (l : List (List ℕ)). q.event ∷ l) (events_more ps p)

events_to_lem : (es answers : List ℕ) (n : ℕ) → events_of (turns_to es answers n) ≡ events_to es n
events_to_lem es answers zero = refl
events_to_lem es answers (suc n) =
    events_more (turns_to es answers n) (record { event = event_in es n; answer = answer_in answers n })
    ∙ ap (λ (l : List (List ℕ)). l ++ event_in es n ∷ []) (events_to_lem es answers n)

turns-events : (t : List ℕ) (l : EventList) → list_number t l.events l.places ≡ 0 → events_of (turns t l) ≡ events_in l.events
unfolding turns events_in
turns-events t l h =
    let es = l.events in
    let n = length es / event_size in
    ap (λ (k : ℕ). events_of (cond (eqb k 0) (turns_to es (list_answers t es l.places) n) [])) h ∙ events_to_lem es (list_answers t es l.places) n

-- turns that ran leave the table that their events leave
pub ran_run : (ps : List Turn) (t u : List ℕ) → Ran t ps u → run records t (events_of ps) ≡ u
ran_run [] t u h = h
ran_run (p ∷ ps) t u h = ran_run ps (after records t p.event) u h.1

-- ---- what the octets of a turn's answer say, where table t gave it
abbrev pub Said : List ℕ → Turn → Type 0
Said t p = p.answer ≡ answer_record records t p.event

module _ (t : List ℕ) (p : Turn) (said : Said t p) where
  pub says-number : answer_number p.answer ≡ (answered records t p.event).number
  unfolding answer_record records
  says-number = ap answer_number said

  pub says_where : answer_detail p.answer ≡ (answered records t p.event).detail
  says_where = ap answer_detail said ∙ answer-detail t p.event

  pub says-lost : names_lost p ≡ (answered records t p.event).call.present
  unfolding answer_record records
  says-lost = ap (λ (r : List ℕ). is_lost (lost_call r)) said ∙ flag_back (answered records t p.event).call.present

-- ---- turns from table start on
module _ (start : List ℕ) where
  -- each turn adds to total j what q says of it
  abbrev Each : ℕ → (List Turn → Turn → Bool) → Type 0
  Each j q =
      (before : List Turn) (t : List ℕ) → Ran start before t → (p : Turn) → Said t p
      → shares (records.event p.event) (answered records t p.event) j ≡ one (q before p)

  turns-count : (j : ℕ) (q : List Turn → Turn → Bool) → Each j q → (ps before : List Turn) (t u : List ℕ) → Ran start before t → Ran t ps u → events_add records t (events_of ps) j ≡ count_turns q before ps
  turns-count j q each [] before t u ran h = refl
  turns-count j q each (p ∷ ps) before t u ran h =
      let v = after records t p.event in
      omega (arith, each before t ran p h.0, turns-count j q each ps (before ++ p ∷ []) v u (ran_append before (p ∷ []) start t v ran (h.0, refl)) h.1)

  -- a list that gets 0 after the turns before: but at the places of a list itself, a total grows by the turns of which q holds
  pub turns_grow : (before : List Turn) (t : List ℕ) → Ran start before t → (l : EventList) (f : List ℕ) → figures_number t l.events l.places f ≡ 0 → (j : ℕ) → j < place.figures → j ≢ place.lists → j ≢ place.start → j ≢ place.end → (q : List Turn → Turn → Bool) → Each j q → total (figures_totals t l.events l.places f) j ≡ total f j + count_turns q before (turns t l)
  turns_grow before t ran l f done j b x y z q each =
      let es = l.events in
      let h = done-added t es l.places f done in
      let counted = turns-count j q each (turns t l) before t (list_table t es l.places) ran (list_ran t l) in
      let those = ap (λ (ls : List (List ℕ)). events_add records t ls j) (turns-events t l (list_done t es l.places f h)) in
      omega (arith, by_events t es l.places f h j b x y z)
