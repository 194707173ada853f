-- A holder rings from its set-up until its own kind 7.
use Prim.Native.Nat.{ℕ, ◌<◌}
use mathlib.Core.Path.{◌≡◌, refl, sym, ap, ◌∙◌, subst}
use mathlib.Core.Logic.{⊎_elim}
use mathlib.Core.Bool.{true, false, true≢false}
use mathlib.Core.List.{List, [], ◌∷◌, ◌++◌, append-nil, append_assoc}
use native.Mathlib.Omega.{arith}
use Rattle.octets.proofs.Tests.{by_so}
use Rattle.rules.specs.declared.part.Part.{Part}
use Rattle.rules.specs.declared.circuit.Circuit.{Circuit}
use Rattle.rules.specs.Numbers as number
use Rattle.rules.specs.Records.{answer_number, answer_detail, empty_table}
use Rattle.claims.specs.History.{Turn, history}
use Rattle.claims.specs.Lists.{EventList, past}
use Rattle.claims.specs.Accidents.{HolderGoes, released, higher_set_up, HolderStays, under_its_mark, unmarked, OwnAmong}
use Rattle.claims.specs.Ringing.{SeizedBy, HeldSince, RingsExactly, RingsUntilAnswered, AnsweredSince, CountedOnlyAnswered, TakenOnlyAnswered}
use Rattle.claims.proofs.Among.{one_on, among_one, among, among_more, among-before, not_empty, last_or_before}
use Rattle.claims.proofs.Holders.{no_holder_lost}
use Rattle.claims.proofs.Steps.{Step, seizes, ends, keeps, leaves, steps}

-- ---- one turn more
module _ (c : ℕ) (p : Turn) (before : List Turn) (y z : Circuit) where
  -- the set-up of a holder that stays
  abbrev held_on : (SeizedBy c p → ⊥) → z.holder.reference ≡ y.holder.reference → HeldSince c y before → HeldSince c z (before ++ p ∷ [])
  held_on not same h =
      record {
        before = h.before;
        turn = h.turn;
        since = h.since ++ p ∷ [];
        split = ap (λ (ps : List Turn). ps ++ p ∷ []) h.split ∙ append_assoc h.before (h.turn ∷ h.since) (p ∷ []);
        is_set_up = h.is_set_up;
        call = h.call ∙ sym same;
        seized = h.seized;
        last =
            λ earlier q later e s.
            ⊎_elim (λ w. not (subst (SeizedBy c) w s)) (λ d. h.last earlier q d.0 d.1 s) (last_or_before h.since p earlier q later e);
      }

  -- the events of one call before a turn that is none of them
  own_before : {k m : ℕ} {r : List ℕ} (ps : List Turn) → ((answer_number p.answer ≡ m) × (answer_detail p.answer ≡ c) → ⊥) → OwnAmong k m c r (ps ++ p ∷ []) → OwnAmong k m c r ps
  own_before {k} {m} {r} ps not g =
      ⊎_elim (λ w. absurd (not (subst (λ (q : Turn). (answer_number q.answer ≡ m) × (answer_detail q.answer ≡ c)) w (g.answer, g.named)))) (λ d. among g g.before d.0 d.1)
      (last_or_before ps p g.before g.turn g.later g.split)

  abbrev Own : Circuit → List Turn → Type 0  -- among these turns is the holder's own kind 7, answered by 9
  Own w ps = OwnAmong 7 number.now_answered c w.holder.reference ps

  -- a holder rings exactly until that turn, if there is none where it rings, and one where it does not
  rings : (h : HeldSince c z (before ++ p ∷ [])) → (z.ringing ≡ true → Own z h.since → ⊥) → (z.ringing ≡ false → Own z h.since) → RingsExactly c z (before ++ p ∷ [])
  rings h none some =
      record {
        held = h;
        exactly = (none, λ f. by_so z.ringing (λ q. q) (λ q. absurd (f (some q))));
        otherwise = some;
      }

  next : Step c p y z → (y.holder.present ≡ true → RingsExactly c y before) → z.holder.present ≡ true → RingsExactly c z (before ++ p ∷ [])
  next (seizes kind s call on) w there =
      rings
      (record {
        before = before;
        turn = p;
        since = [];
        split = refl;
        is_set_up = kind;
        call = call;
        seized = s;
        last = λ earlier q later e f. not_empty earlier q later e;
      })
      (λ q g. not_empty g.before g.turn g.later g.split) (λ q. absurd (true≢false (sym on ∙ q)))
  next (ends kind call s same off) w there =
      let r = w (ap (λ (q : Part). q.present) (sym same) ∙ there) in
      let reference = ap (λ (q : Part). q.reference) same in
      let seized : SeizedBy c p → ⊥ = λ f. ⊎_elim (λ q. omega (arith, s.0)) (λ q. omega (arith, s.0)) f.0 in
      rings (held_on seized reference r.held) (λ q g. absurd (true≢false (sym q ∙ off)))
      (λ q. among-before r.held.since (p ∷ []) (among_one p kind (call ∙ sym reference) s.0 s.1))
  next (keeps seized ended there-too same ring) w there =
      let r = w (sym there-too ∙ there) in
      let mine : (ps : List Turn) → Own y ps → Own z ps = λ ps. subst (λ (s : List ℕ). OwnAmong 7 number.now_answered c s ps) (sym same) in
      let theirs : (ps : List Turn) → Own z ps → Own y ps = λ ps. subst (λ (s : List ℕ). OwnAmong 7 number.now_answered c s ps) same in
      let since = r.held.since in
      rings (held_on seized same r.held) (λ q g. r.exactly.0 (sym ring ∙ q) (theirs since (own_before since ended g)))
      (λ q. mine (since ++ p ∷ []) (among_more since (p ∷ []) (r.otherwise (sym ring ∙ q))))
  next (leaves gone) w there = absurd (true≢false (sym there ∙ gone))

-- ---- all turns
module _ (n : ℕ) (lists : List EventList) (c : ℕ) (l : c < n) where
  abbrev Holds : List Turn → Type 0
  Holds ps = (history ps c).holder.present ≡ true → RingsExactly c (history ps c) ps

  grow : (since before later : List Turn) → past (empty_table n) lists ≡ before ++ (since ++ later) → Holds before → Holds (before ++ since)
  grow [] before later split h = subst Holds (sym (append-nil before)) h
  grow (p ∷ since) before later split h =
      subst Holds (one_on before p since)
      (grow since (before ++ p ∷ []) later (split ∙ sym (one_on before p (since ++ later)))
      (next c p before (history before c) (history (before ++ p ∷ []) c) (steps n lists before p (since ++ later) split c l) h))

pub rings_until_answered : RingsUntilAnswered
rings_until_answered n lists turns later split c l = grow n lists c l turns [] later split (λ h. absurd (true≢false (sym h)))

-- a holder that does not ring was answered
was_answered : {c : ℕ} {y : Circuit} {turns : List Turn} → RingsExactly c y turns → y.ringing ≡ false → AnsweredSince c y turns
was_answered r still = record { held = r.held; answered = r.otherwise still }

pub counted-only-answered : CountedOnlyAnswered
counted-only-answered n lists turns later split c l there m low =
    was_answered (rings_until_answered n lists turns later split c l there) (low.answered there)

pub taken-only-answered : TakenOnlyAnswered
taken-only-answered n lists before p later split c l there not_released gone =
    ⊎_elim (λ s. absurd (stays s)) goes (no_holder_lost n lists before p later split c l there)
  where
    y : Circuit
    y = history before c

    stays : HolderStays c p y (history (before ++ p ∷ []) c) → ⊥
    stays (under_its_mark s) = gone (ap (λ (q : Part). q.present) s ∙ there, ap (λ (q : Part). q.reference) s)
    stays (unmarked own eight s) = gone (ap (λ (q : Part). q.present) s ∙ there, ap (λ (q : Part). q.reference) s)

    goes : HolderGoes c p y → AnsweredSince c y before
    goes (released own five) = absurd (not_released own)
    goes (higher_set_up k two taken level still) = was_answered (rings_until_answered n lists before (p ∷ later) split c l there) still
