-- Why an outcome is decided: by which kind of event, and what stood on the circuit. No other proof goes through the kinds.
use Rattle.std.proofs.Common.{◌≡◌, ℕ, ◌<◌, Bool, true, false, not, ◌&&◌, eqb, leb, ◌⊎◌, sym, refl, inl, inr, ⊎_elim, true≢false}
use Rattle.octets.proofs.Tests.{by_test}
use Rattle.rules.specs.declared.circuit.Circuit.{Circuit}
use Rattle.rules.specs.declared.event.Event.{Event}
use Rattle.rules.specs.declared.event.Kind.{Kind}
use Rattle.std.specs.Prelude.{Option, Some, None, Ok, Err}
use Rattle.rules.specs.declared.outcome.Act.{Act}
use Rattle.rules.specs.declared.outcome.Act.TheVariants.{Seize, Reserve, Release, Cancel, Unmark, Answered}
use Rattle.rules.specs.declared.outcome.Refusal.{Refusal}
use Rattle.rules.specs.declared.outcome.Refusal.TheVariants.{Malformed, NotAllowed, ByRoutine, AlreadyThere, MarkDiffers, NotThere, NoCircuitForRoutine, NoCircuit, NoCircuitToReserve}
use Rattle.rules.specs.Outcome.{Outcome, does}
use Rattle.rules.specs.declared.outcome.Deed.TheVariants.{Do, Clock}
use Rattle.rules.specs.Fields.{allowed}
use Rattle.rules.specs.Search.{found}
use Rattle.rules.specs.Circuit.{is_routine, same_mark, is_of, free, takeable}
use Rattle.rules.specs.Choice.{held_by, reserved_by, choice}
use Rattle.rules.specs.Event.{marked, kind_of, formed, well_formed}
use Rattle.rules.specs.declared.event.Kind.TheVariants as kind
use Rattle.rules.specs.Decision.{stands_nowhere, on_reservation, blocked, set_up, look_ahead, on_holder, cancel, decision}
use Rattle.rules.specs.Decision as rule
use Rattle.rules.proofs.ByKind.{Says, kind-says}
use Rattle.rules.specs.Numbers.{refusal_number}
use Rattle.rules.specs.Answer.{no_detail, refusal_detail}
use Rattle.rules.specs.Layout.{Layout}
use Rattle.rules.specs.Valid.{verdict}
use Rattle.rules.specs.Run.{outcome_of}
use Rattle.rules.proofs.Faults.{by_verdict}
use Rattle.rules.proofs.Searches.{by_first}
use Rattle.rules.proofs.Choice.{ChoiceIs, choice_is}

-- a refusal by the rules is for no record: it is none of 41 to 45, and names none
abbrev pub ForNoRecord : Refusal → Type 0
ForNoRecord r = (refusal_detail r ≡ no_detail) × (leb 41 (refusal_number r) && leb (refusal_number r) 45 ≡ false)

blocked_for_none : (e : Event) → ForNoRecord (blocked e)
blocked_for_none e =
    by_test ForNoRecord (is_routine e.mark.level) NoCircuitForRoutine NoCircuit (λ q. (refl, refl)) (λ q. (refl, refl))

module _ (x : ℕ → Circuit) (n : ℕ) (e : Event) where
  abbrev pub Reserved : ℕ → Bool
  Reserved i = is_of e.reference (x i).reservation

  abbrev pub Held : ℕ → Bool
  Held i = is_of e.reference (x i).holder

  abbrev pub Open : ℕ → Type 0  -- circuit i is free or takeable
  Open i = (free (x i) ≡ true) ⊎ (takeable e.mark (x i) ≡ true)

  abbrev AsReserved : ℕ → Bool  -- the call comes with the level and domain of the reservation on circuit i
  AsReserved i = same_mark e.mark (x i).reservation.mark

  abbrev pub Nowhere : Type 0  -- the event's call holds no circuit and has reserved none
  Nowhere = ((j : ℕ) → j < n → Held j ≡ false) × ((j : ℕ) → j < n → Reserved j ≡ false)

  -- a set-up seizes circuit i: its own reservation, or one that is open to a call that stands nowhere
  pub record Seizes (i : ℕ) : Type 0 where
    pub set_up_lem : e.kind ≡ 1
    pub well_marked : marked e ≡ true
    pub there : i < n
    pub given : ((Reserved i ≡ true) × (AsReserved i ≡ true)) ⊎ (Open i × Nowhere)

  -- a look-ahead of a call that stands nowhere reserves circuit i
  pub record Reserves (i : ℕ) : Type 0 where
    pub look_ahead_lem : e.kind ≡ 3
    pub well_marked : marked e ≡ true
    pub there : i < n
    pub given : Open i × Nowhere

  -- an event of kind k acts on circuit i, on which its call stands
  pub record OnOwn (k : ℕ) (stands : ℕ → Bool) (i : ℕ) : Type 0 where
    pub kind : e.kind ≡ k
    pub there : i < n
    pub own : stands i ≡ true

  abbrev pub GroundsOr : (Refusal → Type 0) → Outcome → Type 0  -- P is what is said of a refusal
  GroundsOr P (Err r) = P r
  GroundsOr P (Ok (Do Seize i)) = Seizes i
  GroundsOr P (Ok (Do Reserve i)) = Reserves i
  GroundsOr P (Ok (Do Release i)) = OnOwn 2 Held i
  GroundsOr P (Ok (Do Cancel i)) = OnOwn 4 Reserved i
  GroundsOr P (Ok (Do Unmark i)) = OnOwn 6 Held i
  GroundsOr P (Ok (Do Answered i)) = OnOwn 7 Held i
  GroundsOr P (Ok Clock) = e.kind ≡ 5

  abbrev pub Grounds : Outcome → Type 0  -- a refusal needs none: it changes nothing
  Grounds = GroundsOr (λ r. Unit {0})

  nowhere : stands_nowhere x n e.reference ≡ true → Nowhere
  unfolding held_by reserved_by
  nowhere =
      by_first (λ (b : Bool). b ≡ true → Nowhere) Held n (λ i. false) _ (λ i l h z. absurd (true≢false (sym z)))
      (λ a. by_first (λ (b : Bool). b ≡ true → Nowhere) Reserved n (λ i. false) true (λ i l h z. absurd (true≢false (sym z))) (λ b z. (a, b)))

  -- whatever P says of each refusal by the rules
  module _ (P : Refusal → Type 0) (refused : (r : Refusal) → ForNoRecord r → P r) where
    abbrev Gives : Outcome → Type 0
    Gives = GroundsOr P

    by_choice : (y : ℕ → Outcome) (z : Outcome) → ((i : ℕ) → i < n → Open i → Gives (y i)) → Gives z → Gives (found (choice x n e.mark) y z)
    by_choice y z g h = go (choice x n e.mark) (choice_is x n e.mark)
      where
        go : (r : Option ℕ) → ChoiceIs x n e.mark r → Gives (found r y z)
        go (Some i) k = g i k.0 (⊎_elim (λ f. inl f.0) (λ t. inr t.1) k.1)
        go None k = h

    by_set_up : e.kind ≡ 1 → marked e ≡ true → Gives (set_up x n e)
    unfolding set_up held_by reserved_by on_reservation
    by_set_up k m =
        by_first Gives Held n (λ i. Err AlreadyThere) _ (λ i l h. refused AlreadyThere (refl, refl))
        (λ a.
        by_first Gives Reserved n _ _
        (λ i l h.
        by_test Gives (AsReserved i) (does Seize i) (Err MarkDiffers) (λ q. record { set_up_lem = k; well_marked = m; there = l; given = inl (h, q) })
        (λ q. refused MarkDiffers (refl, refl)))
        (λ b. by_choice (does Seize) (Err (blocked e)) (λ i l o. record { set_up_lem = k; well_marked = m; there = l; given = inr (o, (a, b)) })
        (refused (blocked e) (blocked_for_none e))))

    by_look_ahead : e.kind ≡ 3 → marked e ≡ true → Gives (look_ahead x n e)
    unfolding look_ahead
    by_look_ahead k m =
        by_test Gives (eqb e.lfb allowed) _ (Err NotAllowed)
        (λ q.
        by_test Gives (not (is_routine e.mark.level)) _ (Err ByRoutine)
        (λ q.
        by_test Gives (stands_nowhere x n e.reference) _ (Err AlreadyThere)
        (λ s. by_choice (does Reserve) (Err NoCircuitToReserve) (λ i l o. record { look_ahead_lem = k; well_marked = m; there = l; given = (o, nowhere s) })
        (refused NoCircuitToReserve (refl, refl)))
        (λ s. refused AlreadyThere (refl, refl)))
        (λ q. refused ByRoutine (refl, refl)))
        (λ q. refused NotAllowed (refl, refl))

    by_holder : (k : ℕ) (a : Act) → ((i : ℕ) → OnOwn k Held i → Gives (does a i)) → e.kind ≡ k → Gives (on_holder x n a e)
    unfolding on_holder held_by
    by_holder k a g q = by_first Gives Held n (does a) (Err NotThere) (λ i l h. g i (record { kind = q; there = l; own = h })) (λ b. refused NotThere (refl, refl))

    -- what is decided of each kind has its grounds
    by_kind : (k : Option Kind) → Says e.kind k → formed k e ≡ true → Gives (rule.decided x n k e)
    unfolding cancel reserved_by
    by_kind (Some kind.SetUp) q w = by_set_up q w
    by_kind (Some kind.Release) q w = by_holder 2 Release (λ i g. g) q
    by_kind (Some kind.LookAhead) q w = by_look_ahead q w
    by_kind (Some kind.Cancel) q w =
        by_first Gives Reserved n (does Cancel) (Err NotThere) (λ i l h. record { kind = q; there = l; own = h }) (λ b. refused NotThere (refl, refl))
    by_kind (Some kind.Clock) q w = q
    by_kind (Some kind.NoService) q w = by_holder 6 Unmark (λ i g. g) q
    by_kind (Some kind.Answered) q w = by_holder 7 Answered (λ i g. g) q
    by_kind None q w = absurd (true≢false (sym w))

    pub grounds : well_formed e ≡ true → Gives (decision x n e)
    unfolding well_formed decision
    grounds = by_kind (kind_of e.kind) (kind-says e.kind)

pub decided : {S : Type 0} (L : Layout S) (s : S) (e : Event) → Grounds (L.view s) (L.count s) e (outcome_of L s e)
unfolding outcome_of
decided L s e =
    let P = Grounds (L.view s) (L.count s) e in
    by_test P (well_formed e) _ (Err Malformed)
    (λ w. by_verdict P (verdict L s) (decision (L.view s) (L.count s) e) (λ v. grounds (L.view s) (L.count s) e (λ r. Unit {0}) (λ r f. tt) w) (λ r i f. tt))
    (λ w. tt)
