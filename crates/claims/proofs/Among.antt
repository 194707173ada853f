-- An event of a call among the turns of a past.
use Prim.Native.Nat.{ℕ}
use mathlib.Core.Path.{◌≡◌, refl, sym, ap, ap₂, ◌∙◌}
use mathlib.Core.Logic.{⊎_elim, ◌⊎◌, inl, inr}
use mathlib.Core.Bool.{Bool, true, false, true≢false}
use mathlib.Core.List.{List, [], ◌∷◌, ◌++◌, append_assoc}
use Rattle.rules.specs.Records.{answer_number, answer_detail}
use Rattle.claims.specs.History.{Turn, asked}
use Rattle.claims.specs.Accidents.{OwnAmong}

-- a turn at the end of some is before the others
pub one_on : (before : List Turn) (p : Turn) (ps : List Turn) → (before ++ p ∷ []) ++ ps ≡ before ++ p ∷ ps
one_on before p = append_assoc before (p ∷ [])

module _ {k m c : ℕ} {r : List ℕ} where
  -- a turn that is such an event
  pub among_one : (p : Turn) → (asked p).kind ≡ k → (asked p).reference ≡ r → answer_number p.answer ≡ m → answer_detail p.answer ≡ c → OwnAmong k m c r (p ∷ [])
  among_one p kind call number detail =
      record {
        before = [];
        turn = p;
        later = [];
        split = refl;
        kind = kind;
        reference = call;
        answer = number;
        named = detail;
      }

  -- the same event among other turns
  pub among : {ps qs : List Turn} (g : OwnAmong k m c r ps) (before later : List Turn) → qs ≡ before ++ g.turn ∷ later → OwnAmong k m c r qs
  among g before later split =
      record {
        before = before;
        turn = g.turn;
        later = later;
        split = split;
        kind = g.kind;
        reference = g.reference;
        answer = g.answer;
        named = g.named;
      }

  pub among_more : (ps qs : List Turn) → OwnAmong k m c r ps → OwnAmong k m c r (ps ++ qs)
  among_more ps qs g =
      among g g.before (g.later ++ qs) (ap (λ (os : List Turn). os ++ qs) g.split ∙ append_assoc g.before (g.turn ∷ g.later) qs)

  pub among-before : (ps qs : List Turn) → OwnAmong k m c r qs → OwnAmong k m c r (ps ++ qs)
  among-before ps qs g =
      among g (ps ++ g.before) g.later (ap (λ (os : List Turn). ps ++ os) g.split ∙ sym (append_assoc ps g.before (g.turn ∷ g.later)))

-- ---- turns, and one more at their end
abbrev first : Turn → List Turn → Turn  -- the first turn, or p where there is none
first p [] = p
first p (q ∷ qs) = q

abbrev others : List Turn → List Turn  -- the turns after the first
others [] = []
others (q ∷ qs) = qs

abbrev none : List Turn → Bool  -- there are no turns
none [] = true
none (q ∷ qs) = false

-- where there are no turns, none of them is q
pub not_empty : (bs : List Turn) (q : Turn) (cs : List Turn) → [] ≡ bs ++ q ∷ cs → ⊥
not_empty [] q cs e = true≢false (ap none e)
not_empty (b ∷ bs) q cs e = true≢false (ap none e)

-- a turn of these is the last one, or one of those before it
pub last_or_before : (ps : List Turn) (p : Turn) (bs : List Turn) (q : Turn) (cs : List Turn) → ps ++ p ∷ [] ≡ bs ++ q ∷ cs → (q ≡ p) ⊎ ((ds : List Turn) × (ps ≡ bs ++ q ∷ ds))
last_or_before [] p [] q cs e = inl (sym (ap (first p) e))
last_or_before [] p (b ∷ bs) q cs e = absurd (not_empty bs q cs (ap others e))
last_or_before (a ∷ ps) p [] q cs e = inr (ps, ap (λ (o : Turn). o ∷ ps) (ap (first p) e))
last_or_before (a ∷ ps) p (b ∷ bs) q cs e =
    ⊎_elim inl (λ d. inr (d.0, ap₂ (λ (o : Turn) (os : List Turn). o ∷ os) (ap (first p) e) d.1)) (last_or_before ps p bs q cs (ap others e))
