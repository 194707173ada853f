-- What the first pass found decides as the definition of the writer does.
use Prim.Native.Nat.{ℕ}
use mathlib.Core.Path.{◌≡◌, refl, sym, ◌∙◌}
use mathlib.Core.Bool.{Bool, true, false}
use mathlib.Core.List.{List}
use lib.ListN.{length}
use lib.Dec.{leb}
use native.Mathlib.Omega.{arith}
use Rattle.std.specs.Prelude.{Ok, Err}
use Rattle.octets.specs.Span.{put}
use Rattle.optional.specs.declared.survey.Survey.{Survey}
use Rattle.optional.specs.declared.write.Refused.{Refused}
use Rattle.optional.specs.declared.write.Refused.TheVariants.{WrongLength, Malformed, PrecedenceTwice}
use Rattle.optional.specs.declared.write.Written.{Written}
use Rattle.optional.specs.List.{items, whole}
use Rattle.optional.specs.Write.{refused_number, written, part_of, room, all_sound, precedences, write, write_buffer}
use Rattle.optional.specs.Survey.{Says, judged, Writable}
use Rattle.optional.proofs.Written.{tested, either}

module _ (b l : List ℕ) where
  -- the number, by the four tests
  pub number_is : (write b l).number ≡ tested (whole l) (leb (room (items l)) (length b)) (all_sound (items l)) (leb (precedences (items l)) 1) 0 (λ k. k)
  unfolding write
  number_is = go (whole l) (leb (room (items l)) (length b)) (all_sound (items l)) (leb (precedences (items l)) 1)
    where
      go : (p q r t : Bool) → (tested {A = Written} p q r t (record { number = 0; end = room (items l) }) (λ k. record { number = k; end = 0 })).number ≡ tested p q r t 0 (λ k. k)
      go true true true true = refl
      go true true true false = refl
      go true true false t = refl
      go true false r t = refl
      go false q r t = refl

  -- a refusal
  pub record Refuses (why : Refused) : Type 0 where
    pub result : written (Err why) ≡ write b l
    pub buffer : b ≡ write_buffer b l

  refuses_by : (k : ℕ) → k ≡ (write b l).number → (k ≡ 0 → ⊥) → (◌≡◌ {A = Written} (record { number = k; end = 0 }) (write b l)) × (b ≡ write_buffer b l)
  refuses_by k =
      either b l (λ (w : Written) (v : List ℕ). k ≡ w.number → (k ≡ 0 → ⊥) → (◌≡◌ {A = Written} (record { number = k; end = 0 }) w) × (b ≡ v))
      (λ _ e n. absurd (n e))
      (λ _ _ e _. ((λ i. record { number = e i; end = 0 }), refl))

  -- where the list is cut short
  pub short : whole l ≡ false → Refuses WrongLength
  short f = let r = refuses_by 20 (sym (number_is ∙ (λ i. tested (f i) (leb (room (items l)) (length b)) (all_sound (items l)) (leb (precedences (items l)) 1) 0 (λ k. k)))) (λ e. omega (arith, e)) in record { result = r.0; buffer = r.1 }

  module _ (h : Survey) (s : Says l h) where
    judges : judged h (length b) ≡ (write b l).number
    unfolding judged
    judges = (λ i. tested (sym s.is_whole i) (leb (s.needs i) (length b)) (s.is_sound i) (leb (s.gives i) 1) 0 (λ k. k)) ∙ sym number_is

    -- where the survey refuses it
    pub refuses : (why : Refused) → refused_number why ≡ judged h (length b) → Refuses why
    refuses why e = let r = refuses_by (refused_number why) (e ∙ judges) (nonzero why) in record { result = r.0; buffer = r.1 }
      where
        nonzero : (why : Refused) → refused_number why ≡ 0 → ⊥
        nonzero WrongLength n = omega (arith, n)
        nonzero Malformed n = omega (arith, n)
        nonzero PrecedenceTwice n = omega (arith, n)

    -- what the second pass rests on, and what is given with it
    pub record Goes (w : Written) (v : List ℕ) : Type 0 where
      pub writable : Writable b l
      pub result : written (Ok h.room) ≡ w
      pub buffer : put b 0 (part_of (items l)) ≡ v

    pub writes : 0 ≡ judged h (length b) → Goes (write b l) (write_buffer b l)
    writes e =
        either b l (λ (w : Written) (v : List ℕ). w.number ≡ 0 → Goes w v)
        (λ a _. record { writable = a.writable; result = λ i. record { number = 0; end = s.needs i }; buffer = refl })
        (λ k n m. absurd (n m)) (sym (e ∙ judges))
