-- For each entry any two results that its contract allows coincide, and so does what they leave in the buffer or in the reader.
use Prim.Native.Nat.{ℕ}
use mathlib.Core.Path.{◌≡◌, refl, sym, ap, ◌∙◌}
use mathlib.Core.Bool.{cond}
use Rattle.std.specs.Prelude.{Option, Some, None, Result, Ok, Err}
use lib.Dec.{eqb}
use borrow.Author.Tests.{ne_eqb}
use Rattle.octets.proofs.Determined.{OneResult, OneExit}
use Rattle.optional.specs.declared.part.Fault.{Fault}
use Rattle.optional.specs.declared.part.Fault.TheVariants.{CutShort, NoEnd, PrecedenceTwice, Malformed}
use Rattle.optional.specs.declared.part.Parameter.{Parameter}
use Rattle.optional.specs.declared.part.Standing.{Standing}
use Rattle.optional.specs.declared.search.Found.{Found}
use Rattle.optional.specs.declared.search.Searched.{Searched}
use Rattle.optional.specs.declared.search.PrecedenceAt.{PrecedenceAt}
use Rattle.optional.specs.declared.write.Refused.{Refused}
use Rattle.optional.specs.declared.write.Refused.TheVariants as refused
use Rattle.optional.specs.declared.write.Written.{Written}
use Rattle.optional.specs.Part.{given, Named}
use Rattle.optional.specs.Search.{found}
use Rattle.optional.specs.Write.{written}
use Rattle.optional.proofs.part.parameter_at.Kinds as parameter-at-kinds
use Rattle.optional.proofs.part.parameter_at.Reads as parameter-at
use Rattle.optional.proofs.reader.Reader.new.Kinds as new-kinds
use Rattle.optional.proofs.reader.Reader.new.Reads as new
use Rattle.optional.proofs.reader.Reader.step.Kinds as step-kinds
use Rattle.optional.proofs.reader.Reader.step.Reads as step
use Rattle.optional.proofs.search.find.Kinds as find-kinds
use Rattle.optional.proofs.search.find.Reads as find
use Rattle.optional.proofs.write.write.Kinds as write-kinds
use Rattle.optional.proofs.write.write.Reads as write

-- ---- what C gets says what the result was
abbrev fault_of : ℕ → Fault
fault_of n = cond (eqb n 61) CutShort (cond (eqb n 62) NoEnd (cond (eqb n 63) PrecedenceTwice Malformed))

abbrev step_of : Parameter → Result (Option Standing) Fault
step_of p =
    cond (eqb p.number 0)
    (cond (eqb p.name 0) (Ok None) (Ok (Some (record { name = p.name; length = p.length; start = p.start; next = p.next })))) (Err (fault_of p.number))

abbrev search_of : Found → Result Searched Fault
search_of f =
    cond (eqb f.number 0)
    (Ok (record { precedence = cond (eqb f.found 0) None (Some (record { start = f.start; value = f.value })); end = f.end })) (Err (fault_of f.number))

abbrev writing_of : Written → Result ℕ Refused
writing_of w =
    cond (eqb w.number 0) (Ok w.end) (Err (cond (eqb w.number 20) refused.WrongLength (cond (eqb w.number 22) refused.Malformed refused.PrecedenceTwice)))

step_back : (at : ℕ) (x : Result (Option Standing) Fault) → Named x → step_of (given at x) ≡ x
step_back at (Ok (Some p)) n = λ i. cond (ne_eqb p.name 0 n i) (Ok None) (Ok (Some p))
step_back at (Ok None) n = refl
step_back at (Err CutShort) n = refl
step_back at (Err NoEnd) n = refl
step_back at (Err PrecedenceTwice) n = refl
step_back at (Err Malformed) n = refl

search_back : (x : Result Searched Fault) → search_of (found x) ≡ x
search_back (Ok searched) = go searched.precedence searched.end
  where
    go : (o : Option PrecedenceAt) (e : ℕ) → search_of (found (Ok (record { precedence = o; end = e }))) ≡ Ok (record { precedence = o; end = e })
    go (Some p) e = refl
    go None e = refl
search_back (Err CutShort) = refl
search_back (Err NoEnd) = refl
search_back (Err PrecedenceTwice) = refl
search_back (Err Malformed) = refl

writing_back : (x : Result ℕ Refused) → writing_of (written x) ≡ x
writing_back (Ok end) = refl
writing_back (Err refused.WrongLength) = refl
writing_back (Err refused.Malformed) = refl
writing_back (Err refused.PrecedenceTwice) = refl

-- ---- the entries
pub parameter_at_result : OneResult 1 parameter-at-kinds.ps parameter-at-kinds.r parameter-at.Post
parameter_at_result κs a x y e f p q = p ∙ sym q

pub find-result : OneResult 1 find-kinds.ps find-kinds.r find.Post
find-result κs a x y e f p q = sym (search_back x) ∙ ap search_of (p ∙ sym q) ∙ search_back y

pub write-result : OneResult 2 write-kinds.ps write-kinds.r write.Post
write-result κs a x y e f p q = sym (writing_back x) ∙ ap writing_of (p.0 ∙ sym q.0) ∙ writing_back y

pub write_buffer_lem : OneExit 2 write-kinds.ps write-kinds.r write.Post (λ κs e. e.0.now)
write_buffer_lem κs a x y e f p q = p.1 ∙ sym q.1

pub new-result : OneResult 1 new-kinds.ps new-kinds.r new.Post
new-result κs a x y e f p q = λ i. record { part = (p.0 ∙ sym q.0) i; place = (p.1 ∙ sym q.1) i }

pub step-result : OneResult 2 step-kinds.ps step-kinds.r step.Post
step-result κs a x y e f p q = sym (step_back _ x p.1.0) ∙ ap step_of (p.0 ∙ sym q.0) ∙ step_back _ y q.1.0

pub step_reader : OneExit 2 step-kinds.ps step-kinds.r step.Post (λ κs e. e.0.now)
step_reader κs a x y e f p q = cc
