-- What is decided names a circuit that a search found, so one that is there; and over a valid table its record is in order.
use Prim.Native.Nat.{ℕ, ◌<◌}
use mathlib.Core.Path.{◌≡◌, subst}
use mathlib.Core.Bool.{Bool, true}
use mathlib.Core.List.{List}
use Rattle.rules.specs.declared.circuit.Circuit.{Circuit}
use Rattle.rules.specs.declared.event.Event.{Event}
use Rattle.std.specs.Prelude.{Option, Some, None, Ok, Err}
use Rattle.rules.specs.Outcome.{Outcome}
use Rattle.rules.specs.declared.outcome.Deed.TheVariants.{Do, Clock}
use Rattle.rules.specs.declared.verdict.Fault.{Fault}
use Rattle.rules.specs.Search.{first_to}
use Rattle.rules.specs.Circuit.{is_of}
use Rattle.rules.specs.Choice.{reserved_by}
use Rattle.rules.specs.Event.{well_formed}
use Rattle.rules.specs.Decision.{decision}
use Rattle.rules.specs.Valid.{verdict, valid}
use Rattle.rules.specs.Records.{circuit_at, records, circuits}
use Rattle.rules.specs.Ready.{Ready}
use Rattle.rules.proofs.Faults.{Facts, valid_facts}
use Rattle.rules.proofs.Searches.{FirstIs, first_is}
use Rattle.rules.proofs.Sound.{Suits}
use Rattle.rules.proofs.Right.{right}
use Rattle.rules.proofs.FirstFault.{fault-there}

abbrev Below : ℕ → Option ℕ → Type 0  -- a search among n found one of them, or nothing
Below n (Some i) = i < n
Below n None = Unit {0}

pub reserved_below : (x : ℕ → Circuit) (n : ℕ) (r : List ℕ) (i : ℕ) → reserved_by x n r ≡ Some i → i < n
unfolding reserved_by
reserved_below x n r i e = subst (Below n) e (go (first_to f n) (first_is f n))
  where
    f : ℕ → Bool
    f k = is_of r (x k).reservation

    go : (q : Option ℕ) → FirstIs f n q → Below n q
    go (Some k) h = h.0
    go None h = tt

pub fault_below : (t : List ℕ) (flaw : Fault) → verdict records t ≡ Err flaw → flaw.at < circuits t
unfolding records
fault_below t flaw = fault-there records t flaw.reason flaw.at

pub ready : (t : List ℕ) → valid records t ≡ true → (e : Event) → well_formed e ≡ true → Ready t (decision (circuit_at t) (circuits t) e)
unfolding records
ready t v e w = go (decision (circuit_at t) (circuits t) e) (right (circuit_at t) (circuits t) e facts.pair facts.unique w).0
  where
    facts : Facts records t
    facts = valid_facts records t v

    go : (o : Outcome) → Suits (circuit_at t) (circuits t) e o → Ready t o
    go (Err r) h = tt
    go (Ok (Do a i)) h = (h.0, facts.flags i h.0, facts.blank i h.0)
    go (Ok Clock) h = tt
