-- The check gives of a table what it gave before any event.
use Prim.Native.Nat.{ℕ}
use mathlib.Core.Path.{◌≡◌, refl, sym, ap, ap₂, ◌∙◌}
use mathlib.Core.Bool.{Bool, true, false, cond}
use mathlib.Core.List.{List}
use lib.ListN.{length}
use Rattle.octets.proofs.Tests.{by_so}
use Rattle.rules.specs.Verdict.{Verdict}
use Rattle.rules.specs.Valid.{verdict}
use Rattle.rules.specs.Run.{after, run}
use Rattle.rules.specs.Records.{records, table_length, checked, empty_table}
use Rattle.rules.proofs.Records.{lawful}
use Rattle.rules.proofs.Kept.{verdict-after, run-verdict}
use Rattle.route.specs.Entries.{event_lengths, events_in, list_lengths, list_table}
use Rattle.route.proofs.Whole.{no_event}
use Rattle.claims.specs.Lists.{table_after}
use Rattle.claims.specs.OneByOne.{EventKeepsValid, ListKeepsValid, AlwaysValid}
use Rattle.rules.proofs.Check.{check_by, valid-done}
use Rattle.claims.proofs.Octets.{length-after, length_run}
use Rattle.claims.proofs.Refused.{table_then}
use Rattle.claims.proofs.Demanded.{table-length, now, now_long}

check_same : (t u : List ℕ) → length u ≡ length t → verdict records u ≡ verdict records t → checked u ≡ checked t
unfolding checked
check_same t u l v = ap₂ (λ (n : ℕ) (w : Verdict). check_by (table_length n) w) l v

pub event-keeps-valid : EventKeepsValid
event-keeps-valid t e place =
    by_so (event_lengths t e place)
    (λ q. ap checked (table_then t e place q) ∙ check_same t (after records t e) (length-after t e) (verdict-after records lawful t e))
    (λ q. ap checked (sym (no_event t e place q).1.0))

pub list-keeps-valid : ListKeepsValid
unfolding list_table
list-keeps-valid t es places = go (list_lengths t es places)
  where
    go : (b : Bool) → checked (cond b (run records t (events_in es)) t) ≡ checked t
    go true = check_same t (run records t (events_in es)) (length_run (events_in es) t) (run-verdict records lawful (events_in es) t)
    go false = refl

pub always-valid : AlwaysValid
always-valid n one many lists =
    let u = table_after (empty_table n) lists in
    valid-done u (table-length u n (now_long n lists) one many) (now n lists).still-valid
