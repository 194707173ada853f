-- Either entry can be called with any octets.
use Prim.Native.Nat.{ℕ}
use mathlib.Core.Path.{refl}
use mathlib.Core.List.{List, []}
use contract.Lifetimes.{Lfts}
use denote.MutBor.{MutBor}
use denote.Ref.{Bor}
use Rattle.route.specs.Entries.{event_number, event_table, event_answer, list_number, list_table, list_answers}
use Rattle.calls.specs.Calls.{Entry, list-entry, event-entry, Contract, CallWith, AnyOctets}

abbrev read_buffer : List ℕ → Bor (List ℕ)  -- a buffer with these octets, lent to be read
read_buffer octets = record { ref_ptr = (0, 0); now = octets }

abbrev buffer : List ℕ → MutBor (List ℕ)  -- one that is lent to be written
buffer octets = record { ref_ptr = (0, 0); ghost_name = 0; now = octets }

abbrev lifetimes : Lfts 3  -- of the three buffers; the contracts ask nothing of them
lifetimes = ([], ([], ([], tt)))

-- table t, events es and places room are lent: number k may come back, and table u and answers a be left, if the contract allows it
module _ (w : Entry) (t es room : List ℕ) where
  with_result :
      (k : ℕ) (u a : List ℕ)
      → Contract w lifetimes (buffer t, (read_buffer es, (buffer room, tt))) k (buffer u, (read_buffer es, (buffer a, tt))) → CallWith w t es room
  with_result k u a allowed =
      record {
        call =
            record {
              entry = w;
              lifetimes = lifetimes;
              lent = (buffer t, (read_buffer es, (buffer room, tt)));
              number = k;
              left = (buffer u, (read_buffer es, (buffer a, tt)));
              allowed = allowed;
            };
        entry = refl;
        lends_table = refl;
        lends_events = refl;
        lends_places = refl;
      }

pub any_octets : AnyOctets
any_octets list-entry t es room =
    with_result list-entry t es room (list_number t es room) (list_table t es room) (list_answers t es room) (refl, (refl, refl))
any_octets event-entry t es room =
    with_result event-entry t es room (event_number t es room) (event_table t es room) (event_answer t es room) (refl, (refl, refl))
