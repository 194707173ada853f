-- What was written so far and what the parameters that still come are written as are the whole part.
use Rattle.optional.specs.List.{entries}
use Rattle.optional.proofs.Putting.{Stands}
use Rattle.optional.proofs.write.put_list.Given as goal

abbrev pub invariant-loop-entry : goal.invariant-loop-entry
invariant-loop-entry l =
    (goal.iterator-loop-entry).can_next l.entry-iterator
    × (goal.iterator-loop-entry).is_finite l.entry-iterator
    × Stands l.fn.buffer l.list (entries l.entry-iterator.0.now) l.buffer l.to
