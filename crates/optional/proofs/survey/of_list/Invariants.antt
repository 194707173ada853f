-- What was found so far, and the parameters that still come, give the survey of the list; these have room in its octets.
use Rattle.std.proofs.Common.{◌≡◌, ◌+◌, ◌≤◌, ◌<◌, length}
use Rattle.optional.specs.List.{entries}
use Rattle.optional.specs.Survey.{begun, surveyed}
use Rattle.optional.proofs.Surveying.{lent}
use Rattle.optional.proofs.survey.of_list.Given as goal

abbrev pub invariant-loop-entry : goal.invariant-loop-entry
invariant-loop-entry l =
    (goal.iterator-loop-entry).can_next l.entry-iterator
    × (goal.iterator-loop-entry).is_finite l.entry-iterator
    × (surveyed l.survey (entries l.entry-iterator.0.now) ≡ surveyed begun (entries l.list))
    × (l.survey.precedences < l.survey.room)
    × (l.survey.room + lent (entries l.entry-iterator.0.now) ≤ length l.list + 1)
