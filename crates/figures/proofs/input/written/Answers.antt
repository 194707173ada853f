-- The check took the table.
use Rattle.figures.proofs.Tables.{sized}
use Rattle.figures.proofs.input.written.Goals as goal

pub invariant_of-sheet : goal.invariant_of-sheet
invariant_of-sheet c = record { sized = sized _ c.in_ok-n.ensures.valid }
