-- The standing of a circuit is all that the choice asks of it.
use Rattle.rules.specs.declared.circuit.Circuit.{Circuit}
use Rattle.rules.specs.declared.standing.Standing.{Standing}
use Rattle.rules.specs.Circuit.{standing, preemptable}

-- whether a circuit is held, whether it is reserved, whether its holder may lose it, and its standing mark
abbrev pub standing_of : Circuit → Standing
standing_of c =
    record { held = c.holder.present; reserved = c.reservation.present; preemptable = preemptable c; mark = standing c }
