-- A record is one of a table, by its number: what stands there is read of the two.
use Rattle.rules.specs.declared.circuit.Circuit.{Circuit}
use Rattle.rules.specs.Records.{circuit_at}
use Rattle.table.specs.declared.record.Record.{Record}

abbrev pub circuit_in : Record → Circuit  -- the circuit that stands in a record
circuit_in r = circuit_at r.table.now r.number
