use Rattle.slot_table.specs.Inner.Batches.{loads_at}
use Rattle.slot_table.proofs.tables.SlotTable.look.Given as goal

abbrev pub ghosts-look : goal.ghosts-look
ghosts-look g a = record { machine = loads_at a.key a.index }
