-- Which queue of jobs it is.
use Rattle.std.specs.Prelude.{Option, []}
use Rattle.atomic_table.specs.Seated.{TableId}
use Rattle.crossbeam_queue.specs.declared.array_queue.Doing.{Doing}
use Rattle.crossbeam_queue.specs.declared.array_queue.Slotted.{Slotted}

-- which queue it is: no other has the same
abbrev pub id_of : {T V Q A : Type 0} → Slotted (Option T) (Doing T V) Q A → TableId
id_of queue = queue.table.shared.table_id

-- no queue
abbrev pub nowhere : TableId
nowhere = record { words = 0; slots = 0; views_name = 0; atom = 0; block = 0; offset = 0; slot_names = [] }
