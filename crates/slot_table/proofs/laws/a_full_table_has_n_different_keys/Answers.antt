use Rattle.slot_table.proofs.Contents.{key_is_numbered, numbered_is_key, keys_differ, full_keys}
use Rattle.slot_table.proofs.laws.a_full_table_has_n_different_keys.Goals as goal

pub returns-clause-numbered : goal.returns-clause-numbered
returns-clause-numbered c = λ n history key. (key_is_numbered n history key, numbered_is_key n history key)

pub returns-clause-different : goal.returns-clause-different
returns-clause-different c = keys_differ

pub returns-clause-full : goal.returns-clause-full
returns-clause-full c = full_keys
