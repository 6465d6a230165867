-- A value of a property, as the reader hands it out.
use Rattle.sgf_core.specs.Tree.{PropertyValue}
use Rattle.sgf_core.specs.declared.marks.Value.{Value}

-- without where it lies in memory
abbrev pub value_of : Value → PropertyValue
value_of value = record { at = value.at; bytes = value.bytes.now }
