use Rattle.std.proofs.Common.{◌≡◌, ℕ, ◌<◌, ◌++◌, ◌∷◌, [], List, length, Option, Result, Ok, Err, IfOk, IfErr, Bor, sym}
use Rattle.shape_core.specs.Symmetry.{least_image}
use Rattle.shape_dict.specs.declared.entries.Entry.{Entry}
use Rattle.shape_dict.specs.declared.faults.DictFault.{DictFault}
use Rattle.shape_dict.specs.declared.headers.Header.{Header}
use Rattle.shape_dict.specs.Text.{line_text}
use Rattle.shape_dict.specs.Reading.{BeginsWith, IsAbove, IsFirstFault, IsLine, IsLineFault, last_shape, lines_after}
use Rattle.shape_dict.proofs.Begun.{entry_more, entry_fault}
use Rattle.shape_dict.proofs.reading.next_entry.Goals as goal

entry_read : (header : Header) (es : List Entry) (last : Option ℕ) (bytes : List ℕ) (result : Result (Entry × Bor (List ℕ)) DictFault) → last ≡ last_shape es → IfOk result (λ p. IsLine header (length es) p.0) → IfOk result (λ p. IsAbove last p.0.shape × (least_image p.0.shape ≡ p.0.shape)) → IfOk result (λ p. bytes ≡ line_text header.text p.0 ++ p.1.now) → IfOk result (λ p. (whole : List ℕ) → BeginsWith whole header es bytes → length es < lines_after header → BeginsWith whole header (es ++ p.0 ∷ []) p.1.now)
entry_read header es last bytes (Ok p) is line shape same = λ whole h more. entry_more whole header es p.0 last bytes p.1.now h more (sym is) line shape.0 shape.1 same
entry_read header es last bytes (Err found) is line shape same = tt

entry_refused : (header : Header) (es : List Entry) (last : Option ℕ) (bytes : List ℕ) (result : Result (Entry × Bor (List ℕ)) DictFault) → last ≡ last_shape es → IfErr result (IsLineFault header (length es) last bytes) → IfErr result (λ found. (whole : List ℕ) → BeginsWith whole header es bytes → length es < lines_after header → IsFirstFault whole found)
entry_refused header es last bytes (Ok p) is bad = tt
entry_refused header es last bytes (Err found) is bad = λ whole h more. entry_fault whole header es last bytes found h more (sym is) bad

pub returns-clause-ok : goal.returns-clause-ok
returns-clause-ok c =
    entry_read c.args.header.now c.args.entries.now c.last_shape.result c.args.bytes.now c.read_entry.result c.last_shape.ensures c.read_entry.ensures.line c.read_entry.ensures.shape c.read_entry.ensures.same

pub returns-clause-fault : goal.returns-clause-fault
returns-clause-fault c =
    entry_refused c.args.header.now c.args.entries.now c.last_shape.result c.args.bytes.now c.read_entry.result c.last_shape.ensures c.read_entry.ensures.fault
