use Rattle.std.proofs.Common.{codes, ap, sym, subst, ◌∙◌}
use Rattle.std.specs.List.{flat_map}
use Rattle.std.proofs.lemmas.Result.{err_from_is_err_and}
use Rattle.sgf_core.specs.Tree.{main_line_of}
use Rattle.go_record.specs.Record.{node_deeds, is_go, board_of, root_of, first_value}
use Rattle.go_record.specs.Inner.Adding.{IsFaultOrMemory}
use Rattle.go_record.proofs.RecordFaults.{fault_of_record}
use Rattle.go_record.proofs.reading.read_record.Goals as goal

pub returns-in_err-actions-clause-reads : goal.returns-in_err-actions-clause-reads
returns-in_err-actions-clause-reads c game same =
    let p = err_from_is_err_and c.from_residual-in_err-actions.result c.from_residual-in_err-actions.ensures.1 in
    let size = c.in_ok-size.size in
    rw (p.1, p.2) (fault_of_record (main_line_of game) size c.in_err-actions.field-0.0
    (sym (c.is_go.ensures ∙ ap is_go (c.root_value.ensures ∙ ap (λ line. first_value (codes "GM") (root_of line)) (c.main_line.ensures.line game same))) ∙ c.if-not-is_go.false)
    (sym (c.in_ok-size.ensures ∙ ap board_of (c.root_value-2.ensures ∙ ap (λ line. first_value (codes "SZ") (root_of line)) (c.main_line-2.ensures.line game same))))
    (subst (λ line. IsFaultOrMemory (flat_map (node_deeds size) line) c.in_err-actions.field-0.0) (c.main_line-3.ensures.line game same) c.in_err-actions.ensures.fault))
