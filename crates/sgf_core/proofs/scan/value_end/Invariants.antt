use Rattle.std.proofs.Common.{◌≡◌, List, ℕ, ◌++◌, false}
use Rattle.std.specs.Prelude.{slice_range}
use Rattle.sgf_core.specs.Grammar.{is_text_after}
use Rattle.sgf_core.proofs.scan.value_end.Given as goal

-- the value goes on as a text after what was passed
abbrev pub invariant-loop-place : goal.invariant-loop-place
invariant-loop-place l =
    (rest : List ℕ) → is_text_after false (slice_range l.bytes l.from l.place ++ rest) ≡ is_text_after l.escaped rest
