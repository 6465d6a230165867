use Rattle.std.proofs.Common.{◌≡◌, ◌-◌, drop}
use Rattle.shape_core.specs.Word.{sum_of}
use Rattle.shape_keys.specs.Codes.{AreCodes}
use Rattle.shape_keys.proofs.codes.sum_of_codes.Given as goal

abbrev pub invariant-loop-place : goal.invariant-loop-place
invariant-loop-place l =
    (l.sum ≡ sum_of (drop (25 - l.place) l.codes)) × AreCodes (drop (25 - l.place) l.codes)
