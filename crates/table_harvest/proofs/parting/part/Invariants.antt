use Rattle.std.proofs.Common.{◌≡◌, ◌++◌}
use Rattle.table_harvest.specs.Inner.Parted.{shares_of, refusals_of}
use Rattle.table_harvest.proofs.parting.part.Given as goal

-- those so far are parted, and those of the others follow
abbrev pub invariant-loop-one : goal.invariant-loop-one
invariant-loop-one l =
    record {
      shares : l.parted.shares.items ++ shares_of l.one-iterator.rest.items ≡ shares_of l.fn.worked.items;
      refusals : l.parted.refusals.items ++ refusals_of l.one-iterator.rest.items ≡ refusals_of l.fn.worked.items;
    }
