use Rattle.std.proofs.Common.{◌<◌, ◌^◌, List, length, subst, sym}
use Rattle.shape_dict.specs.declared.entries.Entry.{Entry}
use Rattle.shape_dict.proofs.Pieced.{few}
use Rattle.shape_dict.proofs.pieces.PieceDictionary.len.Goals as goal

pub length_of-requires : goal.length_of-requires
length_of-requires c =
    subst (λ (es : List Entry). length es < 2 ^ 63) (sym c.pieces.ensures.value) (few c.args.self.now c.pieces.ensures.dictionary)
