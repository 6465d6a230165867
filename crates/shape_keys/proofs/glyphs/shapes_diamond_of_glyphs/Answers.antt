use Rattle.std.proofs.Common.{refl, sym, subst}
use Rattle.shape_keys.specs.Glyphs.{IsGlyphFault}
use Rattle.shape_keys.proofs.Spelled.{fault_said}
use Rattle.shape_keys.proofs.glyphs.shapes_diamond_of_glyphs.Goals as goal

pub returns-in-Err-clause-fault : goal.returns-in-Err-clause-fault
returns-in-Err-clause-fault c = λ other.
    let bytes = c.args.glyphs.now in
    let said = fault_said bytes c.in-Err.fault c.status_of.result _ refl c.status_of.ensures.length c.status_of.ensures.glyph c.in-Err.ensures.length c.in-Err.ensures.glyph in
    (subst (λ n. IsGlyphFault bytes n) (sym c.number-in-Err.ensures) said, refl)
