use Rattle.std.proofs.Common.{◌≤◌, ℕ, List, [], length, ap, subst, sym, drop_of_length-le}
use Rattle.std.specs.Borrow.{Bor}
use Rattle.std.specs.Prelude.{Some}
use Rattle.merge_tests.proofs.Inputs.{text_at}
use Rattle.merge_tests.proofs.known.KnownSources.open_at.Goals as goal

pub returns : goal.returns
returns c = λ text is.
    let none : Bor (List ℕ) = record { ref_ptr = (0, 0); now = [] } in
    let same = text_at c.args.self.now.texts.now c.args.n none text c.requires is in
    ap Some (sym (drop_of_length-le text (subst (λ (t : List ℕ). length t ≤ c.args.place) same c.if-place-text.false)))
