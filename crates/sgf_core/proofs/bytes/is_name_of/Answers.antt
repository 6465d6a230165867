use Rattle.std.proofs.Common.{◌≡◌, ℕ, ◌≤◌, ◌↔◌, IsTrue, nat_eq, List, [], drop, length, sym, ap, ◌∙◌, eq-eqb, arith, length-drop}
use Rattle.std.proofs.lemmas.List.{drop_all}
use Rattle.std.proofs.lemmas.Bool.Decides.{Decides-eqb}
use Rattle.sgf_core.specs.Tree.{name_of}
use Rattle.sgf_core.proofs.bytes.is_name_of.Goals as goal

-- after the identifier, nothing may be left of the name
at_end : (identifier name : List ℕ) (index place : ℕ) → length identifier ≤ index → place ≤ length name → ((name_of (drop index identifier) ≡ drop place name) ↔ (name_of identifier ≡ name)) → IsTrue (nat_eq place (length name)) ↔ (name_of identifier ≡ name)
at_end identifier name index place over within same =
    let none : name_of (drop index identifier) ≡ [] = ap name_of (drop_all index identifier over) in (
      λ is. same.0 (none ∙ sym (drop_all place name (omega (arith, (Decides-eqb place (length name)).0 is)))),
      λ is.
          let e : [] ≡ drop place name = sym none ∙ same.1 is in
          let none_left : 0 ≡ length (drop place name) = ap (λ (xs : List ℕ). length xs) e in
          eq-eqb place (length name) (omega (arith, length-drop {A = ℕ})),
    )

pub returns : goal.returns
returns c = at_end c.args.identifier.now c.args.name.now c.loop-byte.byte-index c.loop-byte.place c.loop-byte-test.false c.loop-byte.invariant.within c.loop-byte.invariant.rest
