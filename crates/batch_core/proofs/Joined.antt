-- The games of texts that are put together are those of each text, one after another.
use Rattle.std.proofs.Common.{◌≡◌, ℕ, ◌+◌, ◌≤◌, List, [], ◌∷◌, ◌++◌, length, map, Result, Ok, Err, refl, sym, ap, ◌∙◌, subst, inl, inr, arith, append_assoc}
use Rattle.std.proofs.lemmas.Bool.{cases_lt}
use Rattle.std.proofs.lemmas.List.{map-append, drop_all}
use Rattle.sgf_core.specs.Bytes.{open_parenthesis, semicolon}
use Rattle.sgf_core.specs.Tree.{GameTree}
use Rattle.sgf_core.specs.Next.{HasNoTree}
use Rattle.sgf_core.proofs.OneAnswer.{same_next}
use Rattle.sgf_core.proofs.Begins.{NoneBefore}
use Rattle.go_record.specs.Actions.{Actions}
use Rattle.go_record.specs.declared.records.Kind.{Kind}
use Rattle.go_record.specs.declared.records.Kind.TheVariants as kind
use Rattle.go_record.specs.declared.faults.RecordFault.{RecordFault}
use Rattle.game_core.specs.Collection.{AreTrees, record_of_tree, games_among}
use Rattle.batch_core.specs.Batch.{parting_byte, joined, AreAllTrees, AreGamesOf}
use Rattle.batch_core.proofs.Shifted.{shifted_tree}
use Rattle.batch_core.proofs.Records.{same_games}
use Rattle.batch_core.proofs.Parting.{parted, second, none_left, none_right, next_left, next_right, next_from}

abbrev games_of : List GameTree → List Actions
games_of trees = games_among (map record_of_tree trees)

-- ---- a text has one list of trees

same_from : (bytes : List ℕ) (from : ℕ) (trees others : List GameTree) (end stop : ℕ) → AreTrees bytes from trees end → HasNoTree bytes end → AreTrees bytes from others stop → HasNoTree bytes stop → trees ≡ others
same_from bytes from [] [] end stop a none b other_none = refl
same_from bytes from [] (other ∷ others) end stop a none b other_none =
    absurd (subst (HasNoTree bytes) (sym a) none b.0 b.2.first.after b.2.first.begins)
same_from bytes from (tree ∷ trees) [] end stop a none b other_none =
    absurd (subst (HasNoTree bytes) (sym b) other_none a.0 a.2.first.after a.2.first.begins)
same_from bytes from (tree ∷ trees) (other ∷ others) end stop a none b other_none =
    let one = same_next bytes from a.0 a.1 tree b.0 b.1 other a.2 b.2 in
    ap (λ t. t ∷ trees) one.2
    ∙ ap (λ ts. other ∷ ts) (same_from bytes a.1 trees others end stop a.3 none (subst (λ f. AreTrees bytes f others stop) (sym one.1) b.3) other_none)

one_list : (bytes : List ℕ) (trees others : List GameTree) → AreAllTrees bytes trees → AreAllTrees bytes others → trees ≡ others
one_list bytes trees others h k = same_from bytes 0 trees others h.end k.end h.written h.no_more k.written k.no_more

-- ---- the trees of two texts

trees_left : (left right : List ℕ) (from : ℕ) (trees : List GameTree) (end : ℕ) → AreTrees left from trees end → AreTrees (parted left right) from trees end
trees_left left right from [] end h = h
trees_left left right from (tree ∷ trees) end (at, next, is, others) = (at, next, next_left left right from at next tree is, trees_left left right next trees end others)

trees_right : (left right : List ℕ) (from : ℕ) (trees : List GameTree) (end : ℕ) → AreTrees right from trees end →
    AreTrees (parted left right) (second left right + from) (map (shifted_tree (second left right)) trees) (second left right + end)
trees_right left right from [] end h = ap (λ n. second left right + n) h
trees_right left right from (tree ∷ trees) end (at, next, is, others) =
    let s = second left right in
    (s + at, s + next, next_right left right from at next tree is, trees_right left right next trees end others)

-- these trees from a place on, and none after them
record AreLast (bytes : List ℕ) (from : ℕ) (trees : List GameTree) : Type 0 where
  end : ℕ
  written : AreTrees bytes from trees end
  no_more : HasNoTree bytes end

-- they are so from an earlier place on, where none begins between
last_from : (bytes : List ℕ) (from there : ℕ) (trees : List GameTree) (end : ℕ) → there ≤ from → NoneBefore bytes there from → AreTrees bytes from trees end → HasNoTree bytes end → AreLast bytes there trees
last_from bytes from there [] end before none is no_more =
    let later = subst (HasNoTree bytes) (sym is) no_more in
    record {
      end = there;
      written = refl;
      no_more = λ at after begins. elim (cases_lt at from) [
        | inl low ↦ none at after low begins
        | inr high ↦ later at high begins
      ];
    }
last_from bytes from there (tree ∷ trees) end before none (at, next, is, others) no_more = record {
  end = end;
  written = (at, next, next_from bytes from there at next tree before none is, others);
  no_more = no_more;
}

trees_append : (bytes : List ℕ) (from : ℕ) (trees more : List GameTree) (middle end : ℕ) → AreTrees bytes from trees middle → AreTrees bytes middle more end → AreTrees bytes from (trees ++ more) end
trees_append bytes from [] more middle end is h = subst (λ f. AreTrees bytes f more end) (sym is) h
trees_append bytes from (tree ∷ trees) more middle end (at, next, is, others) h = (at, next, is, trees_append bytes next trees more middle end others h)

-- the trees of a text end within it
end_inside : (bytes : List ℕ) (from : ℕ) (trees : List GameTree) (end : ℕ) → from ≤ length bytes → AreTrees bytes from trees end → end ≤ length bytes
end_inside bytes from [] end within is = omega (arith, is)
end_inside bytes from (tree ∷ trees) end within (at, next, is, others) = end_inside bytes next trees end is.in_input others

all_of_two : (left right : List ℕ) (trees more : List GameTree) → AreAllTrees left trees → AreAllTrees right more → AreAllTrees (parted left right) (trees ++ map (shifted_tree (second left right)) more)
all_of_two left right trees more h k =
    let s = second left right in
    let within : h.end ≤ length left = end_inside left 0 trees h.end (omega arith) h.written in
    let later = last_from (parted left right) (s + 0) h.end (map (shifted_tree s) more) (s + k.end) (omega arith)
    (λ earlier after before. none_left left right h.end h.no_more earlier after (omega arith))
    (trees_right left right 0 more k.end k.written) (none_right left right k.end k.no_more) in
    record {
      end = later.end;
      written = trees_append (parted left right) 0 trees (map (shifted_tree s) more) h.end later.end (trees_left left right 0 trees h.end h.written) later.written;
      no_more = later.no_more;
    }

games_append : (records more : List (Result Kind RecordFault)) → games_among (records ++ more) ≡ games_among records ++ games_among more
games_append [] more = refl
games_append (Ok (kind.Go game) ∷ records) more = ap (λ games. game ∷ games) (games_append records more)
games_append (Ok kind.Other ∷ records) more = games_append records more
games_append (Err found ∷ records) more = games_append records more

games_of_two : (d : ℕ) (trees more : List GameTree) → games_of (trees ++ map (shifted_tree d) more) ≡ games_of trees ++ games_of more
games_of_two d trees more =
    ap games_among (map-append record_of_tree trees (map (shifted_tree d) more))
    ∙ (games_append (map record_of_tree trees) (map record_of_tree (map (shifted_tree d) more)) ∙ ap (λ games. games_of trees ++ games) (same_games d more))

-- ---- the games of texts

-- no tree begins in no bytes
all_of_nothing : AreAllTrees [] []
all_of_nothing = record {
  end = 0;
  written = refl;
  no_more = λ at after begins.
      let e : [] ≡ open_parenthesis ∷ (begins.white ++ semicolon ∷ begins.rest) = sym (drop_all at [] after) ∙ begins.begins in
      cc;
}

-- the input can be read to its end, and these are its games
abbrev HasGames : List ℕ → List Actions → Type 0
HasGames bytes games = (trees : List GameTree) × AreAllTrees bytes trees × (games_of trees ≡ games)

pub together : (texts : List (List ℕ)) (games : List Actions) → AreGamesOf texts games → HasGames (joined texts) games
together [] games none = ([], all_of_nothing, sym none)
together (text ∷ texts) games (trees, others, all, more, is) =
    let rest = together texts others more in
    let d = second text (joined texts) in (
      trees ++ map (shifted_tree d) rest.0,
      all_of_two text (joined texts) trees rest.0 all rest.1,
      games_of_two d trees rest.0 ∙ (ap (λ games. games_of trees ++ games) rest.2 ∙ sym is),
    )

pub apart : (texts : List (List ℕ)) (games : List Actions) (trees : List GameTree) → AreGamesOf texts games → AreAllTrees (joined texts) trees → games_of trees ≡ games
apart texts games trees are all =
    let found = together texts games are in
    ap games_of (one_list (joined texts) trees found.0 all found.1) ∙ found.2

pub one_games : (texts : List (List ℕ)) (games others : List Actions) → AreGamesOf texts games → AreGamesOf texts others → games ≡ others
one_games [] games others a b = a ∙ sym b
one_games (text ∷ texts) games others (trees, later, all, more, is) (other_trees, other_later, other_all, other_more, other_is) =
    is ∙ (ap (λ ts. games_of ts ++ later) (one_list text trees other_trees all other_all)
    ∙ (ap (λ gs. games_of other_trees ++ gs) (one_games texts later other_later more other_more) ∙ sym other_is))

pub both_games : (texts others : List (List ℕ)) (games more : List Actions) → AreGamesOf texts games → AreGamesOf others more → AreGamesOf (texts ++ others) (games ++ more)
both_games [] others games more none b = subst (AreGamesOf others) (ap (λ gs. gs ++ more) (sym none)) b
both_games (text ∷ texts) others games more (trees, later, all, rest, is) b =
    (trees, later ++ more, all, both_games texts others later more rest b, ap (λ gs. gs ++ more) is ∙ append_assoc (games_of trees) later more)

-- one more text is put to the others
pub joined_more : (texts : List (List ℕ)) (text : List ℕ) → joined texts ++ (text ++ parting_byte ∷ []) ≡ joined (texts ++ text ∷ [])
joined_more [] text = refl
joined_more (first ∷ texts) text =
    append_assoc first (parting_byte ∷ joined texts) (text ++ parting_byte ∷ []) ∙ ap (λ bs. first ++ parting_byte ∷ bs) (joined_more texts text)
