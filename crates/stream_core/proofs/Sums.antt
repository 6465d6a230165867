-- What is kept of entries, with one entry more.
use Rattle.std.proofs.Common.{◌≡◌, ℕ, ◌+◌, ◌^◌, Bool, true, false, not, cond, ltb, List, [], ◌∷◌, ◌++◌, length, sym, refl, ap, ◌∙◌, arith, filter, Option, Some, None, append-nil}
use Rattle.std.proofs.lemmas.Bool.Decides.{nat_tests}
use Rattle.std.proofs.lemmas.List.{length_push}
use Rattle.std.proofs.lemmas.List.Elements.{filter-append}
use Rattle.std.proofs.lemmas.List.Sums.{sum_by_push}
use Rattle.shape_core.specs.Word.{kind_of}
use Rattle.shape_core.specs.declared.words.Kind.TheVariants as kind
use Rattle.shape_dict.specs.declared.entries.Entry.{Entry}
use Rattle.shape_dict.specs.Contents.{is_of, is_square, played_in, squares_of, diamonds_of}
use Rattle.shape_dict.proofs.Begun.{last_push}
use Rattle.stream_core.specs.declared.progress.Progress.{Progress}
use Rattle.stream_core.specs.Progress.{IsProgress, small}
use Rattle.stream_core.specs.Inner.Counting.{added}

is_square_by : (b : Bool) → cond b kind.Square kind.Diamond ≡ kind.Square → b ≡ true
is_square_by true h = refl
is_square_by false h = cc

is_diamond_by : (b : Bool) → cond b kind.Square kind.Diamond ≡ kind.Diamond → b ≡ false
is_diamond_by true h = cc
is_diamond_by false h = refl

-- a test at the last element
kept_push : (p : Entry → Bool) (es : List Entry) (e : Entry) → p e ≡ true → filter p (es ++ e ∷ []) ≡ filter p es ++ e ∷ []
kept_push p es e h = filter-append p es (e ∷ []) ∙ ap (λ (b : Bool). filter p es ++ cond b (e ∷ []) []) h

left_push : (p : Entry → Bool) (es : List Entry) (e : Entry) → p e ≡ false → filter p (es ++ e ∷ []) ≡ filter p es
left_push p es e h = filter-append p es (e ∷ []) ∙ (ap (λ (b : Bool). filter p es ++ cond b (e ∷ []) []) h ∙ append-nil (filter p es))

-- a sum with one number more
small_by : (b : Bool) (sum played : ℕ) → ltb sum (2 ^ 64) ≡ b → added (cond b (Some sum) None) played ≡ small (sum + played)
small_by true sum played is = refl
small_by false sum played is =
    let large : ltb (sum + played) (2 ^ 64) ≡ false = grind (arith, nat_tests) in
    sym (ap (λ (b : Bool). cond b (Some (sum + played)) None) large)

added_push : (kept : Option ℕ) (ps : List Entry) (e : Entry) → kept ≡ small (played_in ps) → added kept e.played ≡ small (played_in (ps ++ e ∷ []))
added_push kept ps e h =
    ap (λ (x : Option ℕ). added x e.played) h ∙ (small_by (ltb (played_in ps) (2 ^ 64)) (played_in ps) e.played refl
    ∙ ap small (sym (sum_by_push (λ (x : Entry). x.played) ps e)))

module _ (progress : Progress) (es : List Entry) (e : Entry) (h : IsProgress progress es) where
  count_push : progress.given + 1 ≡ length (es ++ e ∷ [])
  count_push = let given = h.given in let long = length_push es e in omega arith

  pub square_more : kind_of e.shape ≡ kind.Square → IsProgress (record { given = progress.given + 1; last = Some e.shape; squares = added progress.squares e.played; diamonds = progress.diamonds }) (es ++ e ∷ [])
  square_more is =
      let square : is_square e ≡ true = is_square_by (ltb e.shape (2 ^ 50)) is in
      let other : not (is_square e) ≡ false = ap not square in
      record {
        given = count_push;
        last = sym (last_push es e);
        squares = added_push progress.squares (squares_of es) e h.squares ∙ ap (λ (ps : List Entry). small (played_in ps)) (sym (kept_push (is_of kind.Square) es e square));
        diamonds = h.diamonds ∙ ap (λ (ps : List Entry). small (played_in ps)) (sym (left_push (is_of kind.Diamond) es e other));
      }

  pub diamond_more : kind_of e.shape ≡ kind.Diamond → IsProgress (record { given = progress.given + 1; last = Some e.shape; squares = progress.squares; diamonds = added progress.diamonds e.played }) (es ++ e ∷ [])
  diamond_more is =
      let other : is_square e ≡ false = is_diamond_by (ltb e.shape (2 ^ 50)) is in
      let diamond : not (is_square e) ≡ true = ap not other in
      record {
        given = count_push;
        last = sym (last_push es e);
        squares = h.squares ∙ ap (λ (ps : List Entry). small (played_in ps)) (sym (left_push (is_of kind.Square) es e other));
        diamonds = added_push progress.diamonds (diamonds_of es) e h.diamonds ∙ ap (λ (ps : List Entry). small (played_in ps)) (sym (kept_push (is_of kind.Diamond) es e diamond));
      }
