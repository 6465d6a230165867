use Rattle.std.proofs.Common.{◌∷◌, [], ◌++◌, ◌∙◌, ap, sym, ℕ, List, take, get_or, append_assoc}
use Rattle.listing_core.specs.declared.keys.Key.{Key}
use Rattle.std.proofs.lemmas.List.{take_more, flat_map_more}
use Rattle.sgf_core.specs.Tree.{main_line_of}
use Rattle.listing_core.specs.Columns.{column, key_value, key_columns, shown_keys}
use Rattle.listing_core.specs.declared.keys.Key.TheVariants.{Size}
use Rattle.listing_core.proofs.columns.push_key_columns.Goals as goal

pub loop-key-preserved : goal.loop-key-preserved
loop-key-preserved c = λ game marks.
    let i = c.loop-key.key-index in
    let line = main_line_of game in
    let size = c.args.size in
    let key = get_or shown_keys i Size in
    let f : Key → List ℕ = λ k. column (key_value k line size) in
    let value = key_value key line size in
    let old = c.args.text.now.items in
    let front = key_columns (take i shown_keys) line size in
    c.in_ok-push_key_value.ensures game marks
    ∙ ap (λ t. t ++ value) (c.in_ok-push.ensures.items ∙ ap (λ t. t ++ 9 ∷ []) (c.loop-key.invariant game marks))
    ∙ append_assoc (old ++ front) (9 ∷ []) value
    ∙ flat_map_more f old (take i shown_keys) key
    ∙ ap (λ ks. old ++ key_columns ks line size) (sym (take_more shown_keys i Size c.loop-key-test.true))
