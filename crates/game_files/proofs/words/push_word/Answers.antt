use Rattle.std.proofs.Common.{◌≢◌, ◌∙◌, ◌∷◌, [], codes, inl, inr, refl, sym}
use Rattle.std.proofs.lemmas.Bool.{true≢false}
use Rattle.std.proofs.lemmas.Result.{on_ok_weaker}
use Rattle.std.proofs.lemmas.Slice.Eq.{bytes_eq-Decides}
use Rattle.game_files.specs.declared.words.Source.TheVariants as source
use Rattle.game_files.proofs.words.push_word.Goals as goal

pub returns-in-Folder : goal.returns-in-Folder
returns-in-Folder c =
    let word = c.args.word.now in
    let other : word ≢ codes "-" = λ same. true≢false (sym ((bytes_eq-Decides word (codes "-")).1 same) ∙ sym c.eq.ensures ∙ c.if-eq.false) in
    on_ok_weaker c.push_folder.result (λ grew. (grew.0, inr (other, inr (inr grew.1)), grew.2)) c.push_folder.ensures

pub returns-in_ok-push-in-File : goal.returns-in_ok-push-in-File
returns-in_ok-push-in-File c =
    let word = c.args.word.now in
    let name = c.in_ok-from_str-in-File.field-0 in
    let other : word ≢ codes "-" = λ same. true≢false (sym ((bytes_eq-Decides word (codes "-")).1 same) ∙ sym c.eq.ensures ∙ c.if-eq.false) in
    (source.File name ∷ [], inr (other, inl (name, c.in_ok-from_str-in-File.ensures.ok, refl)), c.in_ok-push-in-File.ensures.items)
