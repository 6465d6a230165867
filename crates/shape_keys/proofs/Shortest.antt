-- A line has 18 bytes or more, so a text has at most one entry for each 18 of its bytes.
use Rattle.std.proofs.Common.{◌≡◌, ℕ, suc, ◌*◌, ◌≤◌, List, [], ◌∷◌, All, length, refl, ap, arith}
use Rattle.std.specs.List.{flat_map}
use Rattle.std.proofs.lemmas.Fmt.{decimal_nonempty}
use Rattle.std.proofs.lemmas.List.{length-append}
use Rattle.shape_dict.specs.declared.entries.Entry.{Entry}
use Rattle.shape_dict.specs.declared.entries.Text.{Text}
use Rattle.shape_dict.specs.declared.entries.Text.TheVariants as text
use Rattle.shape_dict.specs.Contents.{Contents, IsDictionary}
use Rattle.shape_dict.specs.Reading.{IsTextOf}
use Rattle.shape_dict.specs.Text.{line_text, word_text, entries_of, header_text, header_of, IsSmallEntry, IsWhole}
use Rattle.shape_dict.proofs.Hexadecimal.{length-hexadecimal}
use Rattle.shape_dict.proofs.Read.{all_squares}

word_long : (word : ℕ) → length (word_text word) ≡ 13
unfolding word_text
word_long word = length-hexadecimal 13 word

line_long : (t : Text) (e : Entry) → IsSmallEntry e → 18 ≤ length (line_text t e)
line_long t e small =
    let a = decimal_nonempty e.there small.0 in
    let b = decimal_nonempty e.played small.1 in
    let d = word_long e.shape in
    simp length-append (omega arith)

lines_long : (t : Text) (es : List Entry) → All IsSmallEntry es → 18 * length es ≤ length (flat_map (line_text t) es)
lines_long t [] small = omega arith
lines_long t (e ∷ es) small =
    let one = line_long t e (small 0 e (omega arith)) in
    let more = lines_long t es (λ k d low. small (suc k) d (omega arith)) in
    let both = length-append (line_text t e) (flat_map (line_text t) es) in
    omega (arith, one, more, both)

entries_whole : (t : Text) (contents : Contents) → IsDictionary contents → IsWhole t contents → entries_of t contents ≡ contents.entries
entries_whole text.One contents is whole = all_squares contents.entries (is.uncounted whole.0)
entries_whole text.Two contents is whole = refl
entries_whole text.Three contents is whole = refl

pub text_long : (contents : Contents) (bytes : List ℕ) → IsTextOf contents bytes → 18 * length contents.entries ≤ length bytes
text_long contents bytes h =
    let lines = flat_map (line_text h.text) (entries_of h.text contents) in
    let header = header_text (header_of h.text contents) in
    let both = length-append header lines in
    let whole = ap (λ es. length (flat_map (line_text h.text) es)) (entries_whole h.text contents h.dictionary h.whole) in
    let long = lines_long h.text contents.entries h.small.each in
    let same = ap length h.same in
    omega (arith, both, whole, long, same)
