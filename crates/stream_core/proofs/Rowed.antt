-- Lines that follow one another.
use Rattle.std.proofs.Common.{◌≡◌, ℕ, suc, ◌+◌, ◌≤◌, List, [], ◌∷◌, ◌++◌, ap, sym, subst, ◌∙◌, arith, append_assoc}
use Rattle.std.proofs.lemmas.List.{append-nil}
use Rattle.std.specs.List.{flat_map, AllByRecursion}
use Rattle.std.proofs.lemmas.List.Concat.{flat_map-append}
use Rattle.shape_dict.specs.declared.entries.Entry.{Entry}
use Rattle.shape_dict.specs.declared.entries.Text.{Text}
use Rattle.shape_dict.specs.declared.headers.Header.{Header}
use Rattle.shape_dict.specs.Text.{line_text}
use Rattle.shape_dict.specs.Reading.{IsFirst}
use Rattle.stream_core.specs.Rows.{IsRow, Rises, AreRows}

-- one row more
rises_more : (low least high : ℕ) (es : List Entry) (e : Entry) → Rises low least es → least ≤ e.shape → Rises low (suc e.shape) (es ++ e ∷ [])
rises_more low least high [] e h above = (omega (arith, h, above), omega arith)
rises_more low least high (d ∷ es) e h above = (h.0, rises_more (suc d.shape) least high es e h.1 above)

rises_raised : (low least high : ℕ) (es : List Entry) → Rises low least es → least ≤ high → Rises low high es
rises_raised low least high [] h above = omega (arith, h, above)
rises_raised low least high (d ∷ es) h above = (h.0, rises_raised (suc d.shape) least high es h.1 above)

each_more : (P : Entry → Type 0) (es : List Entry) (e : Entry) → AllByRecursion P es → P e → AllByRecursion P (es ++ e ∷ [])
each_more P [] e h p = (p, tt)
each_more P (d ∷ es) e h p = (h.0, each_more P es e h.1 p)

pub row_of : (kinds header : Header) (e : Entry) → kinds.text ≡ header.text → kinds.games ≡ header.games → IsRow kinds e → IsRow header e
row_of kinds header e text games h = record {
  word = h.word;
  canonical = h.canonical;
  there = h.there;
  played = h.played;
  small = h.small;
  first = subst (λ (t : Text). IsFirst t header.games e.first) text (subst (λ (n : ℕ). IsFirst kinds.text n e.first) games h.first);
}

pub rows_more : (header : Header) (low least : ℕ) (es : List Entry) (e : Entry) → AreRows header low least es → least ≤ e.shape → IsRow header e → AreRows header low (e.shape + 1) (es ++ e ∷ [])
rows_more header low least es e h above is =
    let next : suc e.shape ≡ e.shape + 1 = omega arith in
    record { rises = subst (λ (n : ℕ). Rises low n (es ++ e ∷ [])) next (rises_more low least 0 es e h.rises above); each = each_more (IsRow header) es e h.each is }

pub rows_raised : (header : Header) (low least high : ℕ) (es : List Entry) → AreRows header low least es → least ≤ high → AreRows header low high es
rows_raised header low least high es h above = record { rises = rises_raised low least high es h.rises above; each = h.each }

-- what was read of the bytes, and what is left
pub read_more : (t : Text) (es : List Entry) (e : Entry) (bytes left rest : List ℕ) → bytes ≡ flat_map (line_text t) es ++ left → left ≡ line_text t e ++ rest → bytes ≡ flat_map (line_text t) (es ++ e ∷ []) ++ rest
read_more t es e bytes left rest h k =
    let one : flat_map (line_text t) (e ∷ []) ≡ line_text t e = append-nil (line_text t e) in
    h ∙ (ap (λ (xs : List ℕ). flat_map (line_text t) es ++ xs) k ∙ (sym (append_assoc (flat_map (line_text t) es) (line_text t e) rest)
    ∙ ap (λ (xs : List ℕ). xs ++ rest) (ap (λ (xs : List ℕ). flat_map (line_text t) es ++ xs) (sym one) ∙ sym (flat_map-append (line_text t) es (e ∷ [])))))
