-- Bytes that begin with a header and lines: one line more, and each fault at its line.
use Rattle.std.proofs.Common.{◌≡◌, ◌≢◌, ℕ, zero, suc, ◌+◌, ◌-◌, ◌<◌, ◌≤◌, inl, inr, All, Option, None, Some, List, [], ◌∷◌, ◌++◌, length, get_or, take, sym, refl, ap, ◌∙◌, subst, arith, append_assoc}
use Rattle.std.specs.List.{flat_map}
use Rattle.std.specs.List.Sorted.{IsStrictlyIncreasing}
use Rattle.std.proofs.lemmas.Bool.{cases_lt}
use Rattle.std.proofs.lemmas.List.{map_push, length_push, get_or_append_left, get_or_push, length-map, take_more, take_all, append-nil, get_or-map}
use Rattle.std.proofs.lemmas.List.Concat.{flat_map-append}
use Rattle.std.proofs.lemmas.List.Elements.{All-push}
use Rattle.shape_core.specs.Symmetry.{least_image}
use Rattle.shape_dict.specs.declared.entries.Entry.{Entry}
use Rattle.shape_dict.specs.declared.headers.Header.{Header}
use Rattle.shape_dict.specs.Text.{header_text, line_text}
use Rattle.shape_dict.specs.declared.faults.DictFault.{DictFault}
use Rattle.shape_dict.specs.declared.faults.DictFault.TheVariants as fault
use Rattle.shape_dict.specs.Reading.{IsLine, AreLines, AreShapes, BeginsWith, HasFirstLine, IsAbove, IsLineFault, IsFirstFault, NextLine, IsNotRising, IsNotCanonical, last_shape, shape_after, lines_after}
use Rattle.shape_dict.proofs.Climbing.{shapes_of}

rises_push : (ws : List ℕ) (w : ℕ) → IsStrictlyIncreasing ws → (0 < length ws → get_or ws (length ws - 1) 0 < w) → IsStrictlyIncreasing (ws ++ w ∷ [])
rises_push ws w h above = λ k small. elim (cases_lt (k + 1) (length ws)) [
  | inl inside ↦ (let a = get_or_append_left ws (w ∷ []) 0 k (omega arith) in let b = get_or_append_left ws (w ∷ []) 0 (k + 1) inside in let c = h k inside in omega arith)
  | inr outside ↦ (let l = length_push ws w in let last : length ws ≡ k + 1 = omega arith in let before : length ws - 1 ≡ k = omega arith in let a = get_or_append_left ws (w ∷ []) 0 k (omega arith) in let b = get_or_push ws w 0 (k + 1) last in let c : get_or ws k 0 < w = rw before at (above (omega arith)) in omega arith)
]

-- shapes that rise still rise with one above the last
pub shapes_rise_more : (es : List Entry) (e : Entry) → IsStrictlyIncreasing (shapes_of es) → (0 < length es → get_or (shapes_of es) (length es - 1) 0 < e.shape) → IsStrictlyIncreasing (shapes_of (es ++ e ∷ []))
shapes_rise_more es e h above =
    let l = length-map es (λ (x : Entry). x.shape) in
    subst IsStrictlyIncreasing (sym (map_push (λ (x : Entry). x.shape) es e)) (rises_push (shapes_of es) e.shape h (λ some. rw l (above (omega arith))))

pub shapes_more : (es : List Entry) (e : Entry) → AreShapes es → (0 < length es → get_or (shapes_of es) (length es - 1) 0 < e.shape) → least_image e.shape ≡ e.shape → AreShapes (es ++ e ∷ [])
shapes_more es e h above canonical = record {
  rises = shapes_rise_more es e h.rises above;
  canonical = All-push (λ (x : Entry). least_image x.shape ≡ x.shape) es e h.canonical canonical;
}

pub lines_more : (header : Header) (place : ℕ) (es : List Entry) (e : Entry) → AreLines header place es → IsLine header (place + length es) e → AreLines header place (es ++ e ∷ [])
lines_more header place [] e h line = (let same : place + 0 ≡ place = omega arith in rw same at line, tt)
lines_more header place (f ∷ es) e h line =
    let same : place + suc (length es) ≡ place + 1 + length es = omega arith in
    (h.0, lines_more header (place + 1) es e h.1 (rw same at line))

regroup : (h f l left rest f2 : List ℕ) → left ≡ l ++ rest → f2 ≡ f ++ l → h ++ f ++ left ≡ h ++ f2 ++ rest
regroup h f l left rest f2 e k = ap (λ x. h ++ f ++ x) e ∙ (sym (append_assoc (h ++ f) l rest) ∙ ap (λ x. x ++ rest) (append_assoc h f l ∙ ap (λ x. h ++ x) (sym k)))

moved_on : (header : Header) (es : List Entry) (e : Entry) (left rest : List ℕ) → left ≡ line_text header.text e ++ rest → header_text header ++ flat_map (line_text header.text) es ++ left ≡ header_text header ++ flat_map (line_text header.text) (es ++ e ∷ []) ++ rest
moved_on header es e left rest same =
    regroup (header_text header) (flat_map (line_text header.text) es) (line_text header.text e) left rest (flat_map (line_text header.text) (es ++ e ∷ [])) same
    (flat_map-append (line_text header.text) es (e ∷ []) ∙ ap (λ x. flat_map (line_text header.text) es ++ x) (append-nil (line_text header.text e)))

pub begins_more : (whole : List ℕ) (header : Header) (es : List Entry) (e : Entry) (left rest : List ℕ) → BeginsWith whole header es left → length es < lines_after header → IsLine header (length es) e → left ≡ line_text header.text e ++ rest → AreShapes (es ++ e ∷ []) → BeginsWith whole header (es ++ e ∷ []) rest
begins_more whole header es e left rest h more line same shapes = record {
  is_header = h.is_header;
  lines = lines_more header 0 es e h.lines (let zero_more : 0 + length es ≡ length es = omega arith in rw zero_more line);
  shapes = shapes;
  few = let l = length_push es e in omega arith;
  same = h.same ∙ moved_on header es e left rest same;
}

pub not_rising : (whole : List ℕ) (header : Header) (es : List Entry) (e : Entry) (left rest : List ℕ) → BeginsWith whole header es left → length es < lines_after header → IsLine header (length es) e → left ≡ line_text header.text e ++ rest → 0 < length es → e.shape ≤ get_or (shapes_of es) (length es - 1) 0 → IsNotRising whole (length es + 2)
not_rising whole header es e left rest h more line same some falls =
    let i = length es - 1 in
    let last = get_or es i e in
    let next : NextLine whole header es e = record { left = left; rest = rest; begins = h; more = more; line = line; same = same } in
    let end : i + 1 ≡ length es = omega arith in
    let parts : es ≡ take i es ++ last ∷ [] = sym (take_all (i + 1) es (omega arith)) ∙ take_more es i e (omega arith) in
    let shape = get_or-map (λ (x : Entry). x.shape) es i e 0 (omega arith) in
    let count = ap length parts ∙ length_push (take i es) last in
    record { header = header; before = take i es; last = last; entry = e; next = subst (λ (x : List Entry). NextLine whole header x e) parts next; falls = omega arith; at = omega arith }

pub not_canonical : (whole : List ℕ) (header : Header) (es : List Entry) (e : Entry) (left rest : List ℕ) → BeginsWith whole header es left → length es < lines_after header → IsLine header (length es) e → left ≡ line_text header.text e ++ rest → (0 < length es → get_or (shapes_of es) (length es - 1) 0 < e.shape) → least_image e.shape ≢ e.shape → IsNotCanonical whole (length es + 2)
not_canonical whole header es e left rest h more line same above other = record {
  header = header;
  entries = es;
  entry = e;
  next = record { left = left; rest = rest; begins = h; more = more; line = line; same = same };
  rises = shapes_rise_more es e h.shapes.rises above;
  other = other;
  at = refl;
}

-- where lines were read, there was a first one
first_joined : (h l f left : List ℕ) → h ++ (l ++ f) ++ left ≡ h ++ (l ++ []) ++ (f ++ left)
first_joined h l f left =
    ap (λ x. x ++ left) (sym (append_assoc h l f)) ∙ (append_assoc (h ++ l) f left ∙ ap (λ x. h ++ x ++ (f ++ left)) (sym (append-nil l)))

all_first : (P : Entry → Type 0) (e : Entry) (es : List Entry) → All P (e ∷ es) → All P (e ∷ [])
all_first P e es h zero d small = h 0 d (omega arith)
all_first P e es h (suc k) d small = absurd (omega arith)

pub first_line : (whole : List ℕ) (header : Header) (es : List Entry) (left : List ℕ) → BeginsWith whole header es left → 0 < length es → HasFirstLine whole
first_line whole header [] left h some = absurd (omega arith)
first_line whole header (e ∷ es) left h some = record {
  header = header;
  entry = e;
  left = flat_map (line_text header.text) es ++ left;
  begins = record {
    is_header = h.is_header;
    lines = (h.lines.0, tt);
    shapes = record { rises = λ k small. absurd (omega arith); canonical = all_first (λ x. least_image x.shape ≡ x.shape) e es h.shapes.canonical };
    few = let all = h.few in omega arith;
    same = h.same ∙ first_joined (header_text header) (line_text header.text e) (flat_map (line_text header.text) es) left;
  };
}

-- the last shape is that at the last place
after_at : (last : Option ℕ) (e : Entry) (es : List Entry) → shape_after last (e ∷ es) ≡ Some (get_or (shapes_of (e ∷ es)) (length es) 0)
after_at last e [] = refl
after_at last e (f ∷ es) = after_at (Some e.shape) f es

pub last_at : (es : List Entry) → 0 < length es → last_shape es ≡ Some (get_or (shapes_of es) (length es - 1) 0)
last_at [] some = absurd (omega arith)
last_at (e ∷ es) some =
    let place : length es ≡ length (e ∷ es) - 1 = omega arith in
    after_at None e es ∙ ap (λ (i : ℕ). Some (get_or (shapes_of (e ∷ es)) i 0)) place

after_push : (last : Option ℕ) (es : List Entry) (e : Entry) → shape_after last (es ++ e ∷ []) ≡ Some e.shape
after_push last [] e = refl
after_push last (d ∷ es) e = after_push (Some d.shape) es e

pub last_push : (es : List Entry) (e : Entry) → last_shape (es ++ e ∷ []) ≡ Some e.shape
last_push es e = after_push None es e

above_last : (es : List Entry) (last : Option ℕ) (shape : ℕ) → last_shape es ≡ last → IsAbove last shape → 0 < length es → get_or (shapes_of es) (length es - 1) 0 < shape
above_last es None shape is above some = let at = last_at es some in absurd cc
above_last es (Some low) shape is above some = let at = last_at es some in let same : get_or (shapes_of es) (length es - 1) 0 ≡ low = cc in omega arith

falls_last : (es : List Entry) (last : Option ℕ) (shape : ℕ) → last_shape es ≡ last → (IsAbove last shape → ⊥) → (0 < length es) × (shape ≤ get_or (shapes_of es) (length es - 1) 0)
falls_last es None shape is falls = absurd (falls tt)
falls_last [] (Some low) shape is falls = absurd cc
falls_last (e ∷ es) (Some low) shape is falls =
    let at = last_at (e ∷ es) (omega arith) in
    let same : get_or (shapes_of (e ∷ es)) (length (e ∷ es) - 1) 0 ≡ low = cc in
    elim (cases_lt low shape) [ inl above ↦ absurd (falls above) | inr below ↦ (omega arith, omega arith) ]

-- one line more
pub entry_more : (whole : List ℕ) (header : Header) (es : List Entry) (e : Entry) (last : Option ℕ) (left rest : List ℕ) → BeginsWith whole header es left → length es < lines_after header → last_shape es ≡ last → IsLine header (length es) e → IsAbove last e.shape → least_image e.shape ≡ e.shape → left ≡ line_text header.text e ++ rest → BeginsWith whole header (es ++ e ∷ []) rest
entry_more whole header es e last left rest h more is line above canonical same =
    begins_more whole header es e left rest h more line same (shapes_more es e h.shapes (above_last es last e.shape is above) canonical)

-- a fault of a line is the first one of the whole
pub entry_fault : (whole : List ℕ) (header : Header) (es : List Entry) (last : Option ℕ) (left : List ℕ) (found : DictFault) → BeginsWith whole header es left → length es < lines_after header → last_shape es ≡ last → IsLineFault header (length es) last left found → IsFirstFault whole found
entry_fault whole header es last left (fault.BadLine line) h more is bad = record { header = header; entries = es; left = left; begins = h; more = more; none = bad.0; at = bad.1 }
entry_fault whole header es last left (fault.NotRising line) h more is bad =
    let falls = falls_last es last bad.0.entry.shape is bad.0.falls in
    rw bad.1 (not_rising whole header es bad.0.entry left bad.0.has.rest h more bad.0.has.line bad.0.has.same falls.0 falls.1)
entry_fault whole header es last left (fault.NotCanonical line) h more is bad =
    rw bad.1 (not_canonical whole header es bad.0.entry left bad.0.has.rest h more bad.0.has.line bad.0.has.same (above_last es last bad.0.entry.shape is bad.0.above) bad.0.other)
entry_fault whole header es last left fault.BadHeader h more is bad = absurd bad
entry_fault whole header es last left fault.WrongTotals h more is bad = absurd bad
entry_fault whole header es last left fault.Memory h more is bad = absurd bad
entry_fault whole header es last left fault.Overflow h more is bad = absurd bad
entry_fault whole header es last left fault.TooLarge h more is bad = absurd bad
entry_fault whole header es last left fault.MixedKinds h more is bad = absurd bad
