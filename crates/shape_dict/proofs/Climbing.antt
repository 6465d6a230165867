-- Entries whose shapes rise, and the entry of a shape among them.
use Rattle.std.proofs.Common.{◌≡◌, ◌≢◌, ℕ, zero, suc, ◌+◌, ◌<◌, ◌≤◌, List, [], ◌∷◌, length, map, get_or, drop, sym, refl, ap, ◌∙◌, arith, add-one, Some, None}
use Rattle.std.proofs.lemmas.Bool.Decides.{nat_tests}
use Rattle.std.proofs.lemmas.List.{get_or-map, drop_more}
use Rattle.std.specs.List.Sorted.{IsStrictlyIncreasing}
use Rattle.shape_dict.specs.declared.entries.Entry.{Entry}
use Rattle.shape_dict.specs.Contents.{entry_of}
use Rattle.shape_dict.specs.Inner.Merging.{Climbs}

abbrev pub shapes_of : List Entry → List ℕ
shapes_of es = map (λ (e : Entry). e.shape) es

-- without its first number a rising list rises
pub rises-tail : (w : ℕ) (ws : List ℕ) → IsStrictlyIncreasing (w ∷ ws) → IsStrictlyIncreasing ws
rises-tail w ws h = λ k small. let deep : suc k + 1 < suc (length ws) = omega arith in rw add-one (rw add-one at (h (suc k) deep))

pub climbs_from_head : (e : Entry) (es : List Entry) → IsStrictlyIncreasing (shapes_of (e ∷ es)) → Climbs (suc e.shape) es
climbs_from_head e [] h = tt
climbs_from_head e (f ∷ es) h =
    let first : e.shape < f.shape = h 0 (omega arith) in
    (omega arith, climbs_from_head f es (rises-tail e.shape (shapes_of (f ∷ es)) h))

pub climbs_from_rises : (es : List Entry) → IsStrictlyIncreasing (shapes_of es) → Climbs 0 es
climbs_from_rises [] h = tt
climbs_from_rises (e ∷ es) h = (omega arith, climbs_from_head e es h)

rises_at : (e f : Entry) (es : List Entry) → suc e.shape ≤ f.shape → IsStrictlyIncreasing (shapes_of (f ∷ es)) → IsStrictlyIncreasing (shapes_of (e ∷ f ∷ es))
rises_at e f es low h zero small = omega arith
rises_at e f es low h (suc k) small = let deep : k + 1 < suc (length (shapes_of es)) = omega arith in rw add-one (rw add-one at (h k deep))

pub rises_from_climbs : (least : ℕ) (es : List Entry) → Climbs least es → IsStrictlyIncreasing (shapes_of es)
rises_from_climbs least [] h = λ k small. absurd (omega arith)
rises_from_climbs least (e ∷ []) h = λ k small. absurd (omega arith)
rises_from_climbs least (e ∷ f ∷ es) h = λ k small. rises_at e f es h.1.0 (rises_from_climbs (suc e.shape) (f ∷ es) h.1) k small

pub climbs_lower : (low least : ℕ) (es : List Entry) → low ≤ least → Climbs least es → Climbs low es
climbs_lower low least [] h k = tt
climbs_lower low least (e ∷ es) h k = (omega arith, k.1)

-- a shape below all is the shape of none
pub absent_below : (shape least : ℕ) (es : List Entry) → shape < least → Climbs least es → entry_of shape es ≡ None
absent_below shape least [] h k = refl
absent_below shape least (e ∷ es) h k =
    let more = absent_below shape (suc e.shape) es (omega arith) k.1 in grind (arith, nat_tests)

-- all but the first entries whose shapes are smaller may be left out
pub found_after : (shape : ℕ) (es : List Entry) (i : ℕ) → ((k : ℕ) → k < i → k < length es → get_or (shapes_of es) k 0 < shape) → entry_of shape (drop i es) ≡ entry_of shape es
found_after shape es zero h = refl
found_after shape [] (suc i) h = refl
found_after shape (e ∷ es) (suc i) h =
    let first : e.shape < shape = h 0 (omega arith) (omega arith) in
    let more = found_after shape es i (λ k small few. h (suc k) (omega arith) (omega arith)) in
    grind (arith, nat_tests)

-- the entry at a place has a shape at least that of those before
pub climbs_drop : (least : ℕ) (es : List Entry) (i : ℕ) → Climbs least es → Climbs least (drop i es)
climbs_drop least es zero h = h
climbs_drop least [] (suc i) h = tt
climbs_drop least (e ∷ es) (suc i) h = climbs_drop least es i (climbs_lower least (suc e.shape) es (omega arith) h.1)

above_at : (least : ℕ) (es : List Entry) (j : ℕ) → Climbs least es → j < length es → least ≤ get_or (shapes_of es) j 0
above_at least [] j h small = absurd (omega arith)
above_at least (e ∷ es) zero h small = h.0
above_at least (e ∷ es) (suc j) h small = let more = above_at (suc e.shape) es j h.1 (omega arith) in omega arith

-- the shapes at places rise
pub shapes_rise : (least : ℕ) (es : List Entry) (i j : ℕ) → Climbs least es → i < j → j < length es → get_or (shapes_of es) i 0 < get_or (shapes_of es) j 0
shapes_rise least [] i j h low high = absurd (omega arith)
shapes_rise least (e ∷ es) i zero h low high = absurd (omega arith)
shapes_rise least (e ∷ es) zero (suc j) h low high = above_at (suc e.shape) es j h.1 (omega arith)
shapes_rise least (e ∷ es) (suc i) (suc j) h low high = shapes_rise (suc e.shape) es i j h.1 (omega arith) (omega arith)

-- the entry of the shape is the first that is not smaller, or there is none
pub found_first : (shape : ℕ) (e : Entry) (es : List Entry) → e.shape ≡ shape → entry_of shape (e ∷ es) ≡ Some e
found_first shape e es h = grind (arith, nat_tests)

-- what reading an entry at a place says of its shape
pub shape_read : (es : List Entry) (i : ℕ) (e : Entry) → i < length es → e ≡ get_or es i e → get_or (shapes_of es) i 0 ≡ e.shape
shape_read es i e small is = get_or-map (λ (x : Entry). x.shape) es i e 0 small ∙ ap (λ (x : Entry). x.shape) (sym is)

-- the first entry that is not smaller
pub found_at : (shape : ℕ) (es : List Entry) (i : ℕ) (e : Entry) → i < length es → e ≡ get_or es i e → e.shape ≡ shape → ((k : ℕ) → k < i → get_or (shapes_of es) k 0 < shape) → entry_of shape es ≡ Some e
found_at shape es i e small is same below =
    sym (found_after shape es i (λ k lower few. below k lower)) ∙ ap (entry_of shape) (drop_more es i e small ∙ ap (λ x. x ∷ drop (i + 1) es) (sym is))
    ∙ found_first shape e (drop (i + 1) es) same

-- none where all that follow are greater
pub found_none : (shape : ℕ) (es : List Entry) (i : ℕ) → ((k : ℕ) → k < length es → get_or (shapes_of es) k 0 ≢ shape) → entry_of shape es ≡ None
found_none shape [] i h = refl
found_none shape (e ∷ es) i h =
    let first : e.shape ≢ shape = h 0 (omega arith) in
    let more = found_none shape es i (λ k small. h (suc k) (omega arith)) in
    grind (arith, nat_tests)

-- the shape of the entry at a place
pub shape_at : (es : List Entry) (i : ℕ) (d : Entry) → i < length es → get_or (shapes_of es) i 0 ≡ (get_or es i d).shape
shape_at es i d small = get_or-map (λ (x : Entry). x.shape) es i d 0 small

-- the entry at a place is that of its shape
pub found_here : (es : List Entry) (i : ℕ) (e : Entry) → IsStrictlyIncreasing (shapes_of es) → i < length es → e ≡ get_or es i e → entry_of e.shape es ≡ Some e
found_here es i e rises small is =
    found_at e.shape es i e small is refl (λ k low. let here = shape_read es i e small is in let h = shapes_rise 0 es k i (climbs_from_rises es rises) low small in omega arith)
