-- The join of two rising lists of entries: it rises, each pattern is what the two say of it, and the plays add up.
use Rattle.std.proofs.Common.{◌≡◌, ◌≢◌, ℕ, suc, ◌<◌, ◌≤◌, ◌⊎◌, inl, inr, List, [], ◌∷◌, map, sym, refl, ap, ◌∙◌, arith, Option, Some, None, Bool, cond, true, false, ltb}
use Rattle.std.specs.List.{AllByRecursion}
use Rattle.std.proofs.lemmas.Bool.Decides.{nat_tests}
use Rattle.std.proofs.lemmas.Bool.{cases_lt}
use Rattle.shape_dict.specs.declared.entries.Entry.{Entry}
use Rattle.shape_dict.specs.Contents.{entry_of}
use Rattle.shape_dict.specs.Join.{joined_entry}
use Rattle.shape_dict.specs.Merging.{moved_entry, summed_entry}
use Rattle.shape_dict.specs.Inner.Merging.{Climbs, placed, merged}
use Rattle.shape_dict.proofs.Climbing.{absent_below, climbs_lower}

pub placed_left : (games : ℕ) (e f : Entry) (rest : List Entry → List Entry) (r : List Entry) → e.shape < f.shape → placed games e rest (f ∷ r) ≡ e ∷ rest (f ∷ r)
placed_left games e f rest r h = grind (arith, nat_tests)

pub placed_right : (games : ℕ) (e f : Entry) (rest : List Entry → List Entry) (r : List Entry) → f.shape < e.shape → placed games e rest (f ∷ r) ≡ moved_entry games f ∷ placed games e rest r
placed_right games e f rest r h = grind (arith, nat_tests)

pub placed_both : (games : ℕ) (e f : Entry) (rest : List Entry → List Entry) (r : List Entry) → e.shape ≡ f.shape → placed games e rest (f ∷ r) ≡ summed_entry e f ∷ rest r
placed_both games e f rest r h = grind (arith, nat_tests)

-- two numbers compare in one of three ways
pub three_ways : (a b : ℕ) → (a < b) ⊎ ((b < a) ⊎ (a ≡ b))
three_ways a b = elim (cases_lt a b) [ inl h ↦ inl h | inr h ↦ elim (cases_lt b a) [ inl k ↦ inr (inl k) | inr k ↦ inr (inr (omega arith)) ] ]

-- where one list has ended, the other is taken as it is
pub merged_nil : (games : ℕ) (l : List Entry) → merged games l [] ≡ l
merged_nil games [] = refl
merged_nil games (e ∷ l) = ap (λ x. e ∷ x) (merged_nil games l)

-- the shapes rise
climbs_moved : (least games : ℕ) (r : List Entry) → Climbs least r → Climbs least (map (moved_entry games) r)
climbs_moved least games [] h = tt
climbs_moved least games (f ∷ r) h = (h.0, climbs_moved (suc f.shape) games r h.1)

climbs_placed : (least games : ℕ) (e : Entry) (rest : List Entry → List Entry) (above : (s : List Entry) → Climbs (suc e.shape) s → Climbs (suc e.shape) (rest s)) (r : List Entry) → least ≤ e.shape → Climbs least r → Climbs least (placed games e rest r)
climbs_placed least games e rest above [] low h = (low, above [] tt)
climbs_placed least games e rest above (f ∷ r) low h = elim (three_ways e.shape f.shape) [
  | inl below ↦ rw (placed_left games e f rest r below) (low, above (f ∷ r) (omega arith, h.1))
  | inr (inl after) ↦ rw (placed_right games e f rest r after) (h.0, climbs_placed (suc f.shape) games e rest above r (omega arith) h.1)
  | inr (inr same) ↦ rw (placed_both games e f rest r same) (low, above r (climbs_lower (suc e.shape) (suc f.shape) r (omega arith) h.1))
]

pub climbs_merged : (least games : ℕ) (l r : List Entry) → Climbs least l → Climbs least r → Climbs least (merged games l r)
climbs_merged least games [] r h k = climbs_moved least games r k
climbs_merged least games (e ∷ l) r h k = climbs_placed least games e (merged games l) (λ s. climbs_merged (suc e.shape) games l s h.1) r h.0 k

-- each entry is one of the left, a moved one of the right, or a sum
each_moved : (games : ℕ) (Q R : Entry → Type 0) (moves : (f : Entry) → Q f → R (moved_entry games f)) (r : List Entry) → AllByRecursion Q r → AllByRecursion R (map (moved_entry games) r)
each_moved games Q R moves [] h = tt
each_moved games Q R moves (f ∷ r) h = (moves f h.0, each_moved games Q R moves r h.1)

either : (P : List Entry → Type 0) (b : Bool) (x y : List Entry) → P x → P y → P (cond b x y)
either P true x y p q = p
either P false x y p q = q

each_placed : (games : ℕ) (P Q R : Entry → Type 0) (keeps : (e : Entry) → P e → R e) (moves : (f : Entry) → Q f → R (moved_entry games f)) (sums : (e f : Entry) → P e → Q f → R (summed_entry e f)) (e : Entry) (rest : List Entry → List Entry) (above : (s : List Entry) → AllByRecursion Q s → AllByRecursion R (rest s)) (r : List Entry) → P e → AllByRecursion Q r → AllByRecursion R (placed games e rest r)
each_placed games P Q R keeps moves sums e rest above [] p h = (keeps e p, above [] tt)
each_placed games P Q R keeps moves sums e rest above (f ∷ r) p h =
    either (AllByRecursion R) (ltb e.shape f.shape) (e ∷ rest (f ∷ r)) (cond (ltb f.shape e.shape) (moved_entry games f ∷ placed games e rest r) (summed_entry e f ∷ rest r))
    (keeps e p, above (f ∷ r) h)
    (either (AllByRecursion R) (ltb f.shape e.shape) (moved_entry games f ∷ placed games e rest r) (summed_entry e f ∷ rest r)
    (moves f h.0, each_placed games P Q R keeps moves sums e rest above r p h.1) (sums e f p h.0, above r h.1))

pub each_merged : (games : ℕ) (P Q R : Entry → Type 0) (keeps : (e : Entry) → P e → R e) (moves : (f : Entry) → Q f → R (moved_entry games f)) (sums : (e f : Entry) → P e → Q f → R (summed_entry e f)) (l r : List Entry) → AllByRecursion P l → AllByRecursion Q r → AllByRecursion R (merged games l r)
each_merged games P Q R keeps moves sums [] r h k = each_moved games Q R moves r k
each_merged games P Q R keeps moves sums (e ∷ l) r h k =
    each_placed games P Q R keeps moves sums e (merged games l) (λ s. each_merged games P Q R keeps moves sums l s h.1) r h.0 k

-- the entry of a shape, first or not
hit : (shape : ℕ) (e : Entry) (es : List Entry) → e.shape ≡ shape → entry_of shape (e ∷ es) ≡ Some e
hit shape e es h = grind (arith, nat_tests)

miss : (shape : ℕ) (e : Entry) (es : List Entry) → e.shape ≢ shape → entry_of shape (e ∷ es) ≡ entry_of shape es
miss shape e es h = grind (arith, nat_tests)

same_or_not : (a b : ℕ) → (a ≡ b) ⊎ (a ≢ b)
same_or_not a b = elim (three_ways a b) [ inl h ↦ inr (λ e. omega arith) | inr (inl h) ↦ inr (λ e. omega arith) | inr (inr h) ↦ inl h ]

found_moved : (shape games : ℕ) (r : List Entry) → entry_of shape (map (moved_entry games) r) ≡ joined_entry games None (entry_of shape r)
found_moved shape games [] = refl
found_moved shape games (f ∷ r) = elim (same_or_not f.shape shape) [
  | inl same ↦ rw (hit shape f r same) (hit shape (moved_entry games f) (map (moved_entry games) r) same)
  | inr other ↦ rw (miss shape f r other) (miss shape (moved_entry games f) (map (moved_entry games) r) other ∙ found_moved shape games r)
]

joined_left : (games : ℕ) (x : Option Entry) (e : Entry) → x ≡ None → joined_entry games (Some e) x ≡ Some e
joined_left games x e h = rw h refl

joined_right : (games : ℕ) (x : Option Entry) (f : Entry) → x ≡ None → joined_entry games x (Some f) ≡ Some (moved_entry games f)
joined_right games x f h = rw h refl

found_placed : (shape least games : ℕ) (e : Entry) (l : List Entry) (rest : List Entry → List Entry) (above : (low : ℕ) (s : List Entry) → Climbs low s → entry_of shape (rest s) ≡ joined_entry games (entry_of shape l) (entry_of shape s)) (r : List Entry) → Climbs (suc e.shape) l → Climbs least r → entry_of shape (placed games e rest r) ≡ joined_entry games (entry_of shape (e ∷ l)) (entry_of shape r)
found_placed shape least games e l rest above [] h k = elim (same_or_not e.shape shape) [
  | inl same ↦ hit shape e (rest []) same ∙ ap (λ x. joined_entry games x None) (sym (hit shape e l same))
  | inr other ↦ miss shape e (rest []) other ∙ (above 0 [] tt ∙ ap (λ x. joined_entry games x None) (sym (miss shape e l other)))
]
found_placed shape least games e l rest above (f ∷ r) h k = elim (three_ways e.shape f.shape) [
  | inl below ↦ ap (entry_of shape) (placed_left games e f rest r below) ∙ elim (same_or_not e.shape shape) [
    | inl same ↦ hit shape e (rest (f ∷ r)) same ∙ sym (ap (λ x. joined_entry games x (entry_of shape (f ∷ r))) (hit shape e l same) ∙ joined_left games (entry_of shape (f ∷ r)) e (absent_below shape f.shape (f ∷ r) (omega arith) (omega arith, k.1)))
    | inr other ↦ miss shape e (rest (f ∷ r)) other ∙ (above f.shape (f ∷ r) (omega arith, k.1) ∙ ap (λ x. joined_entry games x (entry_of shape (f ∷ r))) (sym (miss shape e l other)))
  ]
  | inr (inl after) ↦ ap (entry_of shape) (placed_right games e f rest r after) ∙ elim (same_or_not f.shape shape) [
    | inl same ↦ hit shape (moved_entry games f) (placed games e rest r) same ∙ sym (ap (joined_entry games (entry_of shape (e ∷ l))) (hit shape f r same) ∙ joined_right games (entry_of shape (e ∷ l)) f (absent_below shape e.shape (e ∷ l) (omega arith) (omega arith, h)))
    | inr other ↦ miss shape (moved_entry games f) (placed games e rest r) other ∙ (found_placed shape (suc f.shape) games e l rest above r h k.1 ∙ ap (joined_entry games (entry_of shape (e ∷ l))) (sym (miss shape f r other)))
  ]
  | inr (inr both) ↦ ap (entry_of shape) (placed_both games e f rest r both) ∙ elim (same_or_not e.shape shape) [
    | inl same ↦ hit shape (summed_entry e f) (rest r) same ∙ sym (ap (λ x. joined_entry games x (entry_of shape (f ∷ r))) (hit shape e l same) ∙ ap (joined_entry games (Some e)) (hit shape f r (omega arith)))
    | inr other ↦ (let else : f.shape ≢ shape = omega arith in miss shape (summed_entry e f) (rest r) other ∙ (above (suc f.shape) r k.1 ∙ sym (ap (λ x. joined_entry games x (entry_of shape (f ∷ r))) (miss shape e l other) ∙ ap (joined_entry games (entry_of shape l)) (miss shape f r else))))
  ]
]

pub found_merged : (shape low least games : ℕ) (l r : List Entry) → Climbs low l → Climbs least r → entry_of shape (merged games l r) ≡ joined_entry games (entry_of shape l) (entry_of shape r)
found_merged shape low least games [] r h k = found_moved shape games r
found_merged shape low least games (e ∷ l) r h k =
    found_placed shape least games e l (merged games l) (λ high s. found_merged shape (suc e.shape) high games l s h.1) r h.1 k
