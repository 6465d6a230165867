-- Where the join of two lists has small counts alone, so have both lists.
use Rattle.std.proofs.Common.{◌≡◌, ℕ, ◌≤◌, ◌+◌, ◌^◌, ◌⊎◌, inl, inr, List, [], ◌∷◌, ◌++◌, map, All, ap, subst, ◌∙◌, arith, Option, Some}
use Rattle.std.specs.List.{AllByRecursion}
use Rattle.std.proofs.lemmas.List.Elements.{All-from_recursion, recursion_from_All}
use Rattle.shape_dict.specs.declared.entries.Entry.{Entry}
use Rattle.shape_dict.specs.Merging.{moved_entry, summed_entry}
use Rattle.shape_dict.specs.Inner.Merging.{placed, merged}
use Rattle.shape_dict.proofs.Merging.{placed_left, placed_right, placed_both, three_ways}
use Rattle.merge_core.specs.Entries.{IsSmallUse, IsNextFault}
use Rattle.merge_core.specs.Inner.Trees.{Comes}
use Rattle.merge_core.specs.declared.heads.Heads.{Heads}
use Rattle.merge_core.specs.declared.entries.NextFault.{NextFault}
use Rattle.merge_core.specs.declared.entries.NextFault.TheVariants as fault

abbrev Small : List Entry → Type 0
Small es = AllByRecursion IsSmallUse es

small_moved : (games : ℕ) (r : List Entry) → Small (map (moved_entry games) r) → Small r
small_moved games [] h = tt
small_moved games (f ∷ r) h = (h.0, small_moved games r h.1)

small_summed : (e f : Entry) → IsSmallUse (summed_entry e f) → IsSmallUse e × IsSmallUse f
small_summed e f h = ((omega arith, omega arith), (omega arith, omega arith))

small_placed : (games : ℕ) (e : Entry) (l : List Entry) (rest : List Entry → List Entry) (above : (s : List Entry) → Small (rest s) → Small l × Small s) (r : List Entry) → Small (placed games e rest r) → Small (e ∷ l) × Small r
small_placed games e l rest above [] h = ((h.0, (above [] h.1).0), tt)
small_placed games e l rest above (f ∷ r) h = elim (three_ways e.shape f.shape) [
  | inl below ↦
      (let k = subst Small (placed_left games e f rest r below) h in let more = above (f ∷ r) k.1 in ((k.0, more.0), more.1))
  | inr (inl after) ↦
      (let k = subst Small (placed_right games e f rest r after) h in let more = small_placed games e l rest above r k.1 in (more.0, (k.0, more.1)))
  | inr (inr both) ↦
      (let k = subst Small (placed_both games e f rest r both) h in let more = above r k.1 in let two = small_summed e f k.0 in ((two.0, more.0), (two.1, more.1)))
]

pub small_merged : (games : ℕ) (l r : List Entry) → AllByRecursion IsSmallUse (merged games l r) → AllByRecursion IsSmallUse l × AllByRecursion IsSmallUse r
small_merged games [] r h = (tt, small_moved games r h)
small_merged games (e ∷ l) r h = small_placed games e l (merged games l) (λ s k. small_merged games l s k) r h

pub small_left : (games : ℕ) (l r : List Entry) → All IsSmallUse (merged games l r) → All IsSmallUse l
small_left games l r h = All-from_recursion IsSmallUse l (small_merged games l r (recursion_from_All IsSmallUse (merged games l r) h)).0

pub small_right : (games : ℕ) (l r : List Entry) → All IsSmallUse (merged games l r) → All IsSmallUse r
small_right games l r h = All-from_recursion IsSmallUse r (small_merged games l r (recursion_from_All IsSmallUse (merged games l r) h)).1

small_tail : (e : Entry) (l : List Entry) → All IsSmallUse (e ∷ l) → All IsSmallUse l
small_tail e l h = All-from_recursion IsSmallUse l (recursion_from_All IsSmallUse (e ∷ l) h).1

-- a fault of what follows on one side is one of the join
rest_left : (games : ℕ) (e : Entry) (l r all : List Entry) (found : NextFault) → all ≡ merged games (e ∷ l) r → IsNextFault l found → IsNextFault all found
rest_left games e l r all fault.Overflow is h = λ small. h (small_tail e l (small_left games (e ∷ l) r (subst (λ (x : List Entry). All IsSmallUse x) is small)))
rest_left games e l r all (fault.Read n) is h = tt
rest_left games e l r all fault.Changed is h = tt
rest_left games e l r all fault.Memory is h = tt

rest_right : (games : ℕ) (f : Entry) (l r all : List Entry) (found : NextFault) → all ≡ merged games l (f ∷ r) → IsNextFault r found → IsNextFault all found
rest_right games f l r all fault.Overflow is h = λ small. h (small_tail f r (small_right games l (f ∷ r) (subst (λ (x : List Entry). All IsSmallUse x) is small)))
rest_right games f l r all (fault.Read n) is h = tt
rest_right games f l r all fault.Changed is h = tt
rest_right games f l r all fault.Memory is h = tt

-- what is known of a pair whose heads are these
abbrev pub Paired : (List Entry → Type 0) → (List Entry → Type 0) → Heads → List Entry → Type 0
Paired Left Right heads all = (mine : List Entry) × (other : List Entry) × Comes heads.left Left mine × Comes heads.right Right other × (all ≡ merged heads.games mine other)

opened : (head : Option Entry) (e : Entry) (Rest : List Entry → Type 0) (es : List Entry) → head ≡ Some e → Comes head Rest es → (more : List Entry) × (es ≡ e ∷ more) × Rest more
opened head e Rest es is h = subst (λ (x : Option Entry). Comes x Rest es) is h

pub left_fault : (Left Right : List Entry → Type 0) (heads : Heads) (e : Entry) (all : List Entry) (found : NextFault) → Paired Left Right heads all → heads.left ≡ Some e → ((es : List Entry) → Left es → IsNextFault es found) → IsNextFault all found
left_fault Left Right heads e all found p is h =
    let o = opened heads.left e Left p.0 is p.2 in
    rest_left heads.games e o.0 p.1 all found (p.4 ∙ ap (λ (x : List Entry). merged heads.games x p.1) o.1) (h o.0 o.2)

pub right_fault : (Left Right : List Entry → Type 0) (heads : Heads) (f : Entry) (all : List Entry) (found : NextFault) → Paired Left Right heads all → heads.right ≡ Some f → ((es : List Entry) → Right es → IsNextFault es found) → IsNextFault all found
right_fault Left Right heads f all found p is h =
    let o = opened heads.right f Right p.1 is p.3 in
    rest_right heads.games f p.0 o.0 all found (p.4 ∙ ap (λ (x : List Entry). merged heads.games p.0 x) o.1) (h o.0 o.2)

-- and so is a sum that is too large
pub both_fault : (Left Right : List Entry → Type 0) (heads : Heads) (e f : Entry) (all : List Entry) → Paired Left Right heads all → heads.left ≡ Some e → heads.right ≡ Some f → e.shape ≡ f.shape →
    (2 ^ 64 ≤ e.there + f.there) ⊎ (2 ^ 64 ≤ e.played + f.played) → All IsSmallUse all → ⊥
both_fault Left Right heads e f all p left right same large small =
    let o = opened heads.left e Left p.0 left p.2 in
    let q = opened heads.right f Right p.1 right p.3 in
    let is : all ≡ merged heads.games (e ∷ o.0) (f ∷ q.0) = p.4 ∙ (ap (λ (x : List Entry). merged heads.games x p.1) o.1 ∙ ap (merged heads.games (e ∷ o.0)) q.1) in
    let k = subst Small (is ∙ placed_both heads.games e f (merged heads.games o.0) q.0 same) (recursion_from_All IsSmallUse all small) in
    let one : IsSmallUse (summed_entry e f) = k.0 in
    elim large [ inl a ↦ omega (arith, one.0) | inr a ↦ omega (arith, one.1) ]

small_rest : (given rest : List Entry) → Small (given ++ rest) → All IsSmallUse rest
small_rest [] rest h = All-from_recursion IsSmallUse rest h
small_rest (e ∷ given) rest h = small_rest given rest h.1

-- a fault of the last entries is one of all
pub fault_after : (given rest all : List Entry) (found : NextFault) → all ≡ given ++ rest → IsNextFault rest found → IsNextFault all found
fault_after given rest all fault.Overflow is h = λ small. h (small_rest given rest (recursion_from_All IsSmallUse (given ++ rest) (subst (λ (x : List Entry). All IsSmallUse x) is small)))
fault_after given rest all (fault.Read n) is h = tt
fault_after given rest all fault.Changed is h = tt
fault_after given rest all fault.Memory is h = tt

-- a fault of either side is one of the join
pub fault_of_left : (games : ℕ) (l r : List Entry) (found : NextFault) → IsNextFault l found → IsNextFault (merged games l r) found
fault_of_left games l r fault.Overflow h = λ small. h (small_left games l r small)
fault_of_left games l r (fault.Read n) h = tt
fault_of_left games l r fault.Changed h = tt
fault_of_left games l r fault.Memory h = tt

pub fault_of_right : (games : ℕ) (l r : List Entry) (found : NextFault) → IsNextFault r found → IsNextFault (merged games l r) found
fault_of_right games l r fault.Overflow h = λ small. h (small_right games l r small)
fault_of_right games l r (fault.Read n) h = tt
fault_of_right games l r fault.Changed h = tt
fault_of_right games l r fault.Memory h = tt
