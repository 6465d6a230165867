-- Joins are alone: two have one join.
use Rattle.std.proofs.Common.{◌≡◌, ◌≢◌, ℕ, suc, ◌<◌, inl, inr, List, [], ◌∷◌, sym, refl, ap, subst, ◌∙◌, arith, Option, Some, None, Bool}
use Rattle.std.proofs.lemmas.Bool.{cases_lt}
use Rattle.std.proofs.lemmas.Bool.Decides.{nat_tests}
use Rattle.shape_dict.specs.declared.entries.Entry.{Entry}
use Rattle.shape_dict.specs.Contents.{Contents, entry_of}
use Rattle.shape_dict.specs.Join.{IsJoin}
use Rattle.shape_dict.specs.Inner.Merging.{Climbs}
use Rattle.shape_dict.proofs.Climbing.{absent_below, climbs_from_rises, found_first}
use Rattle.shape_dict.proofs.Merging.{three_ways}
use Rattle.merge_core.specs.Inner.Folds.{Folds}

pub missed : (shape : ℕ) (e : Entry) (es : List Entry) → e.shape ≢ shape → entry_of shape (e ∷ es) ≡ entry_of shape es
missed shape e es h = grind (arith, nat_tests)

none_is_some : (e : Entry) → ◌≡◌ {A = Option Entry} None (Some e) → ⊥
none_is_some e h = cc

some_same : (d e : Entry) → Some d ≡ Some e → d ≡ e
some_same d e h = cc

-- what follows two equal heads
rest_same : (x y : Entry) (xs ys : List Entry) → x.shape ≡ y.shape → Climbs (suc x.shape) xs → Climbs (suc x.shape) ys → ((shape : ℕ) → entry_of shape (x ∷ xs) ≡ entry_of shape (y ∷ ys)) →
    (shape : ℕ) → entry_of shape xs ≡ entry_of shape ys
rest_same x y xs ys equal h k same shape = elim (cases_lt x.shape shape) [
  | inl above ↦
      (let one : x.shape ≢ shape = omega arith in
      let two : y.shape ≢ shape = omega arith in
      sym (missed shape x xs one) ∙ (same shape ∙ missed shape y ys two))
  | inr low ↦
      (let small : shape < suc x.shape = omega arith in
      absent_below shape (suc x.shape) xs small h ∙ sym (absent_below shape (suc x.shape) ys small k))
]

-- two rising lists with the same entry for each shape are one
pub entries_same : (low : ℕ) (xs ys : List Entry) → Climbs low xs → Climbs low ys → ((shape : ℕ) → entry_of shape xs ≡ entry_of shape ys) → xs ≡ ys
entries_same low [] [] h k same = refl
entries_same low [] (y ∷ ys) h k same = absurd (none_is_some y (same y.shape ∙ found_first y.shape y ys refl))
entries_same low (x ∷ xs) [] h k same = absurd (none_is_some x (sym (same x.shape) ∙ found_first x.shape x xs refl))
entries_same low (x ∷ xs) (y ∷ ys) h k same = elim (three_ways x.shape y.shape) [
  | inl below ↦ absurd (none_is_some x (sym (same x.shape ∙ absent_below x.shape y.shape (y ∷ ys) below (omega arith, k.1)) ∙ found_first x.shape x xs refl))
  | inr (inl above) ↦ absurd (none_is_some y (sym (absent_below y.shape x.shape (x ∷ xs) above (omega arith, h.1)) ∙ (same y.shape ∙ found_first y.shape y ys refl)))
  | inr (inr equal) ↦
      (let head = some_same x y (sym (found_first x.shape x xs refl) ∙ (same x.shape ∙ found_first x.shape y ys (sym equal))) in
      let after : Climbs (suc x.shape) ys = subst (λ (s : ℕ). Climbs (suc s) ys) (sym equal) k.1 in
      ap (λ (e : Entry). e ∷ xs) head ∙ ap (λ (zs : List Entry). y ∷ zs) (entries_same (suc x.shape) xs ys h.1 after (rest_same x y xs ys equal h.1 after same)))
]

abbrev contents_by : ℕ → ℕ → List Entry → Bool → Contents
contents_by games moves entries counts = record { games = games; moves = moves; entries = entries; counts_diamonds = counts }

contents_same : (x y : Contents) → x.games ≡ y.games → x.moves ≡ y.moves → x.entries ≡ y.entries → x.counts_diamonds ≡ y.counts_diamonds → x ≡ y
contents_same x y a b c d =
    ap (λ (n : ℕ). contents_by n x.moves x.entries x.counts_diamonds) a ∙ (ap (λ (n : ℕ). contents_by y.games n x.entries x.counts_diamonds) b
    ∙ (ap (λ (es : List Entry). contents_by y.games y.moves es x.counts_diamonds) c ∙ ap (λ (k : Bool). contents_by y.games y.moves y.entries k) d))

pub join_same : (a b x y : Contents) → IsJoin a b x → IsJoin a b y → x ≡ y
join_same a b x y p q =
    contents_same x y (p.games ∙ sym q.games) (p.moves ∙ sym q.moves)
    (entries_same 0 x.entries y.entries (climbs_from_rises x.entries p.dictionary.rises) (climbs_from_rises y.entries q.dictionary.rises) (λ shape. p.entries shape ∙ sym (q.entries shape)))
    (p.kinds ∙ sym q.kinds)

pub folds_same : (first : Contents) (others : List Contents) (x y : Contents) → Folds first others x → Folds first others y → x ≡ y
folds_same first [] x y h k = h ∙ sym k
folds_same first (next ∷ others) x y h k =
    folds_same h.0 others x y h.2 (subst (λ (b : Contents). Folds b others y) (sym (join_same first next h.0 k.0 h.1 k.1)) k.2)
