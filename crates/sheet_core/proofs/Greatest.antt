-- How often the pattern of a kind was there which was there most often, pattern by pattern.
use Rattle.std.proofs.Common.{◌≡◌, ℕ, max, List, ◌∷◌, Bool, true, false, cond, Option, Some, ap, unwrap_or}
use Rattle.shape_core.specs.declared.words.Kind.{Kind}
use Rattle.shape_dict.specs.declared.entries.Entry.{Entry}
use Rattle.shape_dict.specs.Contents.{is_of, of_kind}
use Rattle.sheet_core.specs.Empty.{most_after}

pub most_stays : (k : Kind) (most : Option ℕ) (e : Entry) (rest : List Entry) → is_of k e ≡ false → most_after most (of_kind k (e ∷ rest)) ≡ most_after most (of_kind k rest)
most_stays k most e rest is = ap (λ (b : Bool). most_after most (cond b (e ∷ of_kind k rest) (of_kind k rest))) is

pub most_grows : (k : Kind) (most : Option ℕ) (e : Entry) (rest : List Entry) → is_of k e ≡ true → most_after most (of_kind k (e ∷ rest)) ≡ most_after (Some (max (unwrap_or most 0) e.there)) (of_kind k rest)
most_grows k most e rest is = ap (λ (b : Bool). most_after most (cond b (e ∷ of_kind k rest) (of_kind k rest))) is
