-- A text that is written part by part.
use Rattle.std.proofs.Common.{◌≡◌, ℕ, ◌+◌, ◌<◌, List, [], ◌∷◌, ◌++◌, length, get_or, take, drop, Option, Some, None, sym, refl, ap, subst, ◌∙◌, arith, length-append}
use Rattle.std.proofs.Math.Seq.{take-append-add}
use Rattle.std.specs.Prelude.{Vec}
use Rattle.std.specs.Global.{Global}
use Rattle.std.specs.Io.KnownBytes.{Appends}
use Rattle.std.proofs.lemmas.List.{append-nil, take_more, take-append-le, take-append-drop}
use Rattle.std.proofs.lemmas.List.Concat.{flat_map-append}
use Rattle.std.proofs.lemmas.List.Folds.{length-flat_map-take}
use Rattle.shape_dict.specs.Parts.{joined}
use Rattle.engine_core.specs.declared.faults.RunFault.TheVariants as fault
use Rattle.engine_core.specs.Output.{WroteFront}
use Rattle.engine_core.proofs.Known.{appended_more}

-- the bytes of one more part
joined_more : (parts : List (Vec ℕ Global)) (i : ℕ) (part : Vec ℕ Global) → i < length parts → part ≡ get_or parts i part → joined (take (i + 1) parts) ≡ joined (take i parts) ++ part.items
joined_more parts i part inside is =
    ap joined (take_more parts i part inside)
    ∙ (flat_map-append (λ p. p.items) (take i parts) (get_or parts i part ∷ [])
    ∙ (ap (λ bytes. joined (take i parts) ++ bytes) (append-nil (get_or parts i part).items)
    ∙ ap (λ p. joined (take i parts) ++ p.items) (sym is)))

-- the parts up to one of them, and a front of that one
front_taken : (parts : List (Vec ℕ Global)) (i : ℕ) (part : Vec ℕ Global) (before count : ℕ) → i < length parts → part ≡ get_or parts i part
    → before ≡ length (joined (take i parts)) → count < length part.items
    → joined (take i parts) ++ take count part.items ≡ take (before + count) (joined parts)
front_taken parts i part before count inside is same short =
    let front = joined (take i parts) in
    let rest = joined (drop (i + 1) parts) in
    let whole : joined parts ≡ (front ++ part.items) ++ rest =
    ap joined (sym (take-append-drop (i + 1) parts)) ∙ (flat_map-append (λ p. p.items) (take (i + 1) parts) (drop (i + 1) parts)
    ∙ ap (λ bytes. bytes ++ rest) (joined_more parts i part inside is)) in
    sym (ap (take (before + count)) whole
    ∙ (take-append-le (before + count) (front ++ part.items) rest (omega (arith, length-append front part.items))
    ∙ (ap (λ n. take (n + count) (front ++ part.items)) same ∙ take-append-add front part.items count)))

-- the write of a part failed
pub part_failed : (a b c : Option (List ℕ)) (parts : List (Vec ℕ Global)) (i : ℕ) (part : Vec ℕ Global) (before count : ℕ) → i < length parts → part ≡ get_or parts i part
    → before ≡ length (joined (take i parts)) → Appends a b (joined (take i parts)) → count < length part.items → Appends b c (take count part.items)
    → WroteFront a c (joined parts) (fault.Write (before + count))
part_failed a b c parts i part before count inside is same h short k = record {
  written = before + count;
  is_write = refl;
  short = omega (arith, length-flat_map-take (λ (p : Vec ℕ Global). p.items) parts i part inside, ap (λ (p : Vec ℕ Global). length p.items) is);
  out = subst (Appends a c) (front_taken parts i part before count inside is same short)
      (appended_more a b c (joined (take i parts)) (take count part.items) h k);
}

none_appended : (a : Option (List ℕ)) → Appends a a []
none_appended None = tt
none_appended (Some bytes) = sym (append-nil bytes)

-- no byte of a part is to be written
pub part_refused : (a b : Option (List ℕ)) (parts : List (Vec ℕ Global)) (i : ℕ) (part : Vec ℕ Global) (before : ℕ) → i < length parts → part ≡ get_or parts i part
    → before ≡ length (joined (take i parts)) → Appends a b (joined (take i parts)) → 0 < length part.items
    → WroteFront a b (joined parts) (fault.Write before)
part_refused a b parts i part before inside is same h some =
    let at : before + 0 ≡ before = omega arith in
    subst (λ n. WroteFront a b (joined parts) (fault.Write n)) at (part_failed a b b parts i part before 0 inside is same h some (none_appended b))
