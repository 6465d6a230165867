-- Texts that are written as they are made.
use Rattle.std.proofs.Common.{◌≡◌, ℕ, ◌+◌, ◌-◌, ◌≤◌, ◌<◌, List, [], ◌∷◌, ◌++◌, length, take, drop, ap, sym, refl, subst, ◌∙◌, arith, append_assoc, Option, Some, None, take-add, take-append-drop, length-append, length-take}
use Rattle.std.proofs.lemmas.List.{take_all, take_at, append-nil, length-drop}
use Rattle.std.specs.List.{flat_map}
use Rattle.std.proofs.lemmas.List.Concat.{flat_map-append}
use Rattle.std.proofs.lemmas.List.Elements.{filter-append}
use Rattle.std.specs.Io.KnownBytes.{Appends}
use Rattle.shape_dict.specs.declared.entries.Entry.{Entry}
use Rattle.shape_dict.specs.declared.entries.Text.{Text}
use Rattle.shape_dict.specs.Inner.Parts.{lines_of as text_lines}
use Rattle.shape_dict.specs.declared.entries.Text.TheVariants as kind
use Rattle.shape_dict.specs.Contents.{is_square, squares_of}
use Rattle.shape_dict.specs.Text.{line_text}
use Rattle.merge_core.specs.declared.faults.MergeFault.{MergeFault}
use Rattle.merge_core.specs.declared.entries.NextFault.{NextFault}
use Rattle.merge_core.specs.declared.entries.NextFault.TheVariants as next_fault
use Rattle.merge_core.specs.declared.forms.Form.{Form}
use Rattle.merge_core.specs.Entries.{IsNext}
use Rattle.merge_core.specs.Merge.{Took, written_of}
use Rattle.merge_core.specs.Least.{kept}
use Rattle.merge_core.specs.Inner.Writing.{lines_of, stopped, IsCutIn, WroteSome, HasPushed, IsOutSoFar, IsStopped}
use Rattle.merge_core.proofs.Kept.{kept_append}

no_text : (t : Text) → text_lines t [] ≡ []
no_text kind.One = refl
no_text kind.Two = refl
no_text kind.Three = refl

pub no_lines : (text : Form) → lines_of text [] ≡ []
no_lines text = no_text text.text

text_append : (t : Text) (xs ys : List Entry) → text_lines t (xs ++ ys) ≡ text_lines t xs ++ text_lines t ys
text_append kind.One xs ys = ap (flat_map (line_text kind.One)) (filter-append is_square xs ys) ∙ flat_map-append (line_text kind.One) (squares_of xs) (squares_of ys)
text_append kind.Two xs ys = flat_map-append (line_text kind.Two) xs ys
text_append kind.Three xs ys = flat_map-append (line_text kind.Three) xs ys

pub lines_append : (text : Form) (xs ys : List Entry) → lines_of text (xs ++ ys) ≡ lines_of text xs ++ lines_of text ys
lines_append text xs ys = ap (text_lines text.text) (kept_append text.least xs ys) ∙ text_append text.text (kept text.least xs) (kept text.least ys)

pub appended_more : (a b c : Option (List ℕ)) (xs ys : List ℕ) → Appends a b xs → Appends b c ys → Appends a c (xs ++ ys)
appended_more None b c xs ys h k = tt
appended_more (Some before) None c xs ys h k = absurd h
appended_more (Some before) (Some between) None xs ys h k = absurd k
appended_more (Some before) (Some between) (Some after) xs ys h k = k ∙ ap (λ zs. zs ++ ys) h ∙ append_assoc before xs ys

-- the given number of further bytes of a text was written
pub written_more : (a b c : Option (List ℕ)) (text : List ℕ) (at n : ℕ) → Appends a b (take at text) → Appends b c (take n (take (length text - at) (drop at text))) → Appends a c (take (at + n) text)
written_more a b c text at n h k =
    let rest : take (length text - at) (drop at text) ≡ drop at text = take_all (length text - at) (drop at text) (rw length-drop (omega arith)) in
    let next : Appends b c (take n (drop at text)) = subst (λ xs. Appends b c (take n xs)) rest k in
    subst (λ xs. Appends a c xs) (sym (take-add at n text)) (appended_more a b c (take at text) (take n (drop at text)) h next)

pub none_appended : (a : Option (List ℕ)) → Appends a a []
none_appended None = tt
none_appended (Some bytes) = sym (append-nil bytes)

-- what is pending was written
pub wrote_all : (old new : List ℕ) (a b : Option (List ℕ)) (written count : ℕ) → new ≡ [] → count ≡ written + length old → Appends a b old → WroteSome old new a b written count
wrote_all old new a b written count none is h = record { out = old; parts = sym (ap (λ (xs : List ℕ). old ++ xs) none ∙ append-nil old); count_is = is; appends = h }

pub wrote_none : (old : List ℕ) (a : Option (List ℕ)) (written : ℕ) → WroteSome old old a a written written
wrote_none old a written = record { out = []; parts = refl; count_is = omega arith; appends = none_appended a }

-- nothing is out at the beginning
pub nothing_out : (a : Option (List ℕ)) (P : List ℕ → Type 0) → P [] → IsOutSoFar a a 0 P
nothing_out a P h = record { done = []; appends = none_appended a; count = refl; known = h }

pub nothing_pushed : (text : Form) (header : List ℕ) (Rest : List Entry → Type 0) (all : List Entry) → Rest all → HasPushed text header [] header Rest all
nothing_pushed text header Rest all h = record { given = []; others = all; parts = refl; same = ap (λ (xs : List ℕ). header ++ xs) (no_lines text) ∙ append-nil header; rest = h }

-- one entry more is pushed
pub pushed_more : (text : Form) (header done pending : List ℕ) (Rest After : List Entry → Type 0) (all : List Entry) (e : Entry) → HasPushed text header done pending Rest all → ((es : List Entry) → Rest es → IsNext After es (Some e)) →
    HasPushed text header done (pending ++ lines_of text (e ∷ [])) After all
pushed_more text header done pending Rest After all e h next =
    let n = next h.others h.rest in
    record {
      given = h.given ++ e ∷ [];
      others = n.0;
      parts = h.parts ∙ (ap (λ (xs : List Entry). h.given ++ xs) n.1 ∙ sym (append_assoc h.given (e ∷ []) n.0));
      same = ap (λ (xs : List ℕ). header ++ xs) (lines_append text h.given (e ∷ [])) ∙ (sym (append_assoc header (lines_of text h.given) (lines_of text (e ∷ [])))
          ∙ (ap (λ (xs : List ℕ). xs ++ lines_of text (e ∷ [])) h.same ∙ append_assoc done pending (lines_of text (e ∷ []))));
      rest = n.2;
    }

-- some of what is pending is out
pub out_more : (text : Form) (header done out old new : List ℕ) (Rest : List Entry → Type 0) (all : List Entry) → HasPushed text header done old Rest all → old ≡ out ++ new → HasPushed text header (done ++ out) new Rest all
out_more text header done out old new Rest all h is = record {
  given = h.given;
  others = h.others;
  parts = h.parts;
  same = h.same ∙ (ap (λ (xs : List ℕ). done ++ xs) is ∙ sym (append_assoc done out new));
  rest = h.rest;
}

-- known of each list that may be given
abbrev pub Known : Form → List ℕ → (List Entry → Type 0) → (List Entry → Type 0) → List ℕ → List ℕ → Type 0
Known text header All Rest pending done = (all : List Entry) → All all → HasPushed text header done pending Rest all

pub push_known : (a b : Option (List ℕ)) (written : ℕ) (text : Form) (header : List ℕ) (All Rest After : List Entry → Type 0) (old new : List ℕ) (e : Entry) → IsOutSoFar a b written (Known text header All Rest old) →
    ((es : List Entry) → Rest es → IsNext After es (Some e)) → new ≡ old ++ lines_of text (e ∷ []) → IsOutSoFar a b written (Known text header All After new)
push_known a b written text header All Rest After old new e h next is = record {
  done = h.done;
  appends = h.appends;
  count = h.count;
  known = λ all y. subst (λ (xs : List ℕ). HasPushed text header h.done xs After all) (sym is) (pushed_more text header h.done old Rest After all e (h.known all y) next);
}

pub block_known : (a b c : Option (List ℕ)) (written count : ℕ) (text : Form) (header : List ℕ) (All Rest : List Entry → Type 0) (old new : List ℕ) → IsOutSoFar a b written (Known text header All Rest old) →
    WroteSome old new b c written count → IsOutSoFar a c count (Known text header All Rest new)
block_known a b c written count text header All Rest old new h w = record {
  done = h.done ++ w.out;
  appends = appended_more a b c h.done w.out h.appends w.appends;
  count = omega (arith, length-append h.done w.out, h.count, w.count_is);
  known = λ all y. out_more text header h.done w.out old new Rest all (h.known all y) w.parts;
}

-- the text as far as it was pushed, and what follows
whole_text : (text : Form) (header done pending : List ℕ) (Rest : List Entry → Type 0) (all : List Entry) (h : HasPushed text header done pending Rest all) → header ++ lines_of text all ≡ done ++ (pending ++ lines_of text h.others)
whole_text text header done pending Rest all h =
    ap (λ (xs : List Entry). header ++ lines_of text xs) h.parts ∙ (ap (λ (xs : List ℕ). header ++ xs) (lines_append text h.given h.others)
    ∙ (sym (append_assoc header (lines_of text h.given) (lines_of text h.others)) ∙ (ap (λ (xs : List ℕ). xs ++ lines_of text h.others) h.same ∙ append_assoc done pending (lines_of text h.others))))

abbrev pub IsFront : Option (List ℕ) → Option (List ℕ) → List ℕ → ℕ → Type 0
IsFront a b text written = (written ≤ length text) × Appends a b (take written text)

pub front_known : (a b : Option (List ℕ)) (written : ℕ) (text : Form) (header : List ℕ) (All Rest : List Entry → Type 0) (pending : List ℕ) → IsOutSoFar a b written (Known text header All Rest pending) → (all : List Entry) → All all →
    IsFront a b (header ++ lines_of text all) written
front_known a b written text header All Rest pending h all y =
    let k = h.known all y in
    let is = whole_text text header h.done pending Rest all k in
    let more = pending ++ lines_of text k.others in (
      omega (arith, ap length is, length-append h.done more, h.count),
      subst (λ (xs : List ℕ). Appends a b xs) (sym (ap (take written) is ∙ take_at h.done more written h.count)) h.appends,
    )

pub stopped_known : (a b : Option (List ℕ)) (written : ℕ) (bytes : List ℕ) (found : NextFault) → IsFront a b bytes written → IsStopped a b bytes (stopped written found)
stopped_known a b written bytes next_fault.Overflow h = h
stopped_known a b written bytes (next_fault.Read n) h = h
stopped_known a b written bytes next_fault.Changed h = h
stopped_known a b written bytes next_fault.Memory h = h

pub stopped_number : (written : ℕ) (found : NextFault) → written_of (stopped written found) ≡ written
stopped_number written next_fault.Overflow = refl
stopped_number written (next_fault.Read n) = refl
stopped_number written next_fault.Changed = refl
stopped_number written next_fault.Memory = refl

-- the writer failed in what is pending
pub cut_length : (done pending : List ℕ) (written count : ℕ) → length done ≡ written → count < length pending → length (done ++ take count pending) ≡ written + count
cut_length done pending written count is short = omega (arith, length-append done (take count pending), length-take count pending)

pub cut_text : (done pending rest : List ℕ) (count : ℕ) → done ++ (pending ++ rest) ≡ (done ++ take count pending) ++ (drop count pending ++ rest)
cut_text done pending rest count =
    ap (λ (xs : List ℕ). done ++ (xs ++ rest)) (sym (take-append-drop count pending)) ∙ (ap (λ (xs : List ℕ). done ++ xs) (append_assoc (take count pending) (drop count pending) rest)
    ∙ sym (append_assoc done (take count pending) (drop count pending ++ rest)))

pub cut_known : (a b c : Option (List ℕ)) (written : ℕ) (text : Form) (header : List ℕ) (All Rest : List Entry → Type 0) (pending : List ℕ) (found : MergeFault) → IsOutSoFar a b written (Known text header All Rest pending) →
    IsCutIn written pending b c found → (all : List Entry) → All all → IsStopped a c (header ++ lines_of text all) found
cut_known a b c written text header All Rest pending found h w all y =
    let k = h.known all y in
    let rest = lines_of text k.others in
    let is = whole_text text header h.done pending Rest all k ∙ cut_text h.done pending rest w.count in
    let long = cut_length h.done pending written w.count h.count w.short in
    let out = appended_more a b c h.done (take w.count pending) h.appends w.out in
    let short = w.short in
    subst (λ (f : MergeFault). IsStopped a c (header ++ lines_of text all) f) (sym w.is_write) (
      omega (arith, ap length (whole_text text header h.done pending Rest all k), length-append h.done (pending ++ rest), length-append pending rest, h.count, short),
      subst (λ (xs : List ℕ). Appends a c xs) (sym (ap (take (written + w.count)) is ∙ take_at (h.done ++ take w.count pending) (drop w.count pending ++ rest) (written + w.count) long)) out,
    )

pub took_so_far : (a b : Option (List ℕ)) (written : ℕ) (P : List ℕ → Type 0) → IsOutSoFar a b written P → Took a b written
took_so_far a b written P h = (h.done, h.appends, h.count)

pub took_cut : (a b c : Option (List ℕ)) (written : ℕ) (P : List ℕ → Type 0) (pending : List ℕ) (found : MergeFault) → IsOutSoFar a b written P → IsCutIn written pending b c found → Took a c (written_of found)
took_cut a b c written P pending found h w =
    subst (λ (f : MergeFault). Took a c (written_of f)) (sym w.is_write)
    (h.done ++ take w.count pending, appended_more a b c h.done (take w.count pending) h.appends w.out, cut_length h.done pending written w.count h.count w.short)

-- all is out
pub whole_known : (a b c : Option (List ℕ)) (written count : ℕ) (text : Form) (header : List ℕ) (All Rest : List Entry → Type 0) (old new : List ℕ) → IsOutSoFar a b written (Known text header All Rest old) → WroteSome old new b c written count →
    new ≡ [] → ((es : List Entry) → Rest es → es ≡ []) → (all : List Entry) → All all → Appends a c (header ++ lines_of text all)
whole_known a b c written count text header All Rest old new h w none end all y =
    let k = h.known all y in
    let after = end k.others k.rest in
    let is = whole_text text header h.done old Rest all k in
    let last : old ++ lines_of text k.others ≡ w.out =
    ap (λ (xs : List Entry). old ++ lines_of text xs) after ∙ (ap (λ (xs : List ℕ). old ++ xs) (no_lines text) ∙ (append-nil old ∙ (w.parts ∙ (ap (λ (xs : List ℕ). w.out ++ xs) none ∙ append-nil w.out)))) in
    subst (λ (xs : List ℕ). Appends a c xs) (sym (is ∙ ap (λ (xs : List ℕ). h.done ++ xs) last)) (appended_more a b c h.done w.out h.appends w.appends)
