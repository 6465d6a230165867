-- A text that is written range by range.
use Rattle.std.proofs.Common.{◌≡◌, ℕ, zero, suc, ◌+◌, ◌-◌, ◌≤◌, ◌<◌, List, [], ◌∷◌, ◌++◌, length, take, drop, get_or, Option, ap, sym, refl, ◌∙◌, subst, arith, append_assoc, length-append, take-append-drop, Result, Ok, IfOk, Vec}
use Rattle.std.proofs.lemmas.List.{take_at, append-nil, take_all}
use Rattle.std.proofs.Math.Seq.{take-suc}
use Rattle.std.specs.Io.KnownBytes.{Appends}
use Rattle.shape_dict.specs.declared.entries.Entry.{Entry}
use Rattle.merge_core.specs.declared.cuts.Plan.{Plan}
use Rattle.merge_core.specs.declared.faults.MergeFault.{MergeFault}
use Rattle.merge_core.specs.declared.forms.Form.{Form}
use Rattle.merge_core.specs.declared.entries.NextFault.{NextFault}
use Rattle.merge_core.specs.Merge.{AreInputs, Took, written_of}
use Rattle.merge_core.specs.Inner.Ranges.{HasRangeAt, AreParts, all_of}
use Rattle.merge_core.specs.Inner.Printing.{IsPrinted, ArePrinted}
use Rattle.merge_core.specs.declared.printing.Round.{Round}
use Rattle.std.specs.Global.{Global}
use Rattle.merge_core.specs.Inner.Writing.{IsOutSoFar, IsCutIn, IsStopped, lines_of, stopped}
use Rattle.merge_core.proofs.Written.{lines_append, no_lines, appended_more, none_appended, cut_text, cut_length, stopped_known, IsFront}
use Rattle.merge_core.proofs.Same.{at_same}
use Rattle.merge_core.proofs.Besides.{all_append_all}

-- the join of the range of a number
part_at : (bytes : ℕ → Option (List ℕ)) (plan : Plan) (from k : ℕ) (parts : List (List Entry)) → AreParts bytes plan from parts → k < length parts → HasRangeAt bytes plan (from + k) (get_or parts k [])
part_at bytes plan from k [] h few = absurd (omega (arith, few))
part_at bytes plan from zero (x ∷ parts) h few = let same : from ≡ from + 0 = omega arith in subst (λ (n : ℕ). HasRangeAt bytes plan n x) same h.0
part_at bytes plan from (suc k) (x ∷ parts) h few = let same : from + 1 + k ≡ from + suc k = omega arith in subst (λ (n : ℕ). HasRangeAt bytes plan n (get_or parts k [])) same (part_at bytes plan (from + 1) k parts h.1 (omega (arith, few)))

-- of known texts, the header and the lines of the first ranges are out
abbrev pub IsOutTo : (ℕ → Option (List ℕ)) → Plan → Form → List ℕ → ℕ → List ℕ → Type 0
IsOutTo bytes plan text header n done =
    (parts : List (List Entry)) → AreParts bytes plan 0 parts → length parts + 1 ≡ length plan.cuts.items → (inputs : List (List ℕ)) → AreInputs bytes 0 inputs → length inputs ≡ length plan.headers.items
    → done ≡ header ++ lines_of text (all_of (take n parts))

pub header_out : (bytes : ℕ → Option (List ℕ)) (plan : Plan) (text : Form) (header : List ℕ) (a b : Option (List ℕ)) (count : ℕ) → count ≡ 0 + length header → Appends a b header → IsOutSoFar a b count (IsOutTo bytes plan text header 0)
header_out bytes plan text header a b count is h = record {
  done = header;
  appends = h;
  count = omega (arith, is);
  known = λ parts are number inputs known all. sym (ap (λ (xs : List ℕ). header ++ xs) (no_lines text) ∙ append-nil header);
}

lines_more : (bytes : ℕ → Option (List ℕ)) (plan : Plan) (text : Form) (n : ℕ) (lines : List ℕ) (parts : List (List Entry)) (inputs : List (List ℕ)) → IsPrinted bytes plan text n lines → AreParts bytes plan 0 parts → n < length parts →
    AreInputs bytes 0 inputs → length inputs ≡ length plan.headers.items → lines_of text (all_of (take (n + 1) parts)) ≡ lines_of text (all_of (take n parts)) ++ lines
lines_more bytes plan text n lines parts inputs h are few known all =
    let here = subst (λ (m : ℕ). HasRangeAt bytes plan m (get_or parts n [])) (let same : 0 + n ≡ n = omega arith in same) (part_at bytes plan 0 n parts are few) in
    let is = at_same bytes plan n (get_or parts n []) h.0 inputs here h.1 known all in
    let next : take (n + 1) parts ≡ take n parts ++ get_or parts n [] ∷ [] = ap (λ (m : ℕ). take m parts) (let same : n + 1 ≡ suc n = omega arith in same) ∙ take-suc parts n [] few in
    let one : all_of (get_or parts n [] ∷ []) ≡ h.0 = append-nil (get_or parts n []) ∙ is in
    ap (λ (xs : List (List Entry)). lines_of text (all_of xs)) next ∙ (ap (lines_of text) (all_append_all (take n parts) (get_or parts n [] ∷ []) ∙ ap (λ (es : List Entry). all_of (take n parts) ++ es) one)
    ∙ (lines_append text (all_of (take n parts)) h.0 ∙ ap (λ (xs : List ℕ). lines_of text (all_of (take n parts)) ++ xs) (sym h.2)))

-- the lines of one range more are out
pub range_out : (bytes : ℕ → Option (List ℕ)) (plan : Plan) (text : Form) (header lines : List ℕ) (a b c : Option (List ℕ)) (written count n : ℕ) → n + 1 < length plan.cuts.items → IsOutSoFar a b written (IsOutTo bytes plan text header n) →
    IsPrinted bytes plan text n lines → count ≡ written + length lines → Appends b c lines → IsOutSoFar a c count (IsOutTo bytes plan text header (n + 1))
range_out bytes plan text header lines a b c written count n few h printed is out = record {
  done = h.done ++ lines;
  appends = appended_more a b c h.done lines h.appends out;
  count = omega (arith, length-append h.done lines, h.count, is);
  known = λ parts are number inputs known all.
      ap (λ (xs : List ℕ). xs ++ lines) (h.known parts are number inputs known all)
      ∙ (append_assoc header (lines_of text (all_of (take n parts))) lines
      ∙ ap (λ (xs : List ℕ). header ++ xs) (sym (lines_more bytes plan text n lines parts inputs printed are (omega (arith, number, few)) known all)));
}

-- the text as far as it is out, and what follows
whole_of : (text : Form) (header done : List ℕ) (n : ℕ) (parts : List (List Entry)) → done ≡ header ++ lines_of text (all_of (take n parts)) → header ++ lines_of text (all_of parts) ≡ done ++ lines_of text (all_of (drop n parts))
whole_of text header done n parts h =
    ap (λ (xs : List (List Entry)). header ++ lines_of text (all_of xs)) (sym (take-append-drop n parts))
    ∙ (ap (λ (es : List Entry). header ++ lines_of text es) (all_append_all (take n parts) (drop n parts))
    ∙ (ap (λ (xs : List ℕ). header ++ xs) (lines_append text (all_of (take n parts)) (all_of (drop n parts)))
    ∙ (sym (append_assoc header (lines_of text (all_of (take n parts))) (lines_of text (all_of (drop n parts)))) ∙ ap (λ (xs : List ℕ). xs ++ lines_of text (all_of (drop n parts))) (sym h))))

-- a front is out where a range could not be made
pub range_stopped : (bytes : ℕ → Option (List ℕ)) (plan : Plan) (text : Form) (header : List ℕ) (a b : Option (List ℕ)) (written n : ℕ) (found : NextFault) → IsOutSoFar a b written (IsOutTo bytes plan text header n) →
    (parts : List (List Entry)) → AreParts bytes plan 0 parts → length parts + 1 ≡ length plan.cuts.items → (inputs : List (List ℕ)) → AreInputs bytes 0 inputs → length inputs ≡ length plan.headers.items →
    IsStopped a b (header ++ lines_of text (all_of parts)) (stopped written found)
range_stopped bytes plan text header a b written n found h parts are number inputs known all =
    let is = whole_of text header h.done n parts (h.known parts are number inputs known all) in
    let more = lines_of text (all_of (drop n parts)) in
    let front : IsFront a b (header ++ lines_of text (all_of parts)) written = (
      omega (arith, ap length is, length-append h.done more, h.count),
      subst (λ (xs : List ℕ). Appends a b xs) (sym (ap (take written) is ∙ take_at h.done more written h.count)) h.appends,
    ) in
    stopped_known a b written (header ++ lines_of text (all_of parts)) found front

-- a text is cut in what follows some bytes of it
cut_in : (a b c : Option (List ℕ)) (written : ℕ) (done pending rest whole : List ℕ) (found : MergeFault) → whole ≡ done ++ (pending ++ rest) → Appends a b done → length done ≡ written → IsCutIn written pending b c found → IsStopped a c whole found
cut_in a b c written done pending rest whole found is h count w =
    let long = cut_length done pending written w.count count w.short in
    let parts = is ∙ cut_text done pending rest w.count in
    let out = appended_more a b c done (take w.count pending) h w.out in
    let short = w.short in
    subst (λ (f : MergeFault). IsStopped a c whole f) (sym w.is_write) (
      omega (arith, ap length is, length-append done (pending ++ rest), length-append pending rest, count, short),
      subst (λ (xs : List ℕ). Appends a c xs) (sym (ap (take (written + w.count)) parts ∙ take_at (done ++ take w.count pending) (drop w.count pending ++ rest) (written + w.count) long)) out,
    )

pub header_cut : (text : Form) (header : List ℕ) (a c : Option (List ℕ)) (found : MergeFault) (parts : List (List Entry)) → IsCutIn 0 header a c found → IsStopped a c (header ++ lines_of text (all_of parts)) found
header_cut text header a c found parts w = cut_in a a c 0 [] header (lines_of text (all_of parts)) (header ++ lines_of text (all_of parts)) found refl (none_appended a) refl w

pub range_cut : (bytes : ℕ → Option (List ℕ)) (plan : Plan) (text : Form) (header lines : List ℕ) (a b c : Option (List ℕ)) (written n : ℕ) (found : MergeFault) → n + 1 < length plan.cuts.items → IsOutSoFar a b written (IsOutTo bytes plan text header n) →
    IsPrinted bytes plan text n lines → IsCutIn written lines b c found → (parts : List (List Entry)) → AreParts bytes plan 0 parts → length parts + 1 ≡ length plan.cuts.items → (inputs : List (List ℕ)) → AreInputs bytes 0 inputs →
    length inputs ≡ length plan.headers.items → IsStopped a c (header ++ lines_of text (all_of parts)) found
range_cut bytes plan text header lines a b c written n found few h printed w parts are number inputs known all =
    let more = lines_more bytes plan text n lines parts inputs printed are (omega (arith, number, few)) known all in
    let done = h.known parts are number inputs known all in
    let next : h.done ++ lines ≡ header ++ lines_of text (all_of (take (n + 1) parts)) =
    ap (λ (xs : List ℕ). xs ++ lines) done ∙ (append_assoc header (lines_of text (all_of (take n parts))) lines ∙ ap (λ (xs : List ℕ). header ++ xs) (sym more)) in
    let rest = lines_of text (all_of (drop (n + 1) parts)) in
    cut_in a b c written h.done lines rest (header ++ lines_of text (all_of parts)) found (whole_of text header (h.done ++ lines) (n + 1) parts next ∙ append_assoc h.done lines rest) h.appends h.count w

pub took_header : (header : List ℕ) (a c : Option (List ℕ)) (found : MergeFault) → IsCutIn 0 header a c found → Took a c (written_of found)
took_header header a c found w =
    subst (λ (f : MergeFault). Took a c (written_of f)) (sym w.is_write) (take w.count header, w.out, cut_length [] header 0 w.count refl w.short)

-- all is out
pub all_out : (bytes : ℕ → Option (List ℕ)) (plan : Plan) (text : Form) (header : List ℕ) (a b : Option (List ℕ)) (written n : ℕ) → length plan.cuts.items ≤ n + 1 → IsOutSoFar a b written (IsOutTo bytes plan text header n) →
    (parts : List (List Entry)) → AreParts bytes plan 0 parts → length parts + 1 ≡ length plan.cuts.items → (inputs : List (List ℕ)) → AreInputs bytes 0 inputs → length inputs ≡ length plan.headers.items →
    Appends a b (header ++ lines_of text (all_of parts))
all_out bytes plan text header a b written n few h parts are number inputs known all =
    let every : take n parts ≡ parts = take_all n parts (omega (arith, few, number)) in
    subst (λ (xs : List ℕ). Appends a b xs) (h.known parts are number inputs known all ∙ ap (λ (xs : List (List Entry)). header ++ lines_of text (all_of xs)) every) h.appends

-- what was made of one range
pub printed_at : (bytes : ℕ → Option (List ℕ)) (plan : Plan) (text : Form) (round : Round) (n : ℕ) (x : Result (Vec ℕ Global) NextFault) (lines : Vec ℕ Global) (out : List ℕ) → ArePrinted bytes plan text round → round.from ≤ n →
    n - round.from < length round.made.items → x ≡ get_or round.made.items (n - round.from) x → x ≡ Ok lines → out ≡ lines.items → IsPrinted bytes plan text n out
printed_at bytes plan text round n x lines out h low few is ok same =
    let k : IfOk x (λ v. IsPrinted bytes plan text (round.from + (n - round.from)) v.items) =
    subst (λ (y : Result (Vec ℕ Global) NextFault). IfOk y (λ v. IsPrinted bytes plan text (round.from + (n - round.from)) v.items)) (sym is) (h (n - round.from) x few) in
    let p : IsPrinted bytes plan text (round.from + (n - round.from)) lines.items =
    subst (λ (y : Result (Vec ℕ Global) NextFault). IfOk y (λ v. IsPrinted bytes plan text (round.from + (n - round.from)) v.items)) ok k in
    let at : round.from + (n - round.from) ≡ n = omega (arith, low) in
    subst (λ (xs : List ℕ). IsPrinted bytes plan text n xs) (sym same) (subst (λ (m : ℕ). IsPrinted bytes plan text m lines.items) at p)
