-- A run from its judging to its end.
use Rattle.std.proofs.Common.{◌≡◌, ℕ, ◌<◌, ◌^◌, arith, List, [], ◌∷◌, ◌++◌, length, Bool, true, false, Option, Some, None, Result, Ok, Err, MatchResult, OnOk, IfErr, cond, ap, sym, refl, subst, ◌∙◌, inr}
use Rattle.std.specs.List.{AllByRecursion}
use Rattle.std.specs.Io.KnownBytes.{Appends}
use Rattle.shape_dict.specs.declared.entries.Entry.{Entry}
use Rattle.shape_dict.specs.declared.entries.Text.{Text}
use Rattle.shape_dict.specs.declared.entries.Text.TheVariants as kind
use Rattle.shape_dict.specs.declared.headers.Header.{Header}
use Rattle.shape_dict.specs.Contents.{Contents, IsDictionary, squares_of, diamonds_of, played_in}
use Rattle.shape_dict.specs.Text.{header_of, header_text, text_of, diamonds_counted}
use Rattle.shape_dict.specs.Inner.Parts.{lines_of as text_lines}
use Rattle.merge_core.specs.declared.faults.MergeFault.{MergeFault}
use Rattle.merge_core.specs.declared.faults.MergeFault.TheVariants as fault
use Rattle.merge_core.specs.declared.forms.Form.{Form}
use Rattle.merge_core.specs.declared.judged.Totals.{Totals}
use Rattle.merge_core.specs.declared.tallies.Tally.{Tally}
use Rattle.merge_core.specs.Merge.{AreTexts, IsMerged, IsMergeText, IsMergeFault, Took}
use Rattle.merge_core.specs.Inner.Ranges.{IsCountOf}
use Rattle.merge_core.specs.Entries.{IsSmallUse}
use Rattle.merge_core.specs.Inner.Folds.{FoldsAll}
use Rattle.merge_core.specs.Inner.Judging.{IsTotalOf, HasJoined}
use Rattle.merge_core.specs.Least.{kept, kept_of}
use Rattle.merge_core.specs.Inner.Writing.{IsStopped, header_for, moves_for, diamonds_for, lines_of}
use Rattle.merge_core.proofs.Alone.{folds_same}
use Rattle.merge_core.proofs.Folded.{folds_join, sum_is_dictionary}
use Rattle.merge_core.proofs.Kept.{all_kept, kept_dictionary, only_squares}
use Rattle.merge_core.proofs.Prefixed.{Joins, texts_number}
use Rattle.merge_core.proofs.Written.{none_appended}

all_same : (all : List Contents) (a b : Contents) → FoldsAll all a → FoldsAll all b → a ≡ b
all_same [] a b h k = absurd h
all_same (first ∷ others) a b h k = folds_same first others a b h k

-- what holds of the sum of all
pub sum_given : (bytes : ℕ → Option (List ℕ)) (count : ℕ) (least : Option ℕ) (totals : Totals) (counts : Tally) (inputs : List (List ℕ)) (P : Contents → Type 0) (h : HasJoined bytes least totals counts inputs) → length inputs ≡ count → Joins bytes count P → P h.summed.sum
sum_given bytes count least totals counts inputs P h is joins =
    let k = h.summed in
    let s = joins totals.counts_diamonds k.all k.offers (texts_number k.all inputs k.texts ∙ is) in
    subst P (all_same k.all s.0 k.sum s.1 k.folds) s.2

merged_of : (all : List Contents) (inputs : List (List ℕ)) (sum : Contents) → AreTexts all inputs → FoldsAll all sum → sum.games < 2 ^ 64 → sum.moves < 2 ^ 64 → AllByRecursion IsSmallUse sum.entries → IsMerged inputs sum
merged_of [] inputs sum h folds games moves small = absurd folds
merged_of (first ∷ others) inputs sum h folds games moves small = record { first = first; others = others; texts = h; joined = folds_join first others sum folds games moves small }

abbrev header_by : Text → ℕ → ℕ → ℕ → Option ℕ → Header
header_by t games moves squares diamonds = record { text = t; games = games; moves = moves; squares = squares; diamonds = diamonds }

diamonds_same : (b : Bool) (n : ℕ) (es : List Entry) → n ≡ length (diamonds_of es) → cond b (Some n) None ≡ diamonds_counted b es
diamonds_same true n es is = ap Some is
diamonds_same false n es is = refl

-- the header where nothing is left out
whole_header : (t : Text) (judged : Totals) (counts : Tally) (sum : Contents) → IsTotalOf judged sum → counts.squares ≡ length (squares_of sum.entries) → counts.diamonds ≡ length (diamonds_of sum.entries) →
    header_by t judged.games judged.moves counts.squares (cond judged.counts_diamonds (Some counts.diamonds) None) ≡ header_of t sum
whole_header t judged counts sum h squares diamonds =
    ap (λ (x : ℕ). header_by t x judged.moves counts.squares (cond judged.counts_diamonds (Some counts.diamonds) None)) h.games
    ∙ (ap (λ (x : ℕ). header_by t sum.games x counts.squares (cond judged.counts_diamonds (Some counts.diamonds) None)) h.moves
    ∙ (ap (λ (x : ℕ). header_by t sum.games sum.moves x (cond judged.counts_diamonds (Some counts.diamonds) None)) squares
    ∙ ap (λ (x : Option ℕ). header_by t sum.games sum.moves (length (squares_of sum.entries)) x)
    (ap (λ (b : Bool). cond b (Some counts.diamonds) None) h.kinds ∙ diamonds_same sum.counts_diamonds counts.diamonds sum.entries diamonds)))

header_same : (t : Text) (least : Option ℕ) (judged : Totals) (counts : Tally) (sum : Contents) → IsTotalOf judged sum → IsCountOf least sum.entries counts →
    header_by t judged.games (moves_for least judged counts) counts.squares (diamonds_for least judged counts) ≡ header_of t (kept_of least sum)
header_same t None judged counts sum h k =
    whole_header t judged counts sum h (k.tallied.squares ∙ ap (λ (es : List Entry). length (squares_of es)) (all_kept sum.entries)) (k.tallied.diamonds ∙ ap (λ (es : List Entry). length (diamonds_of es)) (all_kept sum.entries))
header_same t (Some least) judged counts sum h k =
    ap (λ (x : ℕ). header_by t x counts.squares_played counts.squares None) h.games
    ∙ (ap (λ (x : ℕ). header_by t sum.games x counts.squares None) (k.tallied.squares_played ∙ ap played_in (only_squares least sum.entries))
    ∙ ap (λ (x : ℕ). header_by t sum.games (played_in (kept (Some least) sum.entries)) x None) k.tallied.squares)

text_is : (t : Text) (sum : Contents) → header_text (header_of t sum) ++ text_lines t sum.entries ≡ text_of t sum
text_is kind.One sum = refl
text_is kind.Two sum = refl
text_is kind.Three sum = refl

lines_are : (t : Text) (least : Option ℕ) (sum : Contents) → header_text (header_of t (kept_of least sum)) ++ text_lines t (kept least sum.entries) ≡ text_of t (kept_of least sum)
lines_are t None sum = ap (λ (es : List Entry). header_text (header_of t sum) ++ text_lines t es) (all_kept sum.entries) ∙ text_is t sum
lines_are t (Some least) sum = text_is t (kept_of (Some least) sum)

sum_dictionary : (all : List Contents) (inputs : List (List ℕ)) (sum : Contents) → AreTexts all inputs → FoldsAll all sum → IsDictionary sum
sum_dictionary [] inputs sum h folds = absurd folds
sum_dictionary (first ∷ others) [] sum h folds = absurd h
sum_dictionary (first ∷ others) (input ∷ inputs) sum h folds = sum_is_dictionary first others sum h.0.dictionary folds

-- the text of what stays of the join
pub is_text : (bytes : ℕ → Option (List ℕ)) (totals : Totals) (counts : Tally) (inputs : List (List ℕ)) (t : Form) (header : List ℕ) (h : HasJoined bytes t.least totals counts inputs) → header ≡ header_text (header_for t totals counts) →
    IsMergeText t inputs (header ++ lines_of t h.summed.sum.entries)
is_text bytes totals counts inputs t header h is =
    let k = h.summed in
    let counted = subst (λ (es : List Entry). IsCountOf t.least es counts) (sym k.same) h.counted in
    record {
      sum = k.sum;
      merged = merged_of k.all inputs k.sum k.texts k.folds (omega (arith, k.few_games, k.of_sum.games)) (omega (arith, k.few_moves, k.of_sum.moves)) counted.small;
      dictionary = kept_dictionary t.least k.sum (sum_dictionary k.all inputs k.sum k.texts k.folds);
      printed = ap (λ (xs : List ℕ). xs ++ lines_of t k.sum.entries) (is ∙ ap header_text (header_same t.text t.least totals counts k.sum k.of_sum counted)) ∙ lines_are t.text t.least k.sum;
    }

stopped_is : (t : Form) (inputs : List (List ℕ)) (a b : Option (List ℕ)) (bytes : List ℕ) → IsMergeText t inputs bytes → (found : MergeFault) → IsStopped a b bytes found → IsMergeFault t inputs a b found
stopped_is t inputs a b bytes text fault.Empty h = absurd h
stopped_is t inputs a b bytes text (fault.Dict n found) h = absurd h
stopped_is t inputs a b bytes text (fault.Read n written) h = inr (record { text = bytes; is_text = text; few = h.0; out = h.1 })
stopped_is t inputs a b bytes text (fault.Changed written) h = inr (record { text = bytes; is_text = text; few = h.0; out = h.1 })
stopped_is t inputs a b bytes text (fault.Write written) h = record { text = bytes; is_text = text; short = h.0; out = h.1 }
stopped_is t inputs a b bytes text (fault.Memory written) h = inr (record { text = bytes; is_text = text; few = h.0; out = h.1 })

pub done_of : {T : Type 0} (result : Result T MergeFault) (t : Form) (inputs : List (List ℕ)) (a b : Option (List ℕ)) (bytes : List ℕ) → IsMergeText t inputs bytes → MatchResult result (λ _. Appends a b bytes) (IsStopped a b bytes) →
    OnOk result ((written : List ℕ) × IsMergeText t inputs written × Appends a b written)
done_of (Ok x) t inputs a b bytes text h = (bytes, text, h)
done_of (Err found) t inputs a b bytes text h = tt

pub fault_of : {T : Type 0} (result : Result T MergeFault) (t : Form) (inputs : List (List ℕ)) (a b : Option (List ℕ)) (bytes : List ℕ) → IsMergeText t inputs bytes → MatchResult result (λ _. Appends a b bytes) (IsStopped a b bytes) →
    IfErr result (IsMergeFault t inputs a b)
fault_of (Ok x) t inputs a b bytes text h = tt
fault_of (Err found) t inputs a b bytes text h = stopped_is t inputs a b bytes text found h

-- nothing is out
pub took_none : (a : Option (List ℕ)) (written : ℕ) → written ≡ 0 → Took a a written
took_none a written none = ([], none_appended a, sym none)
