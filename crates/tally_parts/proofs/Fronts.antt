-- What is out where a text was not written whole.
use Rattle.std.proofs.Common.{◌≡◌, ℕ, List, [], ◌∷◌, ◌++◌, length, take, Option, Some, None, refl, ap, subst, ◌∙◌, inl, inr, arith}
use Rattle.std.proofs.lemmas.List.{append-nil}
use Rattle.std.specs.Io.KnownBytes.{Appends, Keeps}
use Rattle.shape_dict.specs.Contents.{Contents}
use Rattle.shape_dict.specs.Text.{text_of}
use Rattle.shape_dict.specs.declared.entries.Text.{Text}
use Rattle.merge_core.specs.declared.faults.MergeFault.{MergeFault}
use Rattle.merge_core.specs.declared.faults.MergeFault.TheVariants as fault
use Rattle.merge_core.specs.declared.forms.Form.{Form}
use Rattle.merge_core.specs.Merge.{IsMergeText, IsMergeFault, IsOut, Took, written_of}
use Rattle.tally_parts.specs.Parts.{AreGood, IsDictionaryOfTexts, IsTallyText, IsFrontOut, kinds_for}
use Rattle.tally_parts.specs.Inner.Joining.{IsCut, IsTextCut, IsTextOut}

pub keeps_same : (bytes : Option (List ℕ)) → Keeps bytes bytes
keeps_same None = tt
keeps_same (Some bytes) = refl

none_long : (bytes : List ℕ) → length bytes ≡ 0 → bytes ≡ []
none_long [] h = refl
none_long (byte ∷ bytes) h = absurd (omega arith)

took_none : (before after : Option (List ℕ)) → Took before after 0 → Keeps before after
took_none None after h = tt
took_none (Some one) None h = absurd h.1
took_none (Some one) (Some other) h = h.1 ∙ ap (λ (x : List ℕ). one ++ x) (none_long h.0 h.2) ∙ append-nil one

-- a text of what was merged is one of the dictionary of these texts
abbrev pub IsTextOfAll : Text → List (List ℕ) → Form → List (List ℕ) → Type 0
IsTextOfAll kind texts form inputs =
    (text : List ℕ) → IsMergeText form inputs text → (contents : Contents) × IsDictionaryOfTexts (kinds_for kind) texts contents × (text ≡ text_of kind contents)

front_cut : (kind : Text) (texts : List (List ℕ)) (form : Form) (inputs : List (List ℕ)) (before after : Option (List ℕ)) (text : List ℕ) (n : ℕ) → IsTextOfAll kind texts form inputs →
    IsMergeText form inputs text → Appends before after (take n text) → IsTextCut kind texts before after
front_cut kind texts form inputs before after text n all is out =
    let found = all text is in
    inr (found.0, n, found.1, subst (λ (x : List ℕ). Appends before after (take n x)) found.2 out)

out_cut : (kind : Text) (texts : List (List ℕ)) (form : Form) (inputs : List (List ℕ)) (before after : Option (List ℕ)) (written : ℕ) → IsTextOfAll kind texts form inputs →
    IsOut form inputs before after written → IsTextCut kind texts before after
out_cut kind texts form inputs before after written all (inl h) = inl h.1
out_cut kind texts form inputs before after written all (inr h) = front_cut kind texts form inputs before after h.text written all h.is_text h.out

pub merge_cut : (kind : Text) (texts : List (List ℕ)) (form : Form) (inputs : List (List ℕ)) (before after : Option (List ℕ)) (found : MergeFault) → IsTextOfAll kind texts form inputs →
    IsMergeFault form inputs before after found → Took before after (written_of found) → IsTextCut kind texts before after
merge_cut kind texts form inputs before after fault.Empty all h took = inl (took_none before after took)
merge_cut kind texts form inputs before after (fault.Dict n found) all h took = inl (took_none before after took)
merge_cut kind texts form inputs before after (fault.Read n written) all h took = out_cut kind texts form inputs before after written all h
merge_cut kind texts form inputs before after (fault.Changed written) all h took = out_cut kind texts form inputs before after written all h
merge_cut kind texts form inputs before after (fault.Write written) all h took = front_cut kind texts form inputs before after h.text written all h.is_text h.out
merge_cut kind texts form inputs before after (fault.Memory written) all h took = out_cut kind texts form inputs before after written all h

-- the texts are all that can be read
pub whole_out : (kind : Text) (all texts : List (List ℕ)) (before after : Option (List ℕ)) → AreGood all texts → IsTextOut kind texts before after →
    (written : List ℕ) × IsTallyText kind all written × Appends before after written
whole_out kind all texts before after good h =
    (text_of kind h.0, record { good = texts; are_good = good; contents = h.0; dictionary = h.1; printed = refl }, h.2)

pub front_out : (kind : Text) (all texts : List (List ℕ)) (before after : Option (List ℕ)) → AreGood all texts → IsTextCut kind texts before after → IsFrontOut kind all before after
front_out kind all texts before after good (inl h) = inl h
front_out kind all texts before after good (inr h) =
    inr (text_of kind h.0, h.1, record { good = texts; are_good = good; contents = h.0; dictionary = h.2; printed = refl }, h.3)

pub cut_of : (kind : Text) (texts : List (List ℕ)) (contents : Contents) (before after : Option (List ℕ)) → IsDictionaryOfTexts (kinds_for kind) texts contents → IsCut (text_of kind contents) before after → IsTextCut kind texts before after
cut_of kind texts contents before after is (inl h) = inl h
cut_of kind texts contents before after is (inr h) = inr (contents, h.0, is, h.1)
