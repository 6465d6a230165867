-- Bytes have one fault, want of memory aside; bytes that are a text have none, and nothing else is read.
use Rattle.std.proofs.Common.{◌≡◌, ◌≢◌, ℕ, ◌<◌, ◌≤◌, ◌⊎◌, ◌^◌, inl, inr, List, [], ◌++◌, length, take, drop, sym, refl, ap, ◌∙◌, arith, append_assoc, Result, Ok, Err, MatchResult, IfOk, IfErr}
use Rattle.std.specs.List.{flat_map}
use Rattle.std.proofs.lemmas.List.{take-append-drop, length-drop, append-nil}
use Rattle.shape_dict.specs.declared.entries.Entry.{Entry}
use Rattle.shape_dict.specs.declared.headers.Header.{Header}
use Rattle.shape_dict.specs.declared.faults.DictFault.{DictFault}
use Rattle.shape_dict.specs.declared.faults.DictFault.TheVariants as fault
use Rattle.shape_dict.specs.Contents.{Contents}
use Rattle.shape_dict.specs.Text.{header_text, line_text}
use Rattle.shape_dict.specs.Reading.{BeginsWith, HasHeader, HasNoHeader, IsTextOf, IsFrontFault, IsTextFault}
use Rattle.shape_dict.specs.Inner.Reading.{IsRead}
use Rattle.shape_dict.proofs.Known.{known, read_unique}
use Rattle.shape_dict.proofs.Read.{fault_of_whole}
use Rattle.shape_dict.proofs.Stopped.{IsStop, either, stop_unique, not_stopped, missing_stop, falling_stop, other_stop, wrong_stop, more_stop}

-- bytes that begin with a header and lines begin with a header
pub header_begun : (bytes : List ℕ) (header : Header) (es : List Entry) (left : List ℕ) → BeginsWith bytes header es left → HasHeader bytes
header_begun bytes header es left h = record {
  header = header;
  left = flat_map (line_text header.text) es ++ left;
  is_header = h.is_header;
  same = h.same ∙ append_assoc (header_text header) (flat_map (line_text header.text) es) left;
}

-- what each fault but want of memory says of the bytes
record IsLarge (bytes : List ℕ) (found : DictFault) : Type 0 where
  large : 2 ^ 28 < length bytes
  is : found ≡ fault.TooLarge

record IsHeaderless (bytes : List ℕ) (found : DictFault) : Type 0 where
  few : length bytes ≤ 2 ^ 28
  none : HasNoHeader bytes
  is : found ≡ fault.BadHeader

record IsStopped (IsTooMuch : List ℕ → Type 0) (bytes : List ℕ) (found : DictFault) : Type 0 where
  few : length bytes ≤ 2 ^ 28
  stop : IsStop IsTooMuch bytes found

abbrev IsOfBytes : (List ℕ → Type 0) → List ℕ → DictFault → Type 0
IsOfBytes IsTooMuch bytes found = IsHeaderless bytes found ⊎ IsStopped IsTooMuch bytes found

abbrev IsCause : (List ℕ → Type 0) → List ℕ → DictFault → Type 0
IsCause IsTooMuch bytes found = IsLarge bytes found ⊎ IsOfBytes IsTooMuch bytes found

module _ (IsTooMuch : List ℕ → Type 0) (bytes : List ℕ) where
  bytes_apart : (one other : DictFault) → IsHeaderless bytes one → IsStopped IsTooMuch bytes other → ⊥
  bytes_apart one other h k = h.none (header_begun bytes k.stop.header k.stop.entries k.stop.left k.stop.begins)

  bytes_unique : (one other : DictFault) → IsOfBytes IsTooMuch bytes one → IsOfBytes IsTooMuch bytes other → one ≡ other
  bytes_unique =
      either (IsHeaderless bytes) (IsStopped IsTooMuch bytes) (λ one other h k. h.is ∙ sym k.is) (λ one other h k. stop_unique IsTooMuch bytes one other h.stop k.stop) bytes_apart

  few_of : (found : DictFault) → IsOfBytes IsTooMuch bytes found → length bytes ≤ 2 ^ 28
  few_of found (inl h) = h.few
  few_of found (inr h) = h.few

  cause_unique : (one other : DictFault) → IsCause IsTooMuch bytes one → IsCause IsTooMuch bytes other → one ≡ other
  cause_unique =
      either (IsLarge bytes) (IsOfBytes IsTooMuch bytes) (λ one other h k. h.is ∙ sym k.is) bytes_unique (λ one other h k. omega (arith, h.large, few_of other k))

  -- what is read has no fault
  no_cause : (d : Contents) (rest : List ℕ) (found : DictFault) → IsRead bytes d rest → length bytes ≤ 2 ^ 28 → (IsTooMuch rest → ⊥) → IsCause IsTooMuch bytes found → ⊥
  no_cause d rest found r few little (inl h) = let large = h.large in omega arith
  no_cause d rest found r few little (inr (inl h)) = h.none (header_begun bytes r.header d.entries rest r.lines.begins)
  no_cause d rest found r few little (inr (inr h)) = not_stopped IsTooMuch bytes found r.header d.entries rest r.lines r.totals little h.stop

  -- each fault but want of memory has a cause
  front_cause : (found : DictFault) → IsFrontFault bytes found → found ≢ fault.Memory → IsCause IsTooMuch bytes found
  front_cause fault.TooLarge h other = inl (record { large = h; is = refl })
  front_cause fault.BadHeader h other = inr (inl (record { few = h.0; none = h.1; is = refl }))
  front_cause (fault.BadLine line) h other = inr (inr (record { few = h.0; stop = missing_stop IsTooMuch bytes line h.1 }))
  front_cause (fault.NotRising line) h other = inr (inr (record { few = h.0; stop = falling_stop IsTooMuch bytes line h.1 }))
  front_cause (fault.NotCanonical line) h other = inr (inr (record { few = h.0; stop = other_stop IsTooMuch bytes line h.1 }))
  front_cause fault.WrongTotals h other = inr (inr (record { few = h.0; stop = wrong_stop IsTooMuch bytes h.1 }))
  front_cause fault.Memory h other = absurd (other refl)
  front_cause fault.Overflow h other = absurd h.1
  front_cause fault.MixedKinds h other = absurd h.1

-- bytes after a text are too much
abbrev IsSome : List ℕ → Type 0
IsSome left = left ≢ []

text_cause : (bytes : List ℕ) (found : DictFault) → IsTextFault bytes found → found ≢ fault.Memory → IsCause IsSome bytes found
text_cause bytes (fault.BadLine line) h other = elim h.1 [
  | inl missing ↦ front_cause IsSome bytes (fault.BadLine line) (h.0, missing) other
  | inr more ↦ inr (inr (record { few = h.0; stop = more_stop bytes line more }))
]
text_cause bytes fault.TooLarge h other = front_cause IsSome bytes fault.TooLarge h other
text_cause bytes fault.BadHeader h other = front_cause IsSome bytes fault.BadHeader h other
text_cause bytes (fault.NotRising line) h other = front_cause IsSome bytes (fault.NotRising line) h other
text_cause bytes (fault.NotCanonical line) h other = front_cause IsSome bytes (fault.NotCanonical line) h other
text_cause bytes fault.WrongTotals h other = front_cause IsSome bytes fault.WrongTotals h other
text_cause bytes fault.Memory h other = absurd (other refl)
text_cause bytes fault.Overflow h other = absurd h.1
text_cause bytes fault.MixedKinds h other = absurd h.1

pub text_fault_unique : (bytes : List ℕ) (one other : DictFault) → IsTextFault bytes one → IsTextFault bytes other → one ≢ fault.Memory → other ≢ fault.Memory → one ≡ other
text_fault_unique bytes one other h k p q = cause_unique IsSome bytes one other (text_cause bytes one h p) (text_cause bytes other k q)

pub front_fault_unique : (bytes : List ℕ) (one other : DictFault) → IsFrontFault bytes one → IsFrontFault bytes other → one ≢ fault.Memory → other ≢ fault.Memory → one ≡ other
front_fault_unique bytes one other h k = text_fault_unique bytes one other (fault_of_whole bytes one h) (fault_of_whole bytes other k)

-- what is not another fault is want of memory
memory_by : (found : DictFault) → (found ≢ fault.Memory → ⊥) → found ≡ fault.Memory
memory_by fault.Memory h = refl
memory_by found h = absurd (h (λ e. cc))

no_front_fault : (bytes : List ℕ) (d : Contents) (rest : List ℕ) (found : DictFault) → IsRead bytes d rest → length bytes ≤ 2 ^ 28 → IsFrontFault bytes found → found ≡ fault.Memory
no_front_fault bytes d rest found r few h =
    memory_by found (λ other. no_cause (λ left. ⊥) bytes d rest found r few (λ none. none) (front_cause (λ left. ⊥) bytes found h other))

no_text_fault : (bytes : List ℕ) (d : Contents) (found : DictFault) → IsRead bytes d [] → length bytes ≤ 2 ^ 28 → IsTextFault bytes found → found ≡ fault.Memory
no_text_fault bytes d found r few h =
    memory_by found (λ other. no_cause IsSome bytes d [] found r few (λ some. some refl) (text_cause bytes found h other))

pub whole_only : (bytes : List ℕ) (result : Result Contents DictFault) → IfOk result (λ d. IsTextOf d bytes × (length bytes ≤ 2 ^ 28)) → IfErr result (IsTextFault bytes) → (contents : Contents) → IsTextOf contents bytes → length bytes ≤ 2 ^ 28 → MatchResult result (λ d. d ≡ contents) (λ found. found ≡ fault.Memory)
whole_only bytes (Ok d) found faults contents is small =
    (read_unique bytes d contents [] [] (known bytes bytes [] d found.0 (sym (append-nil bytes))) (known bytes bytes [] contents is (sym (append-nil bytes)))).0
whole_only bytes (Err e) found faults contents is small = no_text_fault bytes contents e (known bytes bytes [] contents is (sym (append-nil bytes))) small faults

pub front_only : (bytes : List ℕ) (result : Result (Contents × ℕ) DictFault) → IfOk result (λ p. (p.1 ≤ length bytes) × IsTextOf p.0 (take p.1 bytes) × (length bytes ≤ 2 ^ 28)) → IfErr result (IsFrontFault bytes) → (contents : Contents) (count : ℕ) → count ≤ length bytes → IsTextOf contents (take count bytes) → length bytes ≤ 2 ^ 28 → MatchResult result (λ p. (p.0 ≡ contents) × (p.1 ≡ count)) (λ found. found ≡ fault.Memory)
front_only bytes (Ok p) found faults contents count fits is small =
    let one = known bytes (take p.1 bytes) (drop p.1 bytes) p.0 found.1 (sym (take-append-drop p.1 bytes)) in
    let other = known bytes (take count bytes) (drop count bytes) contents is (sym (take-append-drop count bytes)) in
    let u = read_unique bytes p.0 contents (drop p.1 bytes) (drop count bytes) one other in
    let lengths = sym (length-drop p.1 bytes) ∙ (ap length u.1 ∙ length-drop count bytes) in
    let inside = found.0 in
    (u.0, omega arith)
front_only bytes (Err e) found faults contents count fits is small =
    no_front_fault bytes contents (drop count bytes) e (known bytes (take count bytes) (drop count bytes) contents is (sym (take-append-drop count bytes))) small faults
