-- No header and no line has more than 2 ^ 7 bytes, so bytes that begin with as many show whether there is one.
use Rattle.std.proofs.Common.{◌≡◌, ℕ, ◌<◌, ◌≤◌, ◌^◌, ◌⊎◌, inl, inr, List, ◌++◌, length, drop, take, sym, refl, ap, ◌∙◌, arith, append_assoc, Option, Some, None, IfSome}
use Rattle.std.specs.Fmt.{decimal}
use Rattle.std.specs.Io.KnownBytes.{prepend_known, IsAtEnd}
use Rattle.std.proofs.lemmas.Fmt.{length-decimal-le}
use Rattle.std.proofs.lemmas.List.{length-append, append-nil, take_at, take-append-le, take-append-drop}
use Rattle.shape_dict.specs.declared.entries.Entry.{Entry}
use Rattle.shape_dict.specs.declared.entries.Text.{Text}
use Rattle.shape_dict.specs.declared.entries.Text.TheVariants as text
use Rattle.shape_dict.specs.declared.headers.Header.{Header}
use Rattle.shape_dict.specs.declared.faults.DictFault.{DictFault}
use Rattle.shape_dict.specs.declared.faults.DictFault.TheVariants as fault
use Rattle.shape_dict.specs.Text.{header_text, counts_text, front_text, line_text, word_text, first_text, optional_number}
use Rattle.shape_dict.specs.Reading.{HasNoHeader, HasNoLine, HasLine, IsHeader, IsLine, IsLineFault}
use Rattle.shape_dict.proofs.Hexadecimal.{length-hexadecimal}
use Rattle.stream_core.specs.Inner.Blocks.{Held, HasEnough, bytes_of}

number_short : (n : ℕ) → n < 2 ^ 64 → length (decimal n) ≤ 20
number_short n h = length-decimal-le 20 n (omega arith) (omega arith) h

optional_short : (n : Option ℕ) → IfSome n (λ n. n < 2 ^ 64) → length (optional_number n) ≤ 20
optional_short None h = omega arith
optional_short (Some n) h = number_short n h

front_short : (t : Text) → length (front_text t) ≡ 15
front_short text.One = refl
front_short text.Two = refl
front_short text.Three = refl

counts_short : (t : Text) (squares : ℕ) (diamonds : Option ℕ) → squares < 2 ^ 64 → IfSome diamonds (λ n. n < 2 ^ 64) → length (counts_text t squares diamonds) ≤ 59
counts_short text.One squares diamonds h k =
    let a = number_short squares h in
    simp length-append (omega arith)
counts_short text.Two squares diamonds h k =
    let a = number_short squares h in
    let b = optional_short diamonds k in
    simp length-append (omega arith)
counts_short text.Three squares diamonds h k =
    let a = number_short squares h in
    let b = optional_short diamonds k in
    simp length-append (omega arith)

header_short : (header : Header) → IsHeader header → length (header_text header) ≤ 128
header_short header h =
    let a = number_short header.games h.games in
    let b = number_short header.moves h.moves in
    let c = counts_short header.text header.squares header.diamonds h.squares h.diamonds in
    let d = front_short header.text in
    simp length-append (omega arith)

-- a word

word_long : (word : ℕ) → length (word_text word) ≡ 13
unfolding word_text
word_long word = length-hexadecimal 13 word

first_short : (t : Text) (first : Option ℕ) → IfSome first (λ game. game < 2 ^ 64) → length (first_text t first) ≤ 21
first_short text.One first h = omega arith
first_short text.Two first h = omega arith
first_short text.Three first h = let a = optional_short first h in simp length-append (omega arith)

line_short : (header : Header) (place : ℕ) (e : Entry) → IsLine header place e → length (line_text header.text e) ≤ 128
line_short header place e h =
    let a = number_short e.there h.small.0 in
    let b = number_short e.played h.small.1 in
    let c = first_short header.text e.first h.small.2 in
    let d = word_long e.shape in
    simp length-append (omega arith)

-- what is at the front of all bytes, and no longer than those at hand, is at the front of these
front_of : (text rest unread more : List ℕ) → unread ++ more ≡ text ++ rest → length text ≤ length unread → unread ≡ text ++ drop (length text) unread
front_of text rest unread more same fits =
    let n = length text in
    let front : take n unread ≡ text = sym (take-append-le n unread more fits) ∙ (ap (take n) same ∙ take_at text rest n refl) in
    sym (take-append-drop n unread) ∙ ap (λ (x : List ℕ). x ++ drop n unread) front

-- the bytes at hand show the front of all
shown : (text rest : List ℕ) (unread : List ℕ) (remaining : Option (List ℕ)) (left : List ℕ) → length text ≤ 128 → (2 ^ 7 ≤ length unread) ⊎ IsAtEnd remaining → prepend_known unread remaining ≡ Some left → left ≡ text ++ rest → (after : List ℕ) × (unread ≡ text ++ after)
shown text rest unread None left short enough known same = absurd cc
shown text rest unread (Some more) left short (inl many) known same =
    let all : unread ++ more ≡ left = cc in
    (drop (length text) unread, front_of text rest unread more (all ∙ same) (omega arith))
shown text rest unread (Some more) left short (inr none) known same =
    let all : unread ++ more ≡ left = cc in
    (rest, sym (append-nil unread) ∙ (ap (λ (x : List ℕ). unread ++ x) (sym none) ∙ (all ∙ same)))

no_header_in : (unread : List ℕ) (remaining : Option (List ℕ)) → (2 ^ 7 ≤ length unread) ⊎ IsAtEnd remaining → HasNoHeader unread → IfSome (prepend_known unread remaining) HasNoHeader
no_header_in unread None enough none = tt
no_header_in unread (Some more) enough none = λ h.
    let at = shown (header_text h.header) h.left unread (Some more) (unread ++ more) (header_short h.header h.is_header) enough refl h.same in
    none (record { header = h.header; left = at.0; is_header = h.is_header; same = at.1 })

pub no_header : (held : Held) → HasEnough held → HasNoHeader held.unread → IfSome (bytes_of held) HasNoHeader
no_header held enough none = no_header_in held.unread held.remaining enough none

no_line : (unread more : List ℕ) (header : Header) (place : ℕ) → (2 ^ 7 ≤ length unread) ⊎ IsAtEnd (Some more) → HasNoLine header place unread → HasNoLine header place (unread ++ more)
no_line unread more header place enough none = λ e rest line same.
    let at = shown (line_text header.text e) rest unread (Some more) (unread ++ more) (line_short header place e line) enough refl same in
    none e at.0 line at.1

line_on : (unread more : List ℕ) (header : Header) (place : ℕ) (e : Entry) → HasLine header place unread e → HasLine header place (unread ++ more) e
line_on unread more header place e has = record {
  rest = has.rest ++ more;
  line = has.line;
  same = ap (λ (l : List ℕ). l ++ more) has.same ∙ append_assoc (line_text header.text e) has.rest more;
}

-- a fault of the line at the front of the bytes at hand is one of all bytes
line_fault_in : (header : Header) (place : ℕ) (last : Option ℕ) (unread : List ℕ) (remaining : Option (List ℕ)) (found : DictFault) → (2 ^ 7 ≤ length unread) ⊎ IsAtEnd remaining → IsLineFault header place last unread found → IfSome (prepend_known unread remaining) (λ left. IsLineFault header place last left found)
line_fault_in header place last unread None found enough h = tt
line_fault_in header place last unread (Some more) (fault.BadLine line) enough h = (no_line unread more header place enough h.0, h.1)
line_fault_in header place last unread (Some more) (fault.NotRising line) enough h =
    (record { entry = h.0.entry; has = line_on unread more header place h.0.entry h.0.has; falls = h.0.falls }, h.1)
line_fault_in header place last unread (Some more) (fault.NotCanonical line) enough h =
    (record { entry = h.0.entry; has = line_on unread more header place h.0.entry h.0.has; above = h.0.above; other = h.0.other }, h.1)
line_fault_in header place last unread (Some more) fault.BadHeader enough h = absurd h
line_fault_in header place last unread (Some more) fault.WrongTotals enough h = absurd h
line_fault_in header place last unread (Some more) fault.Memory enough h = absurd h
line_fault_in header place last unread (Some more) fault.Overflow enough h = absurd h
line_fault_in header place last unread (Some more) fault.TooLarge enough h = absurd h
line_fault_in header place last unread (Some more) fault.MixedKinds enough h = absurd h

pub line_fault : (held : Held) (header : Header) (place : ℕ) (last : Option ℕ) (found : DictFault) → HasEnough held → IsLineFault header place last held.unread found → IfSome (bytes_of held) (λ left. IsLineFault header place last left found)
line_fault held header place last found enough h = line_fault_in header place last held.unread held.remaining found enough h
