-- Entries that are given of a text one after another, and the answer that comes next.
use Rattle.std.proofs.Common.{◌≡◌, ◌≢◌, ℕ, ◌-◌, ◌<◌, ◌≤◌, ◌^◌, ◌⊎◌, inl, inr, min, List, [], ◌∷◌, ◌++◌, length, sym, refl, ap, ◌∙◌, subst, arith, append_assoc, append-nil, Option, Some, None, IfSome, Result, Ok, Err}
use Rattle.std.specs.List.{flat_map}
use Rattle.std.specs.Io.KnownBytes.{Consumes, Keeps}
use Rattle.shape_core.specs.Symmetry.{least_image}
use Rattle.shape_dict.specs.declared.entries.Entry.{Entry}
use Rattle.shape_dict.specs.declared.headers.Header.{Header}
use Rattle.shape_dict.specs.declared.faults.DictFault.{DictFault}
use Rattle.shape_dict.specs.declared.faults.DictFault.TheVariants as fault
use Rattle.shape_dict.specs.Contents.{Contents, HasTotals}
use Rattle.shape_dict.specs.Text.{header_text, line_text, text_of}
use Rattle.shape_dict.specs.Reading.{BeginsWith, IsAbove, IsFirstFault, IsHeader, IsLine, IsLineFault, IsTextOf, counts_of, lines_after}
use Rattle.shape_dict.specs.Inner.Reading.{IsRead}
use Rattle.shape_dict.proofs.Begun.{entry_more, entry_fault}
use Rattle.shape_dict.proofs.Faultless.{header_begun}
use Rattle.shape_dict.proofs.Known.{known, texts_distinct}
use Rattle.shape_dict.proofs.Read.{text_read, read_same}
use Rattle.shape_dict.proofs.Stopped.{IsStop, not_stopped, missing_stop, falling_stop, other_stop, wrong_stop, more_stop}
use Rattle.shape_dict.proofs.Unique.{begun_unique, header_same, header_unique}
use Rattle.stream_core.specs.declared.faults.StreamFault.{StreamFault}
use Rattle.stream_core.specs.declared.faults.StreamFault.TheVariants as stream
use Rattle.stream_core.specs.declared.progress.Progress.{Progress}
use Rattle.stream_core.specs.Faults.{IsWholeFault, IsOpenFault}
use Rattle.stream_core.specs.Progress.{IsProgress}
use Rattle.stream_core.specs.declared.standing.Standing.{Standing}
use Rattle.stream_core.specs.Streams.{HasGiven, IsHeaderOf, IsNext, Stands, Stream, contents_of, given_after, standing_of}
use Rattle.stream_core.specs.Inner.Blocks.{Held, bytes_of}
use Rattle.stream_core.specs.Inner.Counting.{CountedTo}
use Rattle.stream_core.specs.Inner.Steps.{IsAt}
use Rattle.stream_core.proofs.Held.{keeps_known, consumes_known}

-- the number of entries
pub few_given : (given : ℕ) (last : Option ℕ) → CountedTo given last → given ≤ 2 ^ 51
few_given given None h = omega arith
few_given given (Some last) h = let a = h.0 in let b = h.1 in omega arith

pub all_given : (given lines entries : ℕ) (last : Option ℕ) → CountedTo given last → given ≡ entries → entries ≤ lines → min lines (2 ^ 64 - 1) ≤ given → entries ≡ lines
all_given given lines entries last h same few over = let bound = few_given given last h in omega arith

pub more_given : (given lines entries : ℕ) → given ≡ entries → given < min lines (2 ^ 64 - 1) → entries < lines
more_given given lines entries same under = omega arith

-- more was read
pub at_kept : (old new : Held) (header : Header) (progress : Progress) (whole : List ℕ) (es : List Entry) → Keeps (bytes_of old) (bytes_of new) → IsAt old header progress whole es → IsAt new header progress whole es
at_kept old new header progress whole es kept at = record {
  left = at.left;
  known = keeps_known (bytes_of old) (bytes_of new) at.left at.known kept;
  begins = at.begins;
  kept = at.kept;
}

-- an entry was given
pub at_more : (old new : Held) (header : Header) (progress after : Progress) (whole : List ℕ) (es : List Entry) (e : Entry) → IsAt old header progress whole es → length es < lines_after header → IsLine header progress.given e → IsAbove progress.last e.shape → least_image e.shape ≡ e.shape → Consumes (bytes_of old) (bytes_of new) (line_text header.text e) → IsProgress after (es ++ e ∷ []) → IsAt new header after whole (es ++ e ∷ [])
at_more old new header progress after whole es e at more line above canonical taken kept =
    let moved = consumes_known (bytes_of old) (bytes_of new) at.left (line_text header.text e) at.known taken in
    record {
      left = moved.0;
      known = moved.1;
      begins = entry_more whole header es e progress.last at.left moved.0 at.begins more (sym at.kept.last) (subst (λ (n : ℕ). IsLine header n e) at.kept.given line) above canonical moved.2;
      kept = kept;
    }

-- a fault of the next line
whole_by : (header : Header) (place : ℕ) (last : Option ℕ) (left whole : List ℕ) (found : DictFault) → IsLineFault header place last left found → IsFirstFault whole found → IsWholeFault whole found
whole_by header place last left whole (fault.BadLine line) bad h = inl h
whole_by header place last left whole (fault.NotRising line) bad h = h
whole_by header place last left whole (fault.NotCanonical line) bad h = h
whole_by header place last left whole fault.BadHeader bad h = h
whole_by header place last left whole fault.WrongTotals bad h = h
whole_by header place last left whole fault.Memory bad h = absurd bad
whole_by header place last left whole fault.Overflow bad h = h
whole_by header place last left whole fault.TooLarge bad h = h
whole_by header place last left whole fault.MixedKinds bad h = h

pub line_refused : (held : Held) (header : Header) (progress : Progress) (whole : List ℕ) (es : List Entry) (found : DictFault) → (at : IsAt held header progress whole es) → length es < lines_after header → IsLineFault header progress.given progress.last at.left found → IsWholeFault whole found
line_refused held header progress whole es found at more bad =
    let here = subst (λ (n : ℕ). IsLineFault header n progress.last at.left found) at.kept.given bad in
    whole_by header (length es) progress.last at.left whole found here (entry_fault whole header es progress.last at.left found at.begins more (sym at.kept.last) here)

-- all lines were given, and nothing follows
pub whole_text : (whole left : List ℕ) (header : Header) (es : List Entry) → BeginsWith whole header es left → length es ≡ lines_after header → HasTotals header.games header.moves es (counts_of header) → left ≡ [] → IsTextOf (contents_of header es) whole
whole_text whole left header es begins all totals none =
    let d = contents_of header es in
    let read : IsRead whole d left = record {
      header = header;
      lines = record { begins = begins; all = all };
      totals = totals;
      games = refl;
      moves = refl;
      kinds = refl;
    } in
    let same : whole ≡ text_of header.text d = read_same whole left d read ∙ (ap (λ (l : List ℕ). text_of header.text d ++ l) none ∙ append-nil (text_of header.text d)) in
    subst (λ (x : List ℕ). IsTextOf d x) (sym same) (text_read whole left d read)

-- a text has no fault
module _ (whole : List ℕ) (contents : Contents) (is : IsTextOf contents whole) where
  pub read_of : IsRead whole contents []
  read_of = known whole whole [] contents is (sym (append-nil whole))

  no_stop : (found : DictFault) → IsStop (λ left. left ≢ []) whole found → ⊥
  no_stop found stop = not_stopped (λ left. left ≢ []) whole found read_of.header contents.entries [] read_of.lines read_of.totals (λ some. some refl) stop

  pub no_fault : (found : DictFault) → IsWholeFault whole found → ⊥
  no_fault fault.BadHeader h = h (header_begun whole read_of.header contents.entries [] read_of.lines.begins)
  no_fault (fault.BadLine line) (inl h) = no_stop (fault.BadLine line) (missing_stop (λ left. left ≢ []) whole line h)
  no_fault (fault.BadLine line) (inr h) = no_stop (fault.BadLine line) (more_stop whole line h)
  no_fault (fault.NotRising line) h = no_stop (fault.NotRising line) (falling_stop (λ left. left ≢ []) whole line h)
  no_fault (fault.NotCanonical line) h = no_stop (fault.NotCanonical line) (other_stop (λ left. left ≢ []) whole line h)
  no_fault fault.WrongTotals h = no_stop fault.WrongTotals (wrong_stop (λ left. left ≢ []) whole h)
  no_fault fault.Memory h = h
  no_fault fault.Overflow h = h
  no_fault fault.TooLarge h = h
  no_fault fault.MixedKinds h = h

  -- the entries that were given are the first of the text's
  given_first : (header : Header) (es : List Entry) (e : Entry) (left : List ℕ) → BeginsWith whole header (es ++ e ∷ []) left → (more : List Entry) × (contents.entries ≡ es ++ e ∷ more)
  given_first header es e left begins =
      let same = header_same whole header read_of.header (es ++ e ∷ []) contents.entries left [] begins read_of.lines.begins in
      let lines = ap lines_after same in
      let few = begins.few in
      let all = read_of.lines.all in
      let u = begun_unique whole header read_of.header (es ++ e ∷ []) contents.entries left [] begins read_of.lines.begins (omega arith) in
      (u.1.0, u.1.1 ∙ append_assoc es (e ∷ []) u.1.0)

  -- the answer to the next call
  pub is_next : (header : Header) (es : List Entry) (left : List ℕ) (answer : Result (Option Entry) StreamFault) → BeginsWith whole header (given_after es answer) left → Stands whole header (given_after es answer) (standing_of answer) → IsNext contents es answer
  is_next header es left (Ok (Some e)) begins stands = given_first header es e left begins
  is_next header es left (Ok None) begins stands =
      sym (ap (λ (x : Contents). x.entries) (texts_distinct (contents_of header es) contents whole whole [] [] stands is refl).1)
  is_next header es left (Err (stream.Dict found)) begins stands = absurd (no_fault found stands)
  is_next header es left (Err stream.Read) begins stands = refl
  is_next header es left (Err stream.Memory) begins stands = absurd stands

  -- the header is the text's
  pub header_is : (header : Header) (rest : List ℕ) → IsHeader header → whole ≡ header_text header ++ rest → IsHeaderOf header contents
  header_is header rest h same =
      let r = read_of in
      let lines : List ℕ = flat_map (line_text r.header.text) contents.entries in
      let read : whole ≡ header_text r.header ++ (lines ++ []) = r.lines.begins.same ∙ append_assoc (header_text r.header) lines [] in
      let one : header ≡ r.header = (header_unique header r.header rest (lines ++ []) h r.lines.begins.is_header (sym same ∙ read)).0 in
      record {
        games = ap (λ (x : Header). x.games) one ∙ sym r.games;
        moves = ap (λ (x : Header). x.moves) one ∙ sym r.moves;
        kinds = ap counts_of one ∙ sym r.kinds;
      }

-- a text was not opened
refused_by : (whole : List ℕ) (contents : Contents) (found : StreamFault) → IsOpenFault (Some whole) found → IsTextOf contents whole → (found ≡ stream.Read) ⊎ (found ≡ stream.Memory)
refused_by whole contents (stream.Dict found) h is =
    let r = read_of whole contents is in absurd (h.1 (header_begun whole r.header contents.entries [] r.lines.begins))
refused_by whole contents stream.Read h is = inl refl
refused_by whole contents stream.Memory h is = inr refl

pub open_refused : (bytes : Option (List ℕ)) (contents : Contents) (found : StreamFault) → IsOpenFault bytes found → IfSome bytes (λ whole. IsTextOf contents whole → (found ≡ stream.Read) ⊎ (found ≡ stream.Memory))
open_refused None contents found h = tt
open_refused (Some whole) contents found h = λ is. refused_by whole contents found h is

opened_by : (b : Option (List ℕ)) (whole : List ℕ) (contents : Contents) (header : Header) → IsHeader header → Consumes (Some whole) b (header_text header) → IsTextOf contents whole → IsHeaderOf header contents
opened_by None whole contents header h taken is = absurd taken
opened_by (Some rest) whole contents header h taken is = header_is whole contents is header rest h taken

pub opened : (bytes b : Option (List ℕ)) (contents : Contents) (header : Header) → IsHeader header → Consumes bytes b (header_text header) → IfSome bytes (λ whole. IsTextOf contents whole → IsHeaderOf header contents)
opened None b contents header h taken = tt
opened (Some whole) b contents header h taken = λ is. opened_by b whole contents header h taken is

-- a stream by its parts
abbrev pub stream_of : Held → Header → Progress → Standing → Stream
stream_of held header progress standing = record {
  unread = held.unread;
  remaining = held.remaining;
  header = header;
  progress = progress;
  standing = standing;
}

pub given_at : (stream : Stream) (held : Held) (header : Header) (progress : Progress) (standing : Standing) (whole : List ℕ) (es : List Entry) → stream_of held header progress standing ≡ stream → HasGiven stream whole es → IsAt held header progress whole es × Stands whole header es standing
given_at stream held header progress standing whole es is h =
    let given : HasGiven (stream_of held header progress standing) whole es = subst (λ (s : Stream). HasGiven s whole es) (sym is) h in
    (record { left = given.left; known = given.known; begins = given.begins; kept = given.kept }, given.stands)
