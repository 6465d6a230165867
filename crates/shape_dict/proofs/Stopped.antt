-- Where the reading of a text stops, and why: bytes have one such place, and one cause there.
use Rattle.std.proofs.Common.{◌≡◌, ◌≢◌, ℕ, suc, ◌+◌, ◌<◌, ◌≤◌, ◌⊎◌, inl, inr, List, [], ◌∷◌, ◌++◌, length, sym, refl, ap, ◌∙◌, subst, arith, append_assoc}
use Rattle.std.specs.List.{flat_map, AllByRecursion}
use Rattle.std.specs.List.Sorted.{IsStrictlyIncreasing}
use Rattle.std.proofs.lemmas.Bool.{cases_lt}
use Rattle.std.proofs.lemmas.List.{length-append, length_push}
use Rattle.std.proofs.lemmas.List.Elements.{recursion_from_All}
use Rattle.shape_core.specs.Symmetry.{least_image}
use Rattle.shape_dict.specs.declared.entries.Entry.{Entry}
use Rattle.shape_dict.specs.declared.headers.Header.{Header}
use Rattle.shape_dict.specs.declared.faults.DictFault.{DictFault}
use Rattle.shape_dict.specs.declared.faults.DictFault.TheVariants as fault
use Rattle.shape_dict.specs.Contents.{HasTotals}
use Rattle.shape_dict.specs.Text.{line_text}
use Rattle.shape_dict.specs.Reading.{IsLine, AreLines, AreShapes, BeginsWith, HasAllLines, HasNoLine, IsBadLine, IsNotRising, IsNotCanonical, HasWrongTotals, HasMore, lines_after, counts_of}
use Rattle.shape_dict.specs.Inner.Merging.{Climbs}
use Rattle.shape_dict.proofs.Climbing.{shapes_of, climbs_from_rises, rises_from_climbs}
use Rattle.shape_dict.proofs.Unique.{begun_unique, begun_same, header_same, line_unique, spelled}

-- a line follows that its place may have
record Follows (header : Header) (es : List Entry) (left : List ℕ) (e : Entry) : Type 0 where
  rest : List ℕ
  more : length es < lines_after header
  line : IsLine header (length es) e
  same : left ≡ line_text header.text e ++ rest

-- another line is to follow, and none does that its place may have
record IsMissing (header : Header) (es : List Entry) (left : List ℕ) (found : DictFault) : Type 0 where
  more : length es < lines_after header
  none : HasNoLine header (length es) left
  is : found ≡ fault.BadLine (length es + 2)

-- a line follows whose word is not above the last one
record IsFalling (header : Header) (es : List Entry) (left : List ℕ) (found : DictFault) : Type 0 where
  entry : Entry
  follows : Follows header es left entry
  falls : IsStrictlyIncreasing (shapes_of (es ++ entry ∷ [])) → ⊥
  is : found ≡ fault.NotRising (length es + 2)

-- a line follows whose word rises and is not the least of its images
record IsOther (header : Header) (es : List Entry) (left : List ℕ) (found : DictFault) : Type 0 where
  entry : Entry
  follows : Follows header es left entry
  rises : IsStrictlyIncreasing (shapes_of (es ++ entry ∷ []))
  other : least_image entry.shape ≢ entry.shape
  is : found ≡ fault.NotCanonical (length es + 2)

-- no line is missing, and the totals do not agree
record IsWrong (header : Header) (es : List Entry) (found : DictFault) : Type 0 where
  all : length es ≡ lines_after header
  wrong : HasTotals header.games header.moves es (counts_of header) → ⊥
  is : found ≡ fault.WrongTotals

-- all is as it should be, but for what follows the text
record IsFollowed (IsTooMuch : List ℕ → Type 0) (header : Header) (es : List Entry) (left : List ℕ) (found : DictFault) : Type 0 where
  all : length es ≡ lines_after header
  totals : HasTotals header.games header.moves es (counts_of header)
  much : IsTooMuch left
  is : found ≡ fault.BadLine (length es + 2)

-- a line follows whose word may not stand there
abbrev IsBad : Header → List Entry → List ℕ → DictFault → Type 0
IsBad header es left found = IsFalling header es left found ⊎ IsOther header es left found

-- the next line cannot be read on
abbrev IsStuck : Header → List Entry → List ℕ → DictFault → Type 0
IsStuck header es left found = IsMissing header es left found ⊎ IsBad header es left found

-- all lines were read
abbrev IsOver : (List ℕ → Type 0) → Header → List Entry → List ℕ → DictFault → Type 0
IsOver IsTooMuch header es left found = IsWrong header es found ⊎ IsFollowed IsTooMuch header es left found

-- why the reading stops after these lines
abbrev Stops : (List ℕ → Type 0) → Header → List Entry → List ℕ → DictFault → Type 0
Stops IsTooMuch header es left found = IsStuck header es left found ⊎ IsOver IsTooMuch header es left found

-- after these lines there is this fault
pub record IsStop (IsTooMuch : List ℕ → Type 0) (bytes : List ℕ) (found : DictFault) : Type 0 where
  pub header : Header
  pub entries : List Entry
  pub left : List ℕ
  pub begins : BeginsWith bytes header entries left
  stops : Stops IsTooMuch header entries left found

-- of two kinds of fault that keep apart, each with one fault, there is one fault
pub either : (P Q : DictFault → Type 0) → ((one other : DictFault) → P one → P other → one ≡ other) → ((one other : DictFault) → Q one → Q other → one ≡ other) → ((one other : DictFault) → P one → Q other → ⊥) → (one other : DictFault) → P one ⊎ Q one → P other ⊎ Q other → one ≡ other
either P Q p q apart one other (inl h) (inl k) = p one other h k
either P Q p q apart one other (inl h) (inr k) = absurd (apart one other h k)
either P Q p q apart one other (inr h) (inl k) = absurd (apart other one k h)
either P Q p q apart one other (inr h) (inr k) = q one other h k

same_line : (header : Header) (place : ℕ) (d e : Entry) (left r s : List ℕ) → IsLine header place d → IsLine header place e → left ≡ line_text header.text d ++ r → left ≡ line_text header.text e ++ s → d ≡ e
same_line header place d e left r s h k p q = (line_unique header.text d e r s (spelled header place d h) (spelled header place e k) (sym p ∙ q)).0

-- at one place there is one cause
module _ (IsTooMuch : List ℕ → Type 0) (header : Header) (es : List Entry) (left : List ℕ) where
  bad_apart : (one other : DictFault) → IsFalling header es left one → IsOther header es left other → ⊥
  bad_apart one other h k =
      let same = same_line header (length es) h.entry k.entry left h.follows.rest k.follows.rest h.follows.line k.follows.line h.follows.same k.follows.same in
      h.falls (subst (λ (e : Entry). IsStrictlyIncreasing (shapes_of (es ++ e ∷ []))) (sym same) k.rises)

  bad_unique : (one other : DictFault) → IsBad header es left one → IsBad header es left other → one ≡ other
  bad_unique = either (IsFalling header es left) (IsOther header es left) (λ one other h k. h.is ∙ sym k.is) (λ one other h k. h.is ∙ sym k.is) bad_apart

  next_apart : (one other : DictFault) → IsMissing header es left one → IsBad header es left other → ⊥
  next_apart one other h (inl k) = h.none k.entry k.follows.rest k.follows.line k.follows.same
  next_apart one other h (inr k) = h.none k.entry k.follows.rest k.follows.line k.follows.same

  stuck_unique : (one other : DictFault) → IsStuck header es left one → IsStuck header es left other → one ≡ other
  stuck_unique = either (IsMissing header es left) (IsBad header es left) (λ one other h k. h.is ∙ sym k.is) bad_unique next_apart

  over_unique : (one other : DictFault) → IsOver IsTooMuch header es left one → IsOver IsTooMuch header es left other → one ≡ other
  over_unique = either (IsWrong header es) (IsFollowed IsTooMuch header es left) (λ one other h k. h.is ∙ sym k.is) (λ one other h k. h.is ∙ sym k.is) (λ one other h k. h.wrong k.totals)

  stuck_before : (found : DictFault) → IsStuck header es left found → length es < lines_after header
  stuck_before found (inl h) = h.more
  stuck_before found (inr (inl h)) = h.follows.more
  stuck_before found (inr (inr h)) = h.follows.more

  over_after : (found : DictFault) → IsOver IsTooMuch header es left found → length es ≡ lines_after header
  over_after found (inl h) = h.all
  over_after found (inr h) = h.all

  stops_unique : (one other : DictFault) → Stops IsTooMuch header es left one → Stops IsTooMuch header es left other → one ≡ other
  stops_unique =
      either (IsStuck header es left) (IsOver IsTooMuch header es left) stuck_unique over_unique (λ one other h k. omega (arith, stuck_before one h, over_after other k))

  -- where all lines were read, the totals agree and nothing is too much, there is no fault
  no_stop : (found : DictFault) → length es ≡ lines_after header → HasTotals header.games header.moves es (counts_of header) → (IsTooMuch left → ⊥) → Stops IsTooMuch header es left found → ⊥
  no_stop found all totals little (inl h) = omega (arith, stuck_before found h)
  no_stop found all totals little (inr (inl h)) = h.wrong totals
  no_stop found all totals little (inr (inr h)) = little h.much

-- no more lines can be read than up to a stop
lines_at : (header : Header) (place : ℕ) (es : List Entry) (e : Entry) (more : List Entry) → AreLines header place (es ++ e ∷ more) → IsLine header (place + length es) e
lines_at header place [] e more h = let same : place ≡ place + 0 = omega arith in rw same at h.0
lines_at header place (d ∷ es) e more h =
    let same : place + 1 + length es ≡ place + suc (length es) = omega arith in rw same at (lines_at header (place + 1) es e more h.1)

each_at : (P : Entry → Type 0) (es : List Entry) (e : Entry) (more : List Entry) → AllByRecursion P (es ++ e ∷ more) → P e
each_at P [] e more h = h.0
each_at P (d ∷ es) e more h = each_at P es e more h.1

climbs_front : (least : ℕ) (es more : List Entry) → Climbs least (es ++ more) → Climbs least es
climbs_front least [] more h = tt
climbs_front least (e ∷ es) more h = (h.0, climbs_front (suc e.shape) es more h.1)

rises_front : (es : List Entry) (e : Entry) (more : List Entry) → IsStrictlyIncreasing (shapes_of (es ++ e ∷ more)) → IsStrictlyIncreasing (shapes_of (es ++ e ∷ []))
rises_front es e more h =
    let climbs = subst (λ (x : List Entry). Climbs 0 x) (sym (append_assoc es (e ∷ []) more)) (climbs_from_rises (es ++ e ∷ more) h) in
    rises_from_climbs 0 (es ++ e ∷ []) (climbs_front 0 (es ++ e ∷ []) more climbs)

-- the line that follows in what is read
record Following (header : Header) (es all : List Entry) (left : List ℕ) : Type 0 where
  entry : Entry
  after : List ℕ
  same : left ≡ line_text header.text entry ++ after
  line : IsLine header (length es) entry
  rises : IsStrictlyIncreasing (shapes_of (es ++ entry ∷ []))
  canonical : least_image entry.shape ≡ entry.shape

following_by : (header : Header) (es all more : List Entry) (left rest : List ℕ) → AreLines header 0 all → AreShapes all → length es < length all → all ≡ es ++ more → left ≡ flat_map (line_text header.text) more ++ rest → Following header es all left
following_by header es all [] left rest h shapes few parts same = let l = ap length parts ∙ length-append es [] in absurd (omega arith)
following_by header es all (e ∷ more) left rest h shapes few parts same =
    let line = lines_at header 0 es e more (subst (λ (x : List Entry). AreLines header 0 x) parts h) in
    let zero_more : 0 + length es ≡ length es = omega arith in
    let each = recursion_from_All (λ e. least_image e.shape ≡ e.shape) all shapes.canonical in
    record {
      entry = e;
      after = flat_map (line_text header.text) more ++ rest;
      same = same ∙ append_assoc (line_text header.text e) (flat_map (line_text header.text) more) rest;
      line = rw zero_more at line;
      rises = rises_front es e more (subst (λ (x : List Entry). IsStrictlyIncreasing (shapes_of x)) parts shapes.rises);
      canonical = each_at (λ e. least_image e.shape ≡ e.shape) es e more (subst (λ (x : List Entry). AllByRecursion (λ e. least_image e.shape ≡ e.shape) x) parts each);
    }

following : (bytes : List ℕ) (g h : Header) (es fs : List Entry) (left rest : List ℕ) → BeginsWith bytes g es left → BeginsWith bytes h fs rest → length es < length fs → Following g es fs left
following bytes g h es fs left rest p q few =
    let u = begun_unique bytes g h es fs left rest p q (omega arith) in
    following_by g es fs u.1.0 left rest (subst (λ (x : Header). AreLines x 0 fs) (sym u.0) q.lines) q.shapes few u.1.1 u.1.2

stuck_there : (header : Header) (es all : List Entry) (left : List ℕ) (found : DictFault) → Following header es all left → IsStuck header es left found → ⊥
stuck_there header es all left found f (inl h) = h.none f.entry f.after f.line f.same
stuck_there header es all left found f (inr (inl h)) =
    let same = same_line header (length es) h.entry f.entry left h.follows.rest f.after h.follows.line f.line h.follows.same f.same in
    h.falls (subst (λ (e : Entry). IsStrictlyIncreasing (shapes_of (es ++ e ∷ []))) (sym same) f.rises)
stuck_there header es all left found f (inr (inr h)) =
    let same = same_line header (length es) h.entry f.entry left h.follows.rest f.after h.follows.line f.line h.follows.same f.same in
    h.other (subst (λ (e : Entry). least_image e.shape ≡ e.shape) (sym same) f.canonical)

rising_pair : (least : ℕ) (before : List Entry) (last e : Entry) (more : List Entry) → Climbs least (before ++ last ∷ e ∷ more) → last.shape < e.shape
rising_pair least [] last e more h = let a = h.1.0 in omega arith
rising_pair least (d ∷ before) last e more h = rising_pair (suc d.shape) before last e more h.1

not_falling : (before : List Entry) (last e : Entry) → e.shape ≤ last.shape → IsStrictlyIncreasing (shapes_of ((before ++ last ∷ []) ++ e ∷ [])) → ⊥
not_falling before last e falls rises =
    let climbs = subst (λ (x : List Entry). Climbs 0 x) (append_assoc before (last ∷ []) (e ∷ [])) (climbs_from_rises ((before ++ last ∷ []) ++ e ∷ []) rises) in
    let pair = rising_pair 0 before last e [] climbs in
    omega arith

module _ (IsTooMuch : List ℕ → Type 0) (bytes : List ℕ) where
  no_further : (found : DictFault) (stop : IsStop IsTooMuch bytes found) (h : Header) (fs : List Entry) (rest : List ℕ) → BeginsWith bytes h fs rest → length stop.entries < length fs → ⊥
  no_further found stop h fs rest q few = elim stop.stops [
    | inl stuck ↦ stuck_there stop.header stop.entries fs stop.left found (following bytes stop.header h stop.entries fs stop.left rest stop.begins q few) stuck
    | inr over ↦ omega (
      arith,
      over_after IsTooMuch stop.header stop.entries stop.left found over,
      ap lines_after (header_same bytes stop.header h stop.entries fs stop.left rest stop.begins q),
      q.few,
    )
  ]

  -- the cause at the place of other lines that are as many
  stops_there : (found : DictFault) (stop : IsStop IsTooMuch bytes found) (h : Header) (fs : List Entry) (rest : List ℕ) → BeginsWith bytes h fs rest → length stop.entries ≡ length fs → Stops IsTooMuch h fs rest found
  stops_there found stop h fs rest q same =
      let u = begun_same bytes stop.header h stop.entries fs stop.left rest stop.begins q same in
      subst (λ (x : Header). Stops IsTooMuch x fs rest found) u.0
      (subst (λ (x : List Entry). Stops IsTooMuch stop.header x rest found) (sym u.1)
      (subst (λ (x : List ℕ). Stops IsTooMuch stop.header stop.entries x found) u.2 stop.stops))

  pub stop_unique : (one other : DictFault) → IsStop IsTooMuch bytes one → IsStop IsTooMuch bytes other → one ≡ other
  stop_unique one other h k =
      let same : length h.entries ≡ length k.entries = elim (cases_lt (length h.entries) (length k.entries)) [
        | inl less ↦ absurd (no_further one h k.header k.entries k.left k.begins less)
        | inr more ↦ elim (cases_lt (length k.entries) (length h.entries)) [ inl less ↦ absurd (no_further other k h.header h.entries h.left h.begins less) | inr few ↦ omega arith ]
      ] in
      stops_unique IsTooMuch k.header k.entries k.left one other (stops_there one h k.header k.entries k.left k.begins same) k.stops

  -- no fault stops the reading of a text with nothing too much after it
  pub not_stopped : (found : DictFault) (header : Header) (es : List Entry) (rest : List ℕ) → HasAllLines bytes header es rest → HasTotals header.games header.moves es (counts_of header) → (IsTooMuch rest → ⊥) → IsStop IsTooMuch bytes found → ⊥
  not_stopped found header es rest lines totals little stop =
      let head = ap lines_after (header_same bytes stop.header header stop.entries es stop.left rest stop.begins lines.begins) in
      let few = stop.begins.few in
      let all = lines.all in
      let same : length stop.entries ≡ length es = elim (cases_lt (length stop.entries) (length es)) [
        | inl less ↦ absurd (no_further found stop header es rest lines.begins less)
        | inr more ↦ omega arith
      ] in
      no_stop IsTooMuch header es rest found all totals little (stops_there found stop header es rest lines.begins same)

  -- each fault of a line, of the totals or of the end is a stop
  pub missing_stop : (line : ℕ) → IsBadLine bytes line → IsStop IsTooMuch bytes (fault.BadLine line)
  missing_stop line b = record {
    header = b.header;
    entries = b.entries;
    left = b.left;
    begins = b.begins;
    stops = inl (inl (record { more = b.more; none = b.none; is = ap fault.BadLine b.at }));
  }

  pub falling_stop : (line : ℕ) → IsNotRising bytes line → IsStop IsTooMuch bytes (fault.NotRising line)
  falling_stop line b =
      let at = b.at in
      let long = length_push b.before b.last in
      let number : line ≡ length (b.before ++ b.last ∷ []) + 2 = omega arith in
      record {
        header = b.header;
        entries = b.before ++ b.last ∷ [];
        left = b.next.left;
        begins = b.next.begins;
        stops = inl (inr (inl (record {
          entry = b.entry;
          follows = record { rest = b.next.rest; more = b.next.more; line = b.next.line; same = b.next.same };
          falls = λ rises. not_falling b.before b.last b.entry b.falls rises;
          is = ap fault.NotRising number;
        })));
      }

  pub other_stop : (line : ℕ) → IsNotCanonical bytes line → IsStop IsTooMuch bytes (fault.NotCanonical line)
  other_stop line b = record {
    header = b.header;
    entries = b.entries;
    left = b.next.left;
    begins = b.next.begins;
    stops = inl (inr (inr (record {
      entry = b.entry;
      follows = record { rest = b.next.rest; more = b.next.more; line = b.next.line; same = b.next.same };
      rises = b.rises;
      other = b.other;
      is = ap fault.NotCanonical b.at;
    })));
  }

  pub wrong_stop : HasWrongTotals bytes → IsStop IsTooMuch bytes fault.WrongTotals
  wrong_stop b = record {
    header = b.header;
    entries = b.entries;
    left = b.left;
    begins = b.lines.begins;
    stops = inr (inl (record { all = b.lines.all; wrong = b.wrong; is = refl }));
  }

-- bytes after a text are too much
pub more_stop : (bytes : List ℕ) (line : ℕ) → HasMore bytes line → IsStop (λ left. left ≢ []) bytes (fault.BadLine line)
more_stop bytes line b = record {
  header = b.header;
  entries = b.entries;
  left = b.left;
  begins = b.lines.begins;
  stops = inr (inr (record { all = b.lines.all; totals = b.totals; much = b.more; is = ap fault.BadLine (b.at ∙ ap (λ n. n + 2) (sym b.lines.all)) }));
}
