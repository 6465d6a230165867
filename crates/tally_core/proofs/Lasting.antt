-- Meetings that are counted, and stays of them.
use Rattle.std.proofs.Common.{◌≡◌, ℕ, ◌+◌, ◌-◌, ◌≤◌, ◌<◌, ◌==◌, true, false, cond, List, [], ◌∷◌, ◌++◌, length, length-append, set, get_or, Option, Some, None, All, refl, ap, ap₂, sym, ◌∙◌, arith}
use Rattle.std.specs.Prelude.{sum_by}
use Rattle.std.proofs.lemmas.Bool.Decides.{nat_tests}
use Rattle.std.proofs.lemmas.List.{get_or_append_left, get_or-map, get_or_default, length-map, map-set, set-get_or}
use Rattle.std.proofs.lemmas.List.Sums.{get_or-le-sum_by, sum_by-cons, sum_by-append}
use Rattle.std.proofs.lemmas.List.Elements.{All-head, All-tail}
use Rattle.tally_core.specs.Inner.Times.{one_pattern, times_in}
use Rattle.tally_core.specs.Walk.{there_among, played_among, shapes_of}
use Rattle.tally_core.specs.Inner.Meeting.{Extends}
use Rattle.tally_core.specs.Inner.Standing.{IsStay, AreStays, patterns_of, patterns_staying, waits, waits_at, waiting}
use Rattle.tally_core.specs.declared.meetings.Meeting.{Meeting}
use Rattle.tally_core.specs.declared.stays.Stay.{Stay}
use Rattle.tally_core.specs.declared.stays.Stays.{Stays}

pub all-of : (only times : ℕ) → one_pattern only times only ≡ times
all-of only times =
    let same : (only == only) ≡ true = Prim.grind (arith, nat_tests) in
    ap (λ t. cond t times 0) same

-- a change of a meeting that keeps its shape keeps the shapes
pub shapes-set : (meetings : List Meeting) (i : ℕ) (old new : Meeting) → i < length (shapes_of meetings) → old ≡ get_or meetings i old → new.shape ≡ old.shape →
    shapes_of (set meetings i new) ≡ shapes_of meetings
shapes-set meetings i old new inside read same =
    let within : i < length meetings = omega (arith, inside, length-map meetings (λ (m : Meeting). m.shape)) in
    map-set (λ m. m.shape) meetings i new
    ∙ ap (set (shapes_of meetings) i) (same ∙ ap (λ (m : Meeting). m.shape) read ∙ sym (get_or-map (λ m. m.shape) meetings i old 0 within))
    ∙ ap (set (shapes_of meetings) i) (get_or_default (shapes_of meetings) i 0 0 inside)
    ∙ set-get_or (shapes_of meetings) i 0

shape-read : (meetings : List Meeting) (i : ℕ) (old : Meeting) → i < length (shapes_of meetings) → old ≡ get_or meetings i old → get_or (shapes_of meetings) i 0 ≡ old.shape
shape-read meetings i old inside read =
    get_or-map (λ m. m.shape) meetings i old 0 (omega (arith, inside, length-map meetings (λ (m : Meeting). m.shape)))
    ∙ sym (ap (λ (m : Meeting). m.shape) read)

-- a meeting says no more than all that have its shape
pub there-inside : (meetings : List Meeting) (i : ℕ) (old : Meeting) → i < length (shapes_of meetings) → old ≡ get_or meetings i old →
    old.there ≤ there_among meetings (get_or (shapes_of meetings) i 0)
there-inside meetings i old inside read =
    let f = λ (only : ℕ) (m : Meeting). cond (m.shape == only) m.there 0 in
    let shape = get_or (shapes_of meetings) i 0 in
    let most = get_or-le-sum_by (f shape) meetings i old (omega (arith, inside, length-map meetings (λ (m : Meeting). m.shape))) in
    let here : f shape (get_or meetings i old) ≡ old.there =
    ap (f shape) (sym read) ∙ ap (λ only. f only old) (shape-read meetings i old inside read) ∙ all-of old.shape old.there in
    omega (arith, most, here)

pub played-inside : (meetings : List Meeting) (i : ℕ) (old : Meeting) → i < length (shapes_of meetings) → old ≡ get_or meetings i old →
    old.played ≤ played_among meetings (get_or (shapes_of meetings) i 0)
played-inside meetings i old inside read =
    let f = λ (only : ℕ) (m : Meeting). cond (m.shape == only) m.played 0 in
    let shape = get_or (shapes_of meetings) i 0 in
    let most = get_or-le-sum_by (f shape) meetings i old (omega (arith, inside, length-map meetings (λ (m : Meeting). m.shape))) in
    let here : f shape (get_or meetings i old) ≡ old.played =
    ap (f shape) (sym read) ∙ ap (λ only. f only old) (shape-read meetings i old inside read) ∙ all-of old.shape old.played in
    omega (arith, most, here)

-- a stay of a meeting says the same once more was met
pub at-extended : (a b : List ℕ) (k : ℕ) → Extends a b → k < length a → get_or b k 0 ≡ get_or a k 0
at-extended a b k h inside = ap (λ xs. get_or xs k 0) h.is ∙ get_or_append_left a h.more 0 k inside

pub patterns-extended : (a b : List ℕ) (occasions : ℕ) (stay : Option Stay) → Extends a b → IsStay (length a) occasions stay → patterns_of b stay ≡ patterns_of a stay
patterns-extended a b occasions None h k = refl
patterns-extended a b occasions (Some stay) h k = ap (λ p. p ∷ []) (at-extended a b stay.meeting h k.0)

pub waits-extended : (a b : List ℕ) (occasions : ℕ) (stay : Option Stay) (shape : ℕ) → Extends a b → IsStay (length a) occasions stay →
    waits b occasions stay shape ≡ waits a occasions stay shape
waits-extended a b occasions None shape h k = refl
waits-extended a b occasions (Some stay) shape h k = ap (λ p. one_pattern p (occasions - stay.since) shape) (at-extended a b stay.meeting h k.0)

pub stay-extended : (a b : ℕ) (occasions : ℕ) (stay : Option Stay) → a ≤ b → IsStay a occasions stay → IsStay b occasions stay
stay-extended a b occasions None h k = k
stay-extended a b occasions (Some stay) h k = (omega (arith, k.0), k.1)

pub length-extended : (a b : List ℕ) → Extends a b → length a ≤ length b
length-extended a b h = omega (arith, ap length h.is, length-append a h.more)

pub staying-extended : (a b : List ℕ) (occasions : ℕ) (stays : Stays) → Extends a b → AreStays (length a) occasions stays → patterns_staying b stays ≡ patterns_staying a stays
staying-extended a b occasions stays h k =
    ap₂ (λ xs ys. xs ++ ys) (patterns-extended a b occasions stays.square h k.square) (patterns-extended a b occasions stays.diamond h k.diamond)

pub waits_at-extended : (a b : List ℕ) (occasions : ℕ) (stays : Stays) (shape : ℕ) → Extends a b → AreStays (length a) occasions stays →
    waits_at b occasions stays shape ≡ waits_at a occasions stays shape
waits_at-extended a b occasions stays shape h k =
    ap₂ (λ m n. m + n) (waits-extended a b occasions stays.square shape h k.square) (waits-extended a b occasions stays.diamond shape h k.diamond)

pub stays-extended : (a b : ℕ) (occasions : ℕ) (stays : Stays) → a ≤ b → AreStays a occasions stays → AreStays b occasions stays
stays-extended a b occasions stays h k = record {
  square = stay-extended a b occasions stays.square h k.square;
  diamond = stay-extended a b occasions stays.diamond h k.diamond;
}

pub waiting-extended : (a b : List ℕ) (occasions : ℕ) (points : List Stays) (shape : ℕ) → Extends a b → All (AreStays (length a) occasions) points →
    waiting b occasions points shape ≡ waiting a occasions points shape
waiting-extended a b occasions [] shape h k = refl
waiting-extended a b occasions (stays ∷ points) shape h k =
    sum_by-cons (λ s. waits_at b occasions s shape) stays points
    ∙ ap₂ (λ m n. m + n)
    (waits_at-extended a b occasions stays shape h (All-head (AreStays (length a) occasions) stays points k))
    (waiting-extended a b occasions points shape h (All-tail (AreStays (length a) occasions) stays points k))
    ∙ sym (sum_by-cons (λ s. waits_at a occasions s shape) stays points)

-- ---- one occasion more

waits-longer : (shapes : List ℕ) (met occasions : ℕ) (stay : Option Stay) (shape : ℕ) → IsStay met occasions stay →
    waits shapes (occasions + 1) stay shape ≡ waits shapes occasions stay shape + times_in (patterns_of shapes stay) shape
waits-longer shapes met occasions None shape h = refl
waits-longer shapes met occasions (Some stay) shape h =
    let only = get_or shapes stay.meeting 0 in
    elim (only == shape) as (λ t. cond t (occasions + 1 - stay.since) 0 ≡ cond t (occasions - stay.since) 0 + (0 + cond t 1 0))
    [ true ↦ omega (arith, h.1) | false ↦ refl ]

pub times-append : (shape : ℕ) (xs ys : List ℕ) → times_in (xs ++ ys) shape ≡ times_in xs shape + times_in ys shape
times-append shape xs ys = sum_by-append (λ c. cond (c == shape) 1 0) xs ys

waits_at-longer : (shapes : List ℕ) (met occasions : ℕ) (stays : Stays) (shape : ℕ) → AreStays met occasions stays →
    waits_at shapes (occasions + 1) stays shape ≡ waits_at shapes occasions stays shape + times_in (patterns_staying shapes stays) shape
waits_at-longer shapes met occasions stays shape h =
    omega (
      arith,
      waits-longer shapes met occasions stays.square shape h.square,
      waits-longer shapes met occasions stays.diamond shape h.diamond,
      times-append shape (patterns_of shapes stays.square) (patterns_of shapes stays.diamond),
    )

pub waiting-longer : (shapes : List ℕ) (met occasions : ℕ) (points : List Stays) (shape : ℕ) → All (AreStays met occasions) points →
    waiting shapes (occasions + 1) points shape ≡ waiting shapes occasions points shape + sum_by (λ stays. times_in (patterns_staying shapes stays) shape) points
waiting-longer shapes met occasions [] shape h = refl
waiting-longer shapes met occasions (stays ∷ points) shape h =
    omega (
      arith,
      sum_by-cons (λ s. waits_at shapes (occasions + 1) s shape) stays points,
      sum_by-cons (λ s. waits_at shapes occasions s shape) stays points,
      sum_by-cons (λ s. times_in (patterns_staying shapes s) shape) stays points,
      waits_at-longer shapes met occasions stays shape (All-head (AreStays met occasions) stays points h),
      waiting-longer shapes met occasions points shape (All-tail (AreStays met occasions) stays points h),
    )

stay-longer : (met occasions : ℕ) (stay : Option Stay) → IsStay met occasions stay → IsStay met (occasions + 1) stay
stay-longer met occasions None h = h
stay-longer met occasions (Some stay) h = (h.0, omega (arith, h.1))

pub stays-longer : (met occasions : ℕ) (stays : Stays) → AreStays met occasions stays → AreStays met (occasions + 1) stays
stays-longer met occasions stays h = record { square = stay-longer met occasions stays.square h.square; diamond = stay-longer met occasions stays.diamond h.diamond }
