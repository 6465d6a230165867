-- A tree that is read mark by mark: each step, the end, and each fault.
use Rattle.std.proofs.Common.{◌≡◌, ◌≢◌, ◌⊎◌, ℕ, zero, suc, ◌+◌, ◌<◌, ◌≤◌, Bool, true, false, IsTrue, List, [], ◌∷◌, ◌++◌, length, drop, refl, sym, ap, ◌∙◌, subst, inl, inr, append_assoc, arith, rules}
use Rattle.std.specs.Prelude.{slice_range, slice_index, ◌==◌, ◌||◌, Option, Some, None, IsSomeAnd}
use Rattle.std.specs.List.{list_all}
use Rattle.std.proofs.lemmas.List.{drop_more, get_or-drop, length-drop}
use Rattle.std.proofs.lemmas.Bool.{cases_lt}
use Rattle.std.proofs.lemmas.Bool.Decides.{nat_tests}
use Rattle.sgf_core.specs.Bytes.{is_white, is_letter, open_parenthesis, close_parenthesis, semicolon, open_bracket, close_bracket}
use Rattle.sgf_core.specs.Tree.{GameTree, Property}
use Rattle.sgf_core.specs.Grammar.{names, has_value, WritesParts, WritesTree, IsGoodFront}
use Rattle.sgf_core.specs.Next.{BeginsTree, IsFirstBegin, EndsWithIdentifier}
use Rattle.sgf_core.specs.Marks.{marks_of}
use Rattle.sgf_core.specs.Inner.Turns.{IsTurn}
use Rattle.sgf_core.specs.declared.parse.Turn.TheVariants as turn
use Rattle.sgf_core.specs.Reading.{IsFaultAt}
use Rattle.sgf_core.specs.Inner.Pieces.{Wrote, mark_parts, parts_of, IsAllowed, is_fitting, IsWhole, ReadsMark, EndsInMark, IsMisfit, IsNameAlone, MarkFault, IsKept}
use Rattle.sgf_core.specs.declared.marks.Mark.{Mark}
use Rattle.sgf_core.specs.declared.marks.Mark.TheVariants as mark
use Rattle.sgf_core.specs.declared.marks.Expects.{Expects}
use Rattle.sgf_core.specs.declared.marks.Expects.TheVariants as expects
use Rattle.sgf_core.specs.declared.faults.SgfFault.{SgfFault}
use Rattle.sgf_core.specs.declared.faults.SgfFault.TheVariants as fault
use Rattle.sgf_core.proofs.Slices.{slice-drop, slice-join, slice-first, length-slice}
use Rattle.sgf_core.proofs.States.{Phase, begun, in_name, named, valued, State, dead, done, live, step, run, run-append, run-dead}
use Rattle.sgf_core.proofs.StateLemmas.{run-white, and-left, and-right}
use Rattle.sgf_core.proofs.Stages.{inside, ended}
use Rattle.sgf_core.proofs.Runs.{Agrees, stage_behind, state_behind, agrees_behind, mark-run, name-run}
use Rattle.sgf_core.proofs.Writing.{wrote-white, white-front}
use Rattle.sgf_core.proofs.MarkLemmas.{text-wrote}
use Rattle.sgf_core.proofs.PropertyLemmas.{name_first, value_parts}
use Rattle.sgf_core.proofs.Fronts.{IsFront, good_front, front-good, front-more, front-agrees, front-push, agrees-white, agrees-live, writes_tree, follow-push, writes-push}
use Rattle.sgf_core.proofs.Stops.{IsLive, IsBoundary, truncated, turns_bad, no_identifier}

-- how far the tree that begins at `at` has been read
pub record IsFrontAt (bytes : List ℕ) (at place : ℕ) (marks : List Mark) (expected : Expects) (depth : ℕ) : Type 0 where
  pub inner : List Mark
  pub is : marks ≡ mark.Begin ∷ inner
  pub front : IsFront at inner expected depth (slice_range bytes (at + 1) place)
  pub after : at < place
  pub within : place ≤ length bytes
  pub deep : depth < place
  pub whole : (deep : ℕ) → run (live begun 0) (slice_range bytes (at + 1) place) ≡ live valued deep → place < length bytes → (slice_index bytes place ≢ open_bracket) × (is_white (slice_index bytes place) ≡ false)

not_valued : (m : Mark) (depth deep : ℕ) (bytes : List ℕ) (end : ℕ) → state_behind m depth ≡ live valued deep → IsWhole bytes end m → end < length bytes → (slice_index bytes end ≢ open_bracket) × (is_white (slice_index bytes end) ≡ false)
not_valued mark.Begin depth deep bytes end h whole = absurd cc
not_valued mark.Node depth deep bytes end h whole = absurd cc
not_valued (mark.Prop property) depth deep bytes end h whole = whole
not_valued mark.End zero deep bytes end h whole = absurd cc
not_valued mark.End (suc depth) deep bytes end h whole = absurd cc

-- a mark
pub front_goes_on : (bytes : List ℕ) (at place end : ℕ) (marks : List Mark) (e : Expects) (depth : ℕ) (m : Mark) (next : Expects) (deep : ℕ) → IsFrontAt bytes at place marks e depth → ReadsMark bytes e place end m
    → stage_behind m depth ≡ inside next deep → deep < end → IsFrontAt bytes at end (marks ++ m ∷ []) next deep
front_goes_on bytes at place end marks e depth m next deep h read is deeper =
    let a = slice_range bytes (at + 1) place in
    let b = slice_range bytes place end in
    let l : at + 1 + length a ≡ place = length-slice bytes (at + 1) place (omega (arith, h.after)) h.within in
    let wrote : Wrote place (mark_parts m) b = text-wrote place m b read.wrote in
    let joined : a ++ b ≡ slice_range bytes (at + 1) end = sym (slice-join bytes (at + 1) place end (omega (arith, h.after)) (omega (arith, read.forward))) in
    let state = run (live begun 0) a in
    let agrees : Agrees state (inside e depth) = front-agrees at h.inner e depth a h.front in
    let body : run state wrote.body ≡ state_behind m depth = mark-run e depth m state place wrote.body agrees read.allowed wrote.writes in
    let behind : Agrees (state_behind m depth) (inside next deep) = subst (λ s. Agrees (state_behind m depth) s) is (agrees_behind m depth) in
    let reached : run (live begun 0) (a ++ b) ≡ state_behind m depth =
    run-append (live begun 0) a b
    ∙ (ap (run state) wrote.is ∙ (run-append state wrote.body wrote.white ∙ (ap (λ (s : State). run s wrote.white) body ∙ agrees-white (state_behind m depth) next deep wrote.white behind wrote.ends_white))) in
    record {
      inner = h.inner ++ m ∷ [];
      is = ap (λ (ms : List Mark). ms ++ m ∷ []) h.is;
      front = subst (λ ys. IsFront at (h.inner ++ m ∷ []) next deep ys) joined (front-push at h.inner e depth a m next deep b h.front read.allowed is (subst (λ n. Wrote n (mark_parts m) b) (sym l) wrote));
      after = omega (arith, h.after, read.forward);
      within = read.in_input;
      deep = deeper;
      whole = λ d v. not_valued m depth d bytes end (sym reached ∙ (ap (run (live begun 0)) joined ∙ v)) read.whole;
    }

-- the last mark
pub front_ends : (bytes : List ℕ) (at place end : ℕ) (marks : List Mark) (e : Expects) → slice_index bytes at ≡ open_parenthesis → IsFrontAt bytes at place marks e 0 → ReadsMark bytes e place end mark.End
    → (tree : GameTree) × WritesTree at tree (slice_range bytes at end) × (marks ++ mark.End ∷ [] ≡ marks_of tree)
front_ends bytes at place end marks e opens_at h read =
    let a = slice_range bytes (at + 1) place in
    let b = slice_range bytes place end in
    let l : at + 1 + length a ≡ place = length-slice bytes (at + 1) place (omega (arith, h.after)) h.within in
    let joined : a ++ b ≡ slice_range bytes (at + 1) end = sym (slice-join bytes (at + 1) place end (omega (arith, h.after)) (omega (arith, read.forward))) in
    let found = writes_tree at (h.inner ++ mark.End ∷ []) (a ++ b) (follow-push h.inner mark.End e 0 h.front.follows read.allowed)
    (writes-push (at + 1) h.inner mark.End a b h.front.wrote (subst (λ n. WritesParts n (mark_parts mark.End) b) (sym l) read.wrote)) in
    let text : open_parenthesis ∷ (a ++ b) ≡ slice_range bytes at end =
    ap (λ (ys : List ℕ). open_parenthesis ∷ ys) joined ∙ (ap (λ (c : ℕ). c ∷ slice_range bytes (at + 1) end) (sym opens_at) ∙ sym (slice-first bytes at end (omega (arith, h.after, read.forward)) (omega (arith, h.after, h.within, read.forward, read.in_input)))) in
    (found.0, subst (λ ys. WritesTree at found.0 ys) text found.1, ap (λ (ms : List Mark). ms ++ mark.End ∷ []) h.is ∙ found.2)

-- ---- faults

or-false : (a b : Bool) → (a || b) ≡ false → (a ≡ false) × (b ≡ false)
or-false true b h = absurd cc
or-false false b h = (refl, h)

-- a byte with which nothing that may come begins
misfit-step : (state : State) (e : Expects) (depth byte : ℕ) → Agrees state (inside e depth) → is_white byte ≡ false → is_fitting e byte ≡ false → ((deep : ℕ) → state ≡ live valued deep → byte ≢ open_bracket) → step state byte ≡ dead
misfit-step state expects.Node depth byte g white fits value = ap (λ (s : State). step s byte) g ∙ rw (white, fits) refl
misfit-step state expects.Any depth byte g white fits value =
    let three = or-false (is_letter byte || byte == semicolon || byte == open_parenthesis) (byte == close_parenthesis) fits in
    let two = or-false (is_letter byte || byte == semicolon) (byte == open_parenthesis) three.0 in
    let one = or-false (is_letter byte) (byte == semicolon) two.0 in
    ap (λ (s : State). step s byte) g.2
    ∙ elim g.1 [
      | inl p ↦ rw p (rw (white, one.1, one.0, two.1, three.1) refl)
      | inr p ↦
          let other : byte ≢ open_bracket = value depth (g.2 ∙ ap (λ (x : Phase). live x depth) p) in
          let differs : (byte == open_bracket) ≡ false = grind (arith, nat_tests) in
          rw p (rw (white, differs, one.1, one.0, two.1, three.1) refl)
    ]
misfit-step state expects.Tree depth byte g white fits value =
    let one = or-false (byte == open_parenthesis) (byte == close_parenthesis) fits in
    ap (λ (s : State). step s byte) g ∙ rw (white, one.0, one.1) refl

agrees-boundary : (state : State) (e : Expects) (depth : ℕ) → Agrees state (inside e depth) → IsBoundary state
agrees-boundary state expects.Node depth g = subst (λ s. IsBoundary s) (sym g) tt
agrees-boundary state expects.Any depth g = subst (λ s. IsBoundary s) (sym g.2) (elim g.1 [ inl p ↦ rw p tt | inr p ↦ rw p tt ])
agrees-boundary state expects.Tree depth g = subst (λ s. IsBoundary s) (sym g) tt

behind-not_dead : (m : Mark) (depth : ℕ) → state_behind m depth ≡ dead → ⊥
behind-not_dead mark.Begin depth h = cc
behind-not_dead mark.Node depth h = cc
behind-not_dead (mark.Prop property) depth h = cc
behind-not_dead mark.End zero h = cc
behind-not_dead mark.End (suc depth) h = cc

-- what may go on to no dead state is live
before_live : (state : State) (more : List ℕ) → more ≢ [] → (run state more ≡ dead → ⊥) → IsLive state
before_live dead more some goes = absurd (goes (run-dead more))
before_live done [] some goes = absurd (some refl)
before_live done (byte ∷ more) some goes = absurd (goes (run-dead more))
before_live (live phase depth) more some goes = record { phase = phase; depth = depth; is = refl }

-- after a whole mark, a byte that fits no mark begins no value either
no_value : (bytes : List ℕ) (e : Expects) (place bad : ℕ) → IsMisfit bytes e place bad → (place < length bytes → (slice_index bytes place ≢ open_bracket) × (is_white (slice_index bytes place) ≡ false)) → slice_index bytes bad ≢ open_bracket
no_value bytes e place bad k whole =
    elim (cases_lt place bad) [
      | inl before ↦
          let within : place < length bytes = omega (arith, k.in_input) in
          let here : IsTrue (is_white (slice_index bytes place)) =
          and-left (is_white (slice_index bytes place)) (list_all is_white (slice_range bytes (place + 1) bad)) (subst (λ ys. IsTrue (list_all is_white ys)) (slice-first bytes place bad before within) k.white) in
          let other : is_white (slice_index bytes place) ≡ false = (whole within).1 in
          absurd cc
      | inr over ↦
          let same : place ≡ bad = omega (arith, k.after) in
          subst (λ i. slice_index bytes i ≢ open_bracket) same (whole (omega (arith, k.in_input))).0
    ]

-- the last of some
last_of : (p : ℕ → Bool) (xs : List ℕ) → xs ≢ [] → IsTrue (list_all p xs) → (front : List ℕ) × (last : ℕ) × (xs ≡ front ++ last ∷ []) × IsTrue (p last)
last_of p [] some all = absurd (some refl)
last_of p (x ∷ []) some all = ([], x, refl, and-left (p x) true all)
last_of p (x ∷ y ∷ xs) some all =
    let later = last_of p (y ∷ xs) (λ none. cc) (and-right (p x) (list_all p (y ∷ xs)) all) in
    (x ∷ later.0, later.1, ap (λ (ys : List ℕ). x ∷ ys) later.2, later.3)

-- after a name and white bytes, what is neither a letter of the name nor a value leads nowhere
white_names : (depth byte : ℕ) → IsTrue (is_white byte) → step (live in_name depth) byte ≡ live named depth
white_names depth byte h =
    let other : is_letter byte ≡ false = grind (arith, nat_tests) in
    rw (other, h) refl

name-stops : (depth byte : ℕ) (behind : List ℕ) → IsTrue (list_all is_white behind) → is_white byte ≡ false → byte ≢ open_bracket → (behind ≡ [] → is_letter byte ≡ false)
    → IsLive (run (live in_name depth) behind) × (step (run (live in_name depth) behind) byte ≡ dead)
name-stops depth byte [] h white value letter =
    let differs : (byte == open_bracket) ≡ false = grind (arith, nat_tests) in
    let other : is_letter byte ≡ false = letter refl in
    (record { phase = in_name; depth = depth; is = refl }, rw (other, white, differs) refl)
name-stops depth byte (c ∷ behind) h white value letter =
    let differs : (byte == open_bracket) ≡ false = grind (arith, nat_tests) in
    let now : step (live in_name depth) c ≡ live named depth = white_names depth c (and-left (is_white c) (list_all is_white behind) h) in
    let reached : run (live in_name depth) (c ∷ behind) ≡ live named depth = ap (λ (s : State). run s behind) now ∙ run-white named depth behind tt (and-right (is_white c) (list_all is_white behind) h) in (
      record { phase = named; depth = depth; is = reached },
      ap (λ (s : State). step s byte) reached ∙ rw (white, differs) refl,
    )

module _ (bytes : List ℕ) (from at place : ℕ) (marks : List Mark) (e : Expects) (depth : ℕ) (opens_at : slice_index bytes at ≡ open_parenthesis) (first : IsFirstBegin bytes from at) (h : IsFrontAt bytes at place marks e depth) where
  is_truncated : EndsInMark bytes e place → IsFaultAt bytes from (fault.Truncated at)
  is_truncated k =
      let a = slice_range bytes (at + 1) place in
      let r = drop place bytes in
      let within : at < length bytes = omega (arith, h.after, h.within) in
      let l : at + 1 + length a ≡ place = length-slice bytes (at + 1) place (omega (arith, h.after)) h.within in
      let tail : drop (at + 1) bytes ≡ a ++ r = slice-drop bytes (at + 1) place (omega (arith, h.after)) in
      let all : drop at bytes ≡ open_parenthesis ∷ (a ++ r) = drop_more bytes at 0 within ∙ (ap (λ (c : ℕ). c ∷ drop (at + 1) bytes) opens_at ∙ ap (λ (ys : List ℕ). open_parenthesis ∷ ys) tail) in
      let state = run (live begun 0) a in
      let goes : run (run state r) k.more ≡ state_behind k.begun depth = sym (run-append state r k.more) ∙ mark-run e depth k.begun state place (r ++ k.more) (front-agrees at h.inner e depth a h.front) k.allowed k.writes in
      let alive : IsLive (run state r) = before_live (run state r) k.more k.some_more (λ d. behind-not_dead k.begun depth (sym goes ∙ d)) in
      let good : IsGoodFront at (open_parenthesis ∷ (a ++ (r ++ k.more))) = front-more at h.inner e depth a k.begun (r ++ k.more) h.front k.allowed (subst (λ n. WritesParts n (mark_parts k.begun) (r ++ k.more)) (sym l) k.writes) in
      truncated bytes from at within first (subst (λ s. IsLive s) (sym (ap (run (live begun 0)) tail ∙ run-append (live begun 0) a r)) alive)
      (subst (λ ys. IsGoodFront at ys) (sym all) (good_front at (open_parenthesis ∷ (a ++ r)) k.more (subst (λ ys. IsGoodFront at ys) (ap (λ (ys : List ℕ). open_parenthesis ∷ ys) (sym (append_assoc a r k.more))) good)))

  is_bad : (bad : ℕ) → IsMisfit bytes e place bad → IsFaultAt bytes from (fault.BadByte bad)
  is_bad bad k =
      let a = slice_range bytes (at + 1) place in
      let w = slice_range bytes place bad in
      let x = slice_range bytes (at + 1) bad in
      let is : x ≡ a ++ w = slice-join bytes (at + 1) place bad (omega (arith, h.after)) k.after in
      let state = run (live begun 0) a in
      let agrees : Agrees state (inside e depth) = front-agrees at h.inner e depth a h.front in
      let reached : run (live begun 0) x ≡ state = ap (run (live begun 0)) is ∙ (run-append (live begun 0) a w ∙ agrees-white state e depth w agrees k.white) in
      let state_is = agrees-live state e depth agrees in
      let stops : step state (slice_index bytes bad) ≡ dead = misfit-step state e depth (slice_index bytes bad) agrees k.not_white k.misfit (λ deep v. no_value bytes e place bad k (h.whole deep v)) in
      let good : IsGoodFront at (open_parenthesis ∷ (a ++ w)) = front-good at h.inner e depth (a ++ w) (record { wrote = wrote-white (at + 1) (parts_of h.inner) a w h.front.wrote k.white; follows = h.front.follows }) in
      let turns = turns_bad bytes from at bad (omega (arith, h.after, k.after)) k.in_input opens_at first (record { phase = state_is.0; depth = depth; is = reached ∙ state_is.1 })
      (ap (λ (s : State). step s (slice_index bytes bad)) reached ∙ stops) (subst (λ ys. IsGoodFront at ys) (ap (λ (ys : List ℕ). open_parenthesis ∷ ys) (sym is)) good) in
      let front : slice_range bytes at bad ≡ open_parenthesis ∷ x = slice-first bytes at bad (omega (arith, h.after, k.after)) (omega (arith, h.after, k.after, k.in_input)) ∙ ap (λ (c : ℕ). c ∷ x) opens_at in
      (at, (turns, λ ends. no_identifier x (subst (λ s. IsBoundary s) (sym reached) (agrees-boundary state e depth agrees)) (subst (λ ys. EndsWithIdentifier ys) front ends)))

  is_no_value : (bad : ℕ) → e ≡ expects.Any → IsNameAlone bytes place bad → IsFaultAt bytes from (fault.NoValue bad)
  is_no_value bad any k =
      let a = slice_range bytes (at + 1) place in
      let x = slice_range bytes (at + 1) bad in
      let n = k.before ++ (k.letters ++ k.behind) in
      let is : x ≡ a ++ n = slice-join bytes (at + 1) place bad (omega (arith, h.after)) k.after ∙ ap (λ (ys : List ℕ). a ++ ys) k.is in
      let state = run (live begun 0) a in
      let agrees : Agrees state (inside expects.Any depth) = subst (λ y. Agrees state (inside y depth)) any (front-agrees at h.inner e depth a h.front) in
      let name_end : run state (k.before ++ k.letters) ≡ live in_name depth =
      run-append state k.before k.letters
      ∙ (ap (λ (s : State). run s k.letters) (agrees-white state expects.Any depth k.before agrees k.before_white ∙ agrees.2) ∙ name-run agrees.0 depth k.letters agrees.1 k.some_letters k.are_letters) in
      let reached : run (live begun 0) x ≡ run (live in_name depth) k.behind =
      ap (run (live begun 0)) is
      ∙ (run-append (live begun 0) a n
      ∙ (ap (run state) (sym (append_assoc k.before k.letters k.behind)) ∙ (run-append state (k.before ++ k.letters) k.behind ∙ ap (λ (s : State). run s k.behind) name_end))) in
      let stops = name-stops depth (slice_index bytes bad) k.behind k.behind_white k.not_white k.no_value k.no_letter in
      let close : List ℕ = open_bracket ∷ close_bracket ∷ [] in
      let l : at + 1 + length a ≡ place = length-slice bytes (at + 1) place (omega (arith, h.after)) h.within in
      let p : ℕ = at + 1 + length a in
      let value_at : ℕ = p + length k.before + length k.letters + length k.behind in
      let property : Property = record { identifier = k.letters; values = record { at = value_at + 1; bytes = [] } ∷ [] } in
      let value_text : WritesParts (p + length k.before + length k.letters) (has_value (record { at = value_at + 1; bytes = [] }) ∷ []) (k.behind ++ close) =
      white-front (p + length k.before + length k.letters) k.behind (has_value (record { at = value_at + 1; bytes = [] })) [] close k.behind_white (value_parts value_at [] refl) in
      let text : WritesParts p (mark_parts (mark.Prop property)) (k.before ++ (k.letters ++ (k.behind ++ close))) =
      white-front p k.before (names k.letters) (has_value (record { at = value_at + 1; bytes = [] }) ∷ []) (k.letters ++ (k.behind ++ close)) k.before_white
      (name_first (p + length k.before) k.letters (record { at = value_at + 1; bytes = [] } ∷ []) (k.behind ++ close) k.some_letters k.are_letters value_text) in
      let allowed : IsAllowed e (mark.Prop property) = subst (λ y. IsAllowed y (mark.Prop property)) (sym any) (λ none. cc) in
      let good : IsGoodFront at (open_parenthesis ∷ (a ++ (k.before ++ (k.letters ++ (k.behind ++ close))))) = front-more at h.inner e depth a (mark.Prop property) (k.before ++ (k.letters ++ (k.behind ++ close))) h.front allowed text in
      let regroup : open_parenthesis ∷ (a ++ (k.before ++ (k.letters ++ (k.behind ++ close)))) ≡ (open_parenthesis ∷ x) ++ close =
      ap (λ (ys : List ℕ). open_parenthesis ∷ (a ++ ys)) (ap (λ (ys : List ℕ). k.before ++ ys) (sym (append_assoc k.letters k.behind close)) ∙ sym (append_assoc k.before (k.letters ++ k.behind) close))
      ∙ (ap (λ (ys : List ℕ). open_parenthesis ∷ ys) (sym (append_assoc a n close)) ∙ ap (λ (ys : List ℕ). open_parenthesis ∷ (ys ++ close)) (sym is)) in
      let turns = turns_bad bytes from at bad (omega (arith, h.after, k.after)) k.in_input opens_at first (subst (λ s. IsLive s) (sym reached) stops.0)
      (ap (λ (s : State). step s (slice_index bytes bad)) reached ∙ stops.1) (good_front at (open_parenthesis ∷ x) close (subst (λ ys. IsGoodFront at ys) regroup good)) in
      let front : slice_range bytes at bad ≡ open_parenthesis ∷ x = slice-first bytes at bad (omega (arith, h.after, k.after)) (omega (arith, h.after, k.after, k.in_input)) ∙ ap (λ (c : ℕ). c ∷ x) opens_at in
      let last = last_of is_letter k.letters k.some_letters k.are_letters in
      let before : List ℕ = open_parenthesis ∷ (a ++ (k.before ++ last.0)) in
      let ends : slice_range bytes at bad ≡ before ++ last.1 ∷ k.behind =
      front ∙ (ap (λ (ys : List ℕ). open_parenthesis ∷ ys) is
      ∙ (ap (λ (ys : List ℕ). open_parenthesis ∷ (a ++ (k.before ++ (ys ++ k.behind)))) last.2
      ∙ (ap (λ (ys : List ℕ). open_parenthesis ∷ (a ++ (k.before ++ ys))) (append_assoc last.0 (last.1 ∷ []) k.behind)
      ∙ (ap (λ (ys : List ℕ). open_parenthesis ∷ (a ++ ys)) (sym (append_assoc k.before last.0 (last.1 ∷ k.behind)))
      ∙ ap (λ (ys : List ℕ). open_parenthesis ∷ ys) (sym (append_assoc a (k.before ++ last.0) (last.1 ∷ k.behind))))))) in
      (at, (turns, record { before = before; letter = last.1; white = k.behind; ends = ends; is_letter = last.3; is_white = k.behind_white }))

  -- what comes in place of a mark
  pub is_fault : (f : SgfFault) → MarkFault bytes at e place f → IsFaultAt bytes from f
  is_fault (fault.Truncated found) k = subst (λ i. IsFaultAt bytes from (fault.Truncated i)) (sym k.0) (is_truncated k.1)
  is_fault (fault.BadByte bad) k = is_bad bad k
  is_fault (fault.NoValue bad) k = is_no_value bad k.0 k.1
  is_fault fault.TooLarge k = k
  is_fault fault.Memory k = k

-- where a tree begins
pub begins_at : (bytes : List ℕ) (at : ℕ) → BeginsTree (drop at bytes) → (at < length bytes) × (slice_index bytes at ≡ open_parenthesis)
begins_at bytes at h =
    let l : length (drop at bytes) ≡ suc (length (h.white ++ semicolon ∷ h.rest)) = ap (λ (ys : List ℕ). length ys) h.begins in
    let here : slice_index (drop at bytes) 0 ≡ slice_index bytes at = get_or-drop at bytes 0 0 ∙ ap (λ (i : ℕ). slice_index bytes i) (omega arith) in
    (omega (arith, length-drop at bytes), sym here ∙ ap (λ (ys : List ℕ). slice_index ys 0) h.begins)

-- ---- as the loop knows its marks

leads_any : (m : Mark) (depth : ℕ) (next : Expects) (deep : ℕ) → (m ≡ mark.Node) ⊎ ((property : Property) × (m ≡ mark.Prop property)) → next ≡ expects.Any → deep ≡ depth → stage_behind m depth ≡ inside next deep
leads_any m depth next deep h n d =
    elim h [ inl e ↦ ap (λ (x : Mark). stage_behind x depth) e | inr e ↦ ap (λ (x : Mark). stage_behind x depth) e.1 ]
    ∙ (ap (λ (x : Expects). inside x depth) (sym n) ∙ ap (λ (x : ℕ). inside next x) (sym d))

leads_node : (m : Mark) (depth : ℕ) (next : Expects) (deep : ℕ) → m ≡ mark.Begin → next ≡ expects.Node → deep ≡ suc depth → stage_behind m depth ≡ inside next deep
leads_node m depth next deep h n d = ap (λ (x : Mark). stage_behind x depth) h ∙ (ap (λ (x : Expects). inside x (suc depth)) (sym n) ∙ ap (λ (x : ℕ). inside next x) (sym d))

leads_tree : (m : Mark) (depth : ℕ) (next : Expects) (deep : ℕ) → m ≡ mark.End → next ≡ expects.Tree → depth ≡ suc deep → stage_behind m depth ≡ inside next deep
leads_tree m depth next deep h n d = ap (λ (x : Mark). stage_behind x depth) h ∙ (ap ended d ∙ ap (λ (x : Expects). inside x deep) (sym n))

module _ (bytes : List ℕ) (at place end : ℕ) (marks pushed : List Mark) (e : Expects) (depth : ℕ) (m : Mark) (h : IsFrontAt bytes at place marks e depth) (read : ReadsMark bytes e place end m) (push : pushed ≡ marks ++ m ∷ []) where
  pub goes_to_any : (next : Expects) (deep : ℕ) → (m ≡ mark.Node) ⊎ ((property : Property) × (m ≡ mark.Prop property)) → next ≡ expects.Any → deep ≡ depth → IsFrontAt bytes at end pushed next deep
  goes_to_any next deep is n d =
      subst (λ ms. IsFrontAt bytes at end ms next deep) (sym push) (front_goes_on bytes at place end marks e depth m next deep h read (leads_any m depth next deep is n d) (omega (arith, h.deep, read.forward)))

  pub goes_to_node : (next : Expects) (deep : ℕ) → m ≡ mark.Begin → next ≡ expects.Node → deep ≡ depth + 1 → IsFrontAt bytes at end pushed next deep
  goes_to_node next deep is n d =
      subst (λ ms. IsFrontAt bytes at end ms next deep) (sym push) (front_goes_on bytes at place end marks e depth m next deep h read (leads_node m depth next deep is n (omega arith)) (omega (arith, h.deep, read.forward)))

  pub goes_to_tree : (next : Expects) (deep : ℕ) → m ≡ mark.End → next ≡ expects.Tree → depth ≡ deep + 1 → IsFrontAt bytes at end pushed next deep
  goes_to_tree next deep is n d =
      subst (λ ms. IsFrontAt bytes at end ms next deep) (sym push) (front_goes_on bytes at place end marks e depth m next deep h read (leads_tree m depth next deep is n (omega arith)) (omega (arith, h.deep, read.forward)))

  pub goes_to_end : slice_index bytes at ≡ open_parenthesis → m ≡ mark.End → depth ≡ 0 → (tree : GameTree) × WritesTree at tree (slice_range bytes at end) × (pushed ≡ marks_of tree)
  goes_to_end opens_at is none =
      let found = front_ends bytes at place end marks e opens_at (subst (λ d. IsFrontAt bytes at place marks e d) none h) (subst (λ x. ReadsMark bytes e place end x) is read) in
      (found.0, found.1, push ∙ (ap (λ (x : Mark). marks ++ x ∷ []) is ∙ found.2))

-- how far the tree has been read, and which marks were kept
pub record IsFrontKept (bytes : List ℕ) (at place : ℕ) (items : List Mark) (kept : Bool) (expected : Expects) (depth : ℕ) : Type 0 where
  pub all : List Mark
  pub front : IsFrontAt bytes at place all expected depth
  pub same : kept ≡ true → items ≡ all

pub kept_pushed : (kept : Option Mark) (m : Mark) (new old all : List Mark) → IsKept kept m → IsSomeAnd kept (λ one. new ≡ old ++ one ∷ []) → old ≡ all → new ≡ all ++ m ∷ []
kept_pushed None m new old all is pushed same = absurd pushed
kept_pushed (Some one) m new old all is pushed same =
    pushed ∙ (ap (λ (ms : List Mark). ms ++ one ∷ []) same ∙ ap (λ (x : Mark). all ++ x ∷ []) is)

-- what a mark is by what it does
pub mark_stays : (m : Mark) → IsTurn m turn.Stays → (m ≡ mark.Node) ⊎ ((property : Property) × (m ≡ mark.Prop property))
mark_stays mark.Begin is = absurd cc
mark_stays mark.Node is = inl refl
mark_stays (mark.Prop property) is = inr (property, refl)
mark_stays mark.End is = absurd cc

pub mark_opens : (m : Mark) → IsTurn m turn.Opens → m ≡ mark.Begin
mark_opens mark.Begin is = refl
mark_opens mark.Node is = absurd cc
mark_opens (mark.Prop property) is = absurd cc
mark_opens mark.End is = absurd cc

pub mark_closes : (m : Mark) → IsTurn m turn.Closes → m ≡ mark.End
mark_closes mark.Begin is = absurd cc
mark_closes mark.Node is = absurd cc
mark_closes (mark.Prop property) is = absurd cc
mark_closes mark.End is = refl

-- after the first parenthesis
pub front_begun : (bytes : List ℕ) (at : ℕ) → at < length bytes → IsFrontAt bytes at (at + 1) (mark.Begin ∷ []) expects.Node 0
front_begun bytes at within = search (rules, within)
