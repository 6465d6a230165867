-- Good texts among those that are read, and the text of a number.
use Rattle.std.proofs.Common.{◌≡◌, ℕ, zero, suc, ◌+◌, ◌<◌, Bool, true, false, List, [], ◌∷◌, ◌++◌, length, drop, Option, Some, refl, ap, sym, subst, ◌∙◌, inl, inr, arith, if◌then◌else◌}
use Rattle.std.proofs.lemmas.List.{append-nil}
use Rattle.batch_core.specs.Batch.{AreGamesOf}
use Rattle.go_record.specs.Actions.{Actions}
use Rattle.merge_core.specs.Merge.{AreInputs}
use Rattle.tally_parts.specs.Parts.{IsGood, IsLeftOut, AreGood}
use Rattle.tally_parts.specs.Inner.Joining.{AreAllGood}

-- texts that are read after others
pub good_append : (first more good others : List (List ℕ)) → AreGood first good → AreGood more others → AreGood (first ++ more) (good ++ others)
good_append [] more good others h k = subst (λ (x : List (List ℕ)). AreGood more (x ++ others)) (sym h) k
good_append (text ∷ first) more good others (inl h) k =
    inl (h.0, (h.1.0 ++ others, ap (λ (x : List (List ℕ)). x ++ others) h.1.1, good_append first more h.1.0 others h.1.2 k))
good_append (text ∷ first) more good others (inr h) k = inr (h.0, good_append first more good others h.1 k)

-- one text more, which is good or left out
pub good_one : (read good : List (List ℕ)) (text : List ℕ) → AreGood read good → IsGood text → AreGood (read ++ text ∷ []) (good ++ text ∷ [])
good_one read good text h is = good_append read (text ∷ []) good (text ∷ []) h (inl (is, ([], refl, refl)))

pub good_none : (read good : List (List ℕ)) (text : List ℕ) → AreGood read good → IsLeftOut text → AreGood (read ++ text ∷ []) good
good_none read good text h out =
    subst (λ (x : List (List ℕ)). AreGood (read ++ text ∷ []) x) (append-nil good) (good_append read (text ∷ []) good [] h (inr (out, refl)))

pub all_good : (texts good : List (List ℕ)) → AreGood texts good → AreAllGood good
all_good [] good h = subst AreAllGood (sym h) tt
all_good (text ∷ texts) good (inl h) = subst AreAllGood (sym h.1.1) (h.0, all_good texts h.1.0 h.1.2)
all_good (text ∷ texts) good (inr h) = all_good texts good h.1

pub all_append : (texts others : List (List ℕ)) → AreAllGood texts → AreAllGood others → AreAllGood (texts ++ others)
all_append [] others h k = k
all_append (text ∷ texts) others h k = (h.0, all_append texts others h.1 k)

pub all_front : (texts others : List (List ℕ)) → AreAllGood (texts ++ others) → AreAllGood texts
all_front [] others h = tt
all_front (text ∷ texts) others h = (h.0, all_front texts others h.1)

pub all_waiting : (waits : Bool) (room : List ℕ) → (waits ≡ true → IsGood room) → AreAllGood (if waits then room ∷ [] else [])
all_waiting true room h = (h refl, tt)
all_waiting false room h = tt

-- good texts have games
pub games_of_good : (texts : List (List ℕ)) → AreAllGood texts → (games : List Actions) × AreGamesOf texts games
games_of_good [] h = ([], refl)
games_of_good (text ∷ texts) h =
    let read = h.0.1.1 in
    let more = games_of_good texts h.1 in
    (_, (read.trees, more.0, record { end = read.end; written = read.written; no_more = read.no_more }, more.1, refl))

-- the text of a number, with those after it
input_at : (bytes : ℕ → Option (List ℕ)) (from : ℕ) (all : List (List ℕ)) (n : ℕ) → AreInputs bytes from all → n < length all →
    (text : List ℕ) × (bytes (from + n) ≡ Some text) × (drop n all ≡ text ∷ drop (suc n) all)
input_at bytes from [] n h lt = absurd (omega arith)
input_at bytes from (text ∷ all) zero h lt =
    (text, (let at : from ≡ from + zero = omega arith in subst (λ (m : ℕ). bytes m ≡ Some text) at h.0), refl)
input_at bytes from (text ∷ all) (suc n) h lt =
    let more = input_at bytes (from + 1) all n h.1 (omega arith) in
    let at : (from + 1) + n ≡ from + suc n = omega arith in
    (more.0, subst (λ (m : ℕ). bytes m ≡ Some more.0) at more.1, more.2)

pub input_here : (bytes now : ℕ → Option (List ℕ)) (all : List (List ℕ)) (n : ℕ) → now ≡ bytes → AreInputs bytes 0 all → n < length all →
    (text : List ℕ) × (now n ≡ Some text) × (drop n all ≡ text ∷ drop (suc n) all)
input_here bytes now all n same h lt =
    let found = input_at bytes 0 all n h lt in
    let at : 0 + n ≡ n = omega arith in
    (found.0, ap (λ (f : ℕ → Option (List ℕ)). f n) same ∙ subst (λ (m : ℕ). bytes m ≡ Some found.0) at found.1, found.2)
