-- A pass at two times: it is later than itself by no call, and times put together put their calls together. Each call of
-- the table makes its pass later by that call.
use Rattle.std.proofs.Common.{◌≡◌, ℕ, zero, suc, ◌+◌, ◌<◌, ◌≤◌, List, [], ◌∷◌, ◌++◌, length, Option, Some, refl, sym, ◌∙◌, ap, subst, append_assoc, arith, length-append}
use Rattle.std.proofs.lemmas.List.{append-nil}
use Rattle.std.proofs.lemmas.List.Elements.{filter_map-append}
use Rattle.std.specs.List.{cons_option}
use Rattle.std.specs.Prelude.{filter_map, slice_get}
use Rattle.atomic_table.specs.Seated.{TableId}
use Rattle.slot_table.specs.declared.entries.Happened.{Happened}
use Rattle.slot_table.specs.declared.views.View.{View}
use Rattle.slot_table.specs.Places.{IsRising}
use Rattle.slot_table.specs.Passes.{Known, IsLater, calls_of}
use Rattle.slot_table.specs.Telling.{Grown, places_from}
use Rattle.slot_table.proofs.Histories.{begins_itself, begins_through}
use Rattle.slot_table.proofs.Owning.{rising_le}

-- a pass is later than itself, by no call
pub later_self : {O : Type 0} (n : ℕ) (pass : Known O) → IsLater n pass [] pass
later_self n pass = record {
  begins = begins_itself pass.seen;
  keeps = record { numbers = λ key p number. number; marks = λ p game at_most. at_most };
  calls = sym (append-nil (calls_of pass));
  stake = refl;
  alone = λ is. is;
}

-- a pass is later than what it was later than, by the calls of both times
pub later_through : {O : Type 0} (n : ℕ) (first old new : Known O) (made more : List Happened)
    → IsLater n first made old → IsLater n old more new → IsLater n first (made ++ more) new
later_through n first old new made more before after = record {
  begins = begins_through first.seen old.seen new.seen before.begins after.begins;
  keeps = record {
    numbers = λ key p number. after.keeps.numbers key p (before.keeps.numbers key p number);
    marks = λ p game at_most. after.keeps.marks p game (before.keeps.marks p game at_most);
  };
  calls = after.calls ∙ ap (λ (t : List Happened). t ++ more) before.calls ∙ append_assoc (calls_of first) made more;
  stake = after.stake ∙ before.stake;
  alone = λ is. after.alone (before.alone is);
}

-- what is at a place of a history

front_at : (seen rest : List Happened) (k : ℕ) → k < length seen → slice_get (seen ++ rest) k ≡ slice_get seen k
front_at [] rest k h = absurd (omega (arith, h))
front_at (e ∷ seen) rest zero h = refl
front_at (e ∷ seen) rest (suc k) h = front_at seen rest k (omega (arith, h))

seam_at : (seen : List Happened) (e : Happened) (more : List Happened) → slice_get (seen ++ e ∷ more) (length seen) ≡ Some e
seam_at [] e more = refl
seam_at (x ∷ seen) e more = seam_at seen e more

-- places that rise in a history are those of the same calls in one that begins with it
pub calls_stay : (seen rest : List Happened) (low : ℕ) (mine : List ℕ) → IsRising low mine (length seen)
    → filter_map (slice_get (seen ++ rest)) mine ≡ filter_map (slice_get seen) mine
calls_stay seen rest low [] rises = refl
calls_stay seen rest low (k ∷ mine) rises =
    let top : k + 1 ≤ length seen = rising_le (k + 1) mine (length seen) rises.1
    in ap (λ (o : Option Happened). cons_option o (filter_map (slice_get (seen ++ rest)) mine)) (front_at seen rest k (omega (arith, top)))
    ∙ ap (λ (t : List Happened). cons_option (slice_get seen k) t) (calls_stay seen rest (k + 1) mine rises.1)

-- what was added to a history is at the places after it
pub calls_added : (seen added : List Happened) → filter_map (slice_get (seen ++ added)) (places_from (length seen) added) ≡ added
calls_added seen [] = refl
calls_added seen (e ∷ added) =
    let places : ℕ → List ℕ = λ k. places_from k added
    in let after : List Happened = seen ++ e ∷ []
    in let one : length after ≡ length seen + 1 = length-append seen (e ∷ [])
    in let rest : filter_map (slice_get (after ++ added)) (places (length after)) ≡ added = calls_added after added
    in let rest' : filter_map (slice_get (seen ++ e ∷ added)) (places (length seen + 1)) ≡ added =
    ap (λ (t : List Happened). filter_map (slice_get t) (places (length seen + 1))) (sym (append_assoc seen (e ∷ []) added))
    ∙ ap (λ (k : ℕ). filter_map (slice_get (after ++ added)) (places k)) (sym one) ∙ rest
    in ap (λ (o : Option Happened). cons_option o (filter_map (slice_get (seen ++ e ∷ added)) (places (length seen + 1)))) (seam_at seen e added)
    ∙ ap (λ (t : List Happened). e ∷ t) rest'

-- what a pass shows of the view of its seat
abbrev pub known_of : {O : Type 0} → TableId → View O → Known O
known_of table view = record { table = table; order = view.order; seen = view.seen; mine = view.mine; stake = view.stake }

-- a seat whose step made these calls is later by them
grown_later : {O : Type 0} (n : ℕ) (table table' : TableId) (old new : View O) (longest added : List Happened)
    → IsRising 0 old.mine (length old.seen) → Grown n old longest added new → IsLater n (known_of table old) added (known_of table' new)
grown_later n table table' old new longest added rises grown =
    let rest : List Happened = grown.later.0
    in let seen : new.seen ≡ old.seen ++ (rest ++ added) =
    grown.seen ∙ ap (λ (t : List Happened). t ++ added) grown.later.1 ∙ append_assoc old.seen rest added
    in let own : filter_map (slice_get new.seen) old.mine ≡ filter_map (slice_get old.seen) old.mine =
    ap (λ (t : List Happened). filter_map (slice_get t) old.mine) seen ∙ calls_stay old.seen (rest ++ added) 0 old.mine rises
    in let more : filter_map (slice_get new.seen) (places_from (length longest) added) ≡ added =
    ap (λ (t : List Happened). filter_map (slice_get t) (places_from (length longest) added)) grown.seen ∙ calls_added longest added
    in record {
      begins = (rest ++ added, seen);
      keeps = grown.keeps;
      calls = ap (λ (t : List ℕ). filter_map (slice_get new.seen) t) grown.mine
          ∙ filter_map-append (slice_get new.seen) old.mine (places_from (length longest) added)
          ∙ ap (λ (t : List Happened). t ++ filter_map (slice_get new.seen) (places_from (length longest) added)) own
          ∙ ap (λ (t : List Happened). filter_map (slice_get old.seen) old.mine ++ t) more;
      stake = grown.stake;
      alone = λ _. grown.lone;
    }

-- the same of the pass, whose table has this many slots
pub pass_later : {O : Type 0} (n slots : ℕ) (table table' : TableId) (before after : View O) (old : Known O) (longest added : List Happened)
    → n ≡ slots → known_of table before ≡ old → IsRising 0 old.mine (length old.seen) → Grown n before longest added after
    → IsLater slots old added (known_of table' after)
pass_later n slots table table' before after old longest added same_slots same rises grown =
    subst (λ k. IsLater k old added (known_of table' after)) same_slots
    (subst (λ k. IsRising 0 k.mine (length k.seen) → IsLater n k added (known_of table' after)) same
    (λ r. grown_later n table table' before after longest added r grown) rises)
