-- The bytes of a text between two places.
use Rattle.std.proofs.Common.{◌≡◌, ℕ, ◌-◌, ◌≤◌, List, [], length, take, drop, Option, Some, None, ap, sym, ◌∙◌, subst, arith}
use Rattle.std.specs.Io.KnownBytes.{Consumes, IsAtEnd}
use Rattle.std.proofs.lemmas.List.{take_at, length-drop}
use Rattle.merge_core.specs.Inner.Ranges.{IsWithin}

-- what a reader that begins at a place has lost
pub within_of : (text : List ℕ) (from to : ℕ) (before after : Option (List ℕ)) (xs : List ℕ) → from ≤ to → length xs ≡ to - from → before ≡ Some (drop from text) → Consumes before after xs → IsWithin text from to xs
within_of text from to before after xs order long is h =
    let k : Consumes (Some (drop from text)) after xs = subst (λ (b : Option (List ℕ)). Consumes b after xs) is h in
    within_by text from to after xs order long k
  where
    within_by : (text : List ℕ) (from to : ℕ) (after : Option (List ℕ)) (xs : List ℕ) → from ≤ to → length xs ≡ to - from → Consumes (Some (drop from text)) after xs → IsWithin text from to xs
    within_by text from to None xs order long h = absurd h
    within_by text from to (Some ys) xs order long h = record { order = order; same = sym (ap (take (to - from)) h ∙ take_at xs ys (to - from) long) }

-- where nothing is left from a place on, the text has no more bytes
pub ended_at : (text : List ℕ) (place : ℕ) (before after : Option (List ℕ)) → before ≡ Some (drop place text) → Consumes before after [] → IsAtEnd after → length text ≤ place
ended_at text place before after is h end =
    ended_by text place after (subst (λ (b : Option (List ℕ)). Consumes b after []) is h) end
  where
    ended_by : (text : List ℕ) (place : ℕ) (after : Option (List ℕ)) → Consumes (Some (drop place text)) after [] → IsAtEnd after → length text ≤ place
    ended_by text place None h end = absurd h
    ended_by text place (Some ys) h end = omega (arith, ap length h, ap length end, length-drop place text)
