-- What the answer to an Enter tells lasts; also for proofs in the crates above.
use Rattle.std.proofs.Common.{◌≡◌, ℕ, ◌<◌, List, length, slice_index_or, Option, Some, None, refl, sym, ◌∙◌, subst, arith}
use Rattle.probe_core.specs.declared.calls.Call.TheVariants as call
use Rattle.probe_core.specs.declared.calls.Answer.{Answer}
use Rattle.probe_core.specs.declared.calls.Answer.TheVariants as answer
use Rattle.probe_core.specs.Sequential.{IsNumber, IsAbsent, IsFull}
use Rattle.slot_table.specs.declared.entries.Happened.{Happened}
use Rattle.slot_table.specs.History.{content_of, IsLegal, Begins, Tells}
use Rattle.slot_table.specs.Batches.{IsTold}
use Rattle.slot_table.proofs.Contents.{number_shown, free_shown, number_below, one_key}
use Rattle.slot_table.proofs.Histories.{length-content, number_stays}

shown_or_free : (n : ℕ) (seen : List Happened) (p : ℕ) (o : Option ℕ) → p < n → IsFull (content_of n seen) → slice_index_or (content_of n seen) p None ≡ o
    → (x : ℕ) × IsNumber (content_of n seen) x p
shown_or_free n seen p None inside full is = absurd (full p (free_shown n seen p inside is))
shown_or_free n seen p (Some x) inside full is = (x, number_shown n seen x p inside is)

taken_stays : (n : ℕ) (seen log : List Happened) (p : ℕ) → IsLegal n log → Begins seen log → IsFull (content_of n seen) → p < n
    → (x : ℕ) × IsNumber (content_of n seen) x p × IsNumber (content_of n log) x p
taken_stays n seen log p legal begins full inside =
    let q : (x : ℕ) × IsNumber (content_of n seen) x p = shown_or_free n seen p (slice_index_or (content_of n seen) p None) inside full refl
    in (q.0, q.1, number_stays n seen log q.0 p legal begins q.1)

full_stays : (n : ℕ) (seen log : List Happened) → IsLegal n log → Begins seen log → IsFull (content_of n seen) → IsFull (content_of n log)
full_stays n seen log legal begins full p free =
    let l : length (content_of n log) ≡ n = length-content n log
    in let q : (x : ℕ) × IsNumber (content_of n seen) x p × IsNumber (content_of n log) x p = taken_stays n seen log p legal begins full (omega (arith, l, free.within))
    in let clash : None ≡ Some q.0 = sym free.free ∙ q.2.stands in cc

absent_stays : (n : ℕ) (seen log : List Happened) (key : ℕ) → IsLegal n log → Begins seen log → IsFull (content_of n seen) → IsAbsent (content_of n seen) key → IsAbsent (content_of n log) key
absent_stays n seen log key legal begins full absent p number =
    let q : (x : ℕ) × IsNumber (content_of n seen) x p × IsNumber (content_of n log) x p = taken_stays n seen log p legal begins full (number_below n log key p number)
    in absent p (subst (λ (x : ℕ). IsNumber (content_of n seen) x p) (one_key n log q.0 key p q.2 number) q.1)

pub tells_stay : (n : ℕ) (seen log : List Happened) (key : ℕ) (a : Answer) → IsLegal n log → Begins seen log → Tells n seen (call.Enter key) a → Tells n log (call.Enter key) a
tells_stay n seen log key (answer.Number p) legal begins tells = (tells.0, number_stays n seen log key p legal begins tells.1)
tells_stay n seen log key answer.Absent legal begins tells = tells
tells_stay n seen log key answer.Full legal begins tells =
    (absent_stays n seen log key legal begins tells.1 tells.0, full_stays n seen log legal begins tells.1)

-- also that of a key that may have been left
pub told_stays : (n : ℕ) (seen log : List Happened) (key : ℕ) (a : Answer) → IsLegal n log → Begins seen log → IsTold n seen key a → IsTold n log key a
told_stays n seen log key (answer.Number p) legal begins told = tells_stay n seen log key (answer.Number p) legal begins told
told_stays n seen log key answer.Full legal begins told = tells_stay n seen log key answer.Full legal begins told
told_stays n seen log key answer.Absent legal begins told = tt
