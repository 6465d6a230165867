-- What a text still has, after its next line.
use Rattle.std.proofs.Common.{◌≡◌, ℕ, List, [], ◌∷◌, ◌++◌, Option, Some, None, Ok, sym, refl, subst, ◌∙◌, append_assoc, IfSome}
use Rattle.std.proofs.lemmas.List.{append_cancel_left, append-nil}
use Rattle.shape_dict.specs.declared.entries.Entry.{Entry}
use Rattle.shape_dict.specs.Contents.{Contents}
use Rattle.shape_dict.specs.Reading.{IsTextOf}
use Rattle.shape_dict.specs.declared.headers.Header.{Header}
use Rattle.stream_core.specs.Faults.{IsStreamFault}
use Rattle.stream_core.specs.declared.faults.StreamFault.{StreamFault}
use Rattle.stream_core.specs.declared.standing.Standing.{Standing}
use Rattle.stream_core.specs.declared.standing.Standing.TheVariants as standing
use Rattle.stream_core.specs.Streams.{Stream, HasGiven, Stands, IsHeaderOf, contents_of, given_after, standing_of}
use Rattle.stream_core.specs.Streams as streams
use Rattle.merge_core.specs.Entries.{IsNext, WasNext}
use Rattle.merge_core.specs.Inner.Leaves.{HasLeft, HasCome}

pub next_left : (stream after : Stream) (next : Option Entry) (entries : List Entry) →
    ((whole : List ℕ) (given : List Entry) → HasGiven stream whole given → HasGiven after whole (given_after given (Ok next))) →
    ((whole : List ℕ) (given : List Entry) (contents : Contents) → HasGiven stream whole given → IsTextOf contents whole → streams.IsNext contents given (Ok next)) →
    HasLeft stream entries → IsNext (HasLeft after) entries next
next_left stream after None entries given only h =
    append_cancel_left h.given entries [] (sym h.rest ∙ (only h.whole h.given h.contents h.has h.is_text ∙ sym (append-nil h.given)))
next_left stream after (Some entry) entries given only h =
    let found = only h.whole h.given h.contents h.has h.is_text in (
      found.0,
      append_cancel_left h.given entries (entry ∷ found.0) (sym h.rest ∙ found.1),
      record {
        whole = h.whole;
        given = h.given ++ entry ∷ [];
        contents = h.contents;
        has = given h.whole h.given h.has;
        is_text = h.is_text;
        rest = found.1 ∙ sym (append_assoc h.given (entry ∷ []) found.0);
      },
    )

-- a text that was opened
pub opened_left : (remaining : Option (List ℕ)) (lines : Stream) (text : List ℕ) (d : Contents) → remaining ≡ Some text → IsTextOf d text → IfSome remaining (λ whole. HasGiven lines whole []) →
    ((contents : Contents) → IfSome remaining (λ whole. IsTextOf contents whole → IsHeaderOf lines.header contents)) → (lines.header.games ≡ d.games) × HasLeft lines d.entries
opened_left remaining lines text d is t given only =
    let g = subst (λ (r : Option (List ℕ)). IfSome r (λ whole. HasGiven lines whole [])) is given in
    let o = subst (λ (r : Option (List ℕ)). IfSome r (λ whole. IsTextOf d whole → IsHeaderOf lines.header d)) is (only d) t in
    (o.games, record { whole = text; given = []; contents = d; has = g; is_text = t; rest = refl })

-- a text that was read to its end, or up to its first fault
pub ended : (stream : Stream) (whole : List ℕ) (entries : List Entry) (header : Header) → HasGiven stream whole entries → stream.standing ≡ standing.Ended → stream.header ≡ header → IsTextOf (contents_of header entries) whole
ended stream whole entries header h s e = subst (λ (x : Header). IsTextOf (contents_of x entries) whole) e (subst (λ (x : Standing). Stands whole stream.header entries x) s h.stands)

-- what is known where these entries come, from what is known after the next one
pub next_came : (stream after : Stream) (next : Option Entry) → ((whole : List ℕ) (given : List Entry) → HasGiven stream whole given → HasGiven after whole (given_after given (Ok next))) →
    after.standing ≡ standing_of (Ok next) → after.header ≡ stream.header → WasNext (HasCome stream) (HasCome after) next
next_came stream after None given stands header = λ whole entries h.
    subst (λ (xs : List Entry). IsTextOf (contents_of stream.header xs) whole) (sym (append-nil entries)) (ended after whole entries stream.header (given whole entries h) stands header)
next_came stream after (Some entry) given stands header = λ others came whole entries h.
    subst (λ (xs : List Entry). IsTextOf (contents_of stream.header xs) whole) (append_assoc entries (entry ∷ []) others)
    (subst (λ (x : Header). IsTextOf (contents_of x ((entries ++ entry ∷ []) ++ others)) whole) header (came whole (entries ++ entry ∷ []) (given whole entries h)))

pub failed : (stream : Stream) (whole : List ℕ) (entries : List Entry) (found : StreamFault) → HasGiven stream whole entries → stream.standing ≡ standing.Failed found → IsStreamFault whole found
failed stream whole entries found h s = subst (λ (x : Standing). Stands whole stream.header entries x) s h.stands
