-- The join of dictionaries of parts is the dictionary of all their games.
use Rattle.std.proofs.Common.{◌≡◌, ℕ, ◌+◌, List, [], ◌∷◌, ◌++◌, length, Option, Some, refl, ap, sym, subst, ◌∙◌, arith, append_assoc}
use Rattle.std.proofs.lemmas.List.{append-nil}
use Rattle.go_record.specs.Actions.{Actions}
use Rattle.batch_core.specs.Batch.{AreGamesOf}
use Rattle.shape_core.specs.declared.words.Kinds.{Kinds}
use Rattle.shape_dict.specs.Contents.{Contents}
use Rattle.shape_dict.specs.Text.{text_of}
use Rattle.shape_dict.specs.Reading.{IsTextOf}
use Rattle.shape_dict.specs.Join.{IsJoin, IsJoinOf}
use Rattle.shape_dict.specs.declared.entries.Text.TheVariants as in_text
use Rattle.tally_core.specs.Counts.{Replayed}
use Rattle.tally_core.specs.Games.{IsDictionaryOf}
use Rattle.tally_core.specs.Collection.{AreReplayed}
use Rattle.merge_core.specs.Merge.{AreTexts, AreInputs, IsMerged}
use Rattle.tally_parts.specs.Parts.{IsDictionaryOfTexts}
use Rattle.tally_parts.specs.Inner.Joining.{AreOfParts, IsTextThere, AreTextsThere, ArePartsKept}

replayed_append : (games more : List Actions) (replayed others : List Replayed) → AreReplayed games replayed → AreReplayed more others → AreReplayed (games ++ more) (replayed ++ others)
replayed_append [] more [] others h k = k
replayed_append [] more (one ∷ replayed) others h k = absurd h
replayed_append (game ∷ games) more [] others h k = absurd h
replayed_append (game ∷ games) more (one ∷ replayed) others h k = (h.0, h.1, replayed_append games more replayed others h.2 k)

-- one of the dictionaries, and no other, has this text
abbrev pub HasOne : Type 0
HasOne = (one : Contents) → (other : Contents) → (text : List ℕ) → (other_text : List ℕ) → (after : List ℕ) → (other_after : List ℕ) →
    IsTextOf one text → IsTextOf other other_text → text ++ after ≡ other_text ++ other_after → (text ≡ other_text) × (one ≡ other)

same_text : HasOne → (bytes : Option (List ℕ)) (input : List ℕ) (one other : Contents) → bytes ≡ Some input → IsTextOf one input → IsTextOf other (text_of in_text.Three other) → IsTextThere bytes other → one ≡ other
same_text has bytes input one other is text mine there =
    let same : input ≡ text_of in_text.Three other = subst (λ (x : Option (List ℕ)). IsTextThere x other) is there in
    (has one other input (text_of in_text.Three other) [] [] text mine (ap (λ (x : List ℕ). x ++ []) same)).1

-- the texts that were kept are of the dictionaries that were kept
same_texts : HasOne → (kinds : Kinds) (bytes : ℕ → Option (List ℕ)) (from : ℕ) (texts inputs : List (List ℕ)) (dictionaries found : List Contents) → AreOfParts kinds texts dictionaries →
    AreTextsThere bytes from dictionaries → AreInputs bytes from inputs → length inputs ≡ length dictionaries → AreTexts found inputs → found ≡ dictionaries
same_texts has kinds bytes from texts [] [] [] p t i many h = refl
same_texts has kinds bytes from texts [] [] (one ∷ found) p t i many h = absurd h
same_texts has kinds bytes from texts [] (other ∷ dictionaries) found p t i many h = absurd (omega arith)
same_texts has kinds bytes from texts (input ∷ inputs) [] found p t i many h = absurd (omega arith)
same_texts has kinds bytes from texts (input ∷ inputs) (other ∷ dictionaries) [] p t i many h = absurd h
same_texts has kinds bytes from texts (input ∷ inputs) (other ∷ dictionaries) (one ∷ found) p t i many h =
    let mine : IsTextOf other (text_of in_text.Three other) = record { text = in_text.Three; dictionary = p.3.dictionary.dictionary; small = p.4; whole = tt; same = refl } in
    let first : one ≡ other = same_text has (bytes from) input one other i.0 h.0 mine t.0 in
    let rest : found ≡ dictionaries = same_texts has kinds bytes (from + 1) p.1 inputs dictionaries found p.5 t.1 i.1 (omega arith) h.1 in
    ap (λ (x : Contents). x ∷ found) first ∙ ap (λ (x : List Contents). other ∷ x) rest

abbrev pub HasAll : Type 0
HasAll = (texts others : List (List ℕ)) (games more : List Actions) → AreGamesOf texts games → AreGamesOf others more → AreGamesOf (texts ++ others) (games ++ more)

abbrev pub HasSum : Type 0
HasSum = (kinds : Kinds) → (left : List Replayed) → (right : List Replayed) → (of_left : Contents) → (of_right : Contents) → (both : Contents) →
    IsDictionaryOf kinds left of_left → IsDictionaryOf kinds right of_right → IsJoin of_left of_right both → IsDictionaryOf kinds (left ++ right) both

joined_two : HasAll → HasSum → (kinds : Kinds) (texts others : List (List ℕ)) (one other both : Contents) → IsDictionaryOfTexts kinds texts one → IsDictionaryOfTexts kinds others other → IsJoin one other both →
    IsDictionaryOfTexts kinds (texts ++ others) both
joined_two all sum kinds texts others one other both h k j = record {
  games = h.games ++ k.games;
  replayed = h.replayed ++ k.replayed;
  games_of = all texts others h.games k.games h.games_of k.games_of;
  replays = replayed_append h.games k.games h.replayed k.replayed h.replays k.replays;
  dictionary = sum kinds h.replayed k.replayed one other both h.dictionary k.dictionary j;
}

joined_all : HasAll → HasSum → (kinds : Kinds) (texts rest : List (List ℕ)) (first : Contents) (others : List Contents) (whole : Contents) → IsDictionaryOfTexts kinds texts first → AreOfParts kinds rest others →
    IsJoinOf first others whole → IsDictionaryOfTexts kinds (texts ++ rest) whole
joined_all all sum kinds texts rest first [] whole is p j =
    subst (λ (x : List (List ℕ)). IsDictionaryOfTexts kinds x whole) (sym (ap (λ (x : List (List ℕ)). texts ++ x) p ∙ append-nil texts))
    (subst (λ (x : Contents). IsDictionaryOfTexts kinds texts x) (sym j) is)
joined_all all sum kinds texts rest first (next ∷ others) whole is p j =
    let both = joined_two all sum kinds texts p.0 first next j.0 is p.3 j.2 in
    subst (λ (x : List (List ℕ)). IsDictionaryOfTexts kinds x whole) (append_assoc texts p.0 p.1 ∙ ap (λ (x : List (List ℕ)). texts ++ x) (sym p.2))
    (joined_all all sum kinds (texts ++ p.0) p.1 j.0 others whole both p.5 j.3)

-- there is a first dictionary, and this is its join with the others
abbrev IsJoinAll : List Contents → Contents → Type 0
IsJoinAll [] whole = ⊥
IsJoinAll (first ∷ others) whole = IsJoinOf first others whole

joined_parts : HasAll → HasSum → (kinds : Kinds) (texts : List (List ℕ)) (dictionaries : List Contents) (whole : Contents) → AreOfParts kinds texts dictionaries → IsJoinAll dictionaries whole → IsDictionaryOfTexts kinds texts whole
joined_parts all sum kinds texts [] whole p j = absurd j
joined_parts all sum kinds texts (first ∷ others) whole p j =
    subst (λ (x : List (List ℕ)). IsDictionaryOfTexts kinds x whole) (sym p.2) (joined_all all sum kinds p.0 p.1 first others whole p.3 p.5 j)

-- what the texts that were kept are merged to
pub merged_parts : HasOne → HasAll → HasSum → (kinds : Kinds) (texts inputs : List (List ℕ)) (number : ℕ) (bytes : ℕ → Option (List ℕ)) (whole : Contents) → ArePartsKept kinds texts number bytes →
    AreInputs bytes 0 inputs → length inputs ≡ number → IsMerged inputs whole → IsDictionaryOfTexts kinds texts whole
merged_parts has all sum kinds texts inputs number bytes whole h i many m =
    joined_parts all sum kinds texts h.dictionaries whole h.of_parts
    (subst (λ (x : List Contents). IsJoinAll x whole)
    (same_texts has kinds bytes 0 texts inputs h.dictionaries (m.first ∷ m.others) h.of_parts h.there i (many ∙ sym h.many) m.texts) m.joined)
