-- The join of what dictionaries have in a range, by halves.
use Rattle.std.proofs.Common.{◌≡◌, ℕ, ◌+◌, ◌-◌, ◌≤◌, List, [], ◌∷◌, ◌++◌, length, Option, Some, None, ap, sym, refl, ◌∙◌, subst, arith, length-append, append_assoc, Result, Ok, Err, IfOk}
use Rattle.shape_dict.specs.declared.entries.Entry.{Entry}
use Rattle.shape_dict.specs.declared.headers.Header.{Header}
use Rattle.shape_dict.specs.Contents.{entry_of}
use Rattle.shape_dict.specs.Join.{joined_entry}
use Rattle.shape_dict.specs.Inner.Merging.{merged}
use Rattle.shape_dict.proofs.Merging.{found_merged}
use Rattle.stream_core.specs.Rows.{Rises}
use Rattle.merge_core.specs.declared.cuts.Cut.{Cut}
use Rattle.merge_core.specs.declared.cuts.Plan.{Plan}
use Rattle.std.specs.List.{slice_get}
use Rattle.merge_core.specs.declared.tallies.Tally.{Tally}
use Rattle.merge_core.specs.declared.ranges.Joined.{Joined}
use Rattle.merge_core.specs.declared.entries.NextFault.{NextFault}
use Rattle.merge_core.specs.Inner.Ranges.{Piece, Each, IsPiece, AreJoined, AreTallies, IsTally, HasRangeAt, found, games_in}
use Rattle.merge_core.proofs.Regrouped.{found_append, games_append, each_append, tallies_append}
use Rattle.merge_core.proofs.Rising.{climbs_of, rises_merged}

first_of : (games : ℕ) (x : Option Entry) → x ≡ joined_entry games x None
first_of games None = refl
first_of games (Some e) = refl

-- one dictionary's entries are the join of themselves
joined_one : (p : Piece) (low high : ℕ) → Rises low high p.entries → AreJoined (p ∷ []) low high p.entries
joined_one p low high h = record { rises = h; same = λ shape. first_of p.header.games (entry_of shape p.entries) }

joined_both : (ps qs : List Piece) (low high : ℕ) (es fs : List Entry) → AreJoined ps low high es → AreJoined qs low high fs → AreJoined (ps ++ qs) low high (merged (games_in ps) es fs)
joined_both ps qs low high es fs h k = record {
  rises = rises_merged (games_in ps) low high es fs h.rises k.rises;
  same = λ shape. found_merged shape low low (games_in ps) es fs (climbs_of low high es h.rises) (climbs_of low high fs k.rises)
      ∙ (ap (λ (x : Option Entry). joined_entry (games_in ps) x (entry_of shape fs)) (h.same shape)
      ∙ (ap (joined_entry (games_in ps) (found shape ps)) (k.same shape) ∙ sym (found_append shape ps qs)));
}

-- what is known of dictionaries from a number on, whose tallies were appended
abbrev pub Joins : (ℕ → Option (List ℕ)) → List Header → Cut → Cut → ℕ → ℕ → List Tally → List Tally → Joined → Type 0
Joins bytes headers low high from count old new joined =
    (ps : List Piece) × Each (IsPiece bytes headers low high) from ps × (length ps ≡ count) × (joined.games ≡ games_in ps)
    × AreJoined ps low.word high.word joined.entries.items × ((ts : List Tally) × (new ≡ old ++ ts) × AreTallies ps ts)

pub one_joins : (bytes : ℕ → Option (List ℕ)) (headers : List Header) (low high : Cut) (n : ℕ) (old new : List Tally) (result : Result Joined NextFault) →
    IfOk result (λ joined. (p : Piece) × IsPiece bytes headers low high n p × (joined.entries.items ≡ p.entries) × (joined.games ≡ p.header.games)
    × ((tally : Tally) × (new ≡ old ++ tally ∷ []) × IsTally p.entries tally)) → IfOk result (Joins bytes headers low high n 1 old new)
one_joins bytes headers low high n old new (Ok joined) h =
    let p = h.0 in (
      p ∷ [],
      (h.1, tt),
      refl,
      omega (arith, h.3),
      subst (λ (es : List Entry). AreJoined (p ∷ []) low.word high.word es) (sym h.2) (joined_one p low.word high.word h.1.rows.rises),
      (h.4.0 ∷ [], h.4.1, (h.4.2, tt)),
    )
one_joins bytes headers low high n old new (Err found) h = tt

pub both_join : (bytes : ℕ → Option (List ℕ)) (headers : List Header) (low high : Cut) (from count half : ℕ) (old between new : List Tally) (left right : Joined) (result : Result Joined NextFault) → half ≤ count →
    IfOk result (λ both. both.games ≡ left.games + right.games) → IfOk result (λ both. both.entries.items ≡ merged left.games left.entries.items right.entries.items) →
    Joins bytes headers low high from half old between left → Joins bytes headers low high (from + half) (count - half) between new right → IfOk result (Joins bytes headers low high from count old new)
both_join bytes headers low high from count half old between new left right (Ok both) few games entries h k =
    let ps = h.0 in
    let qs = k.0 in (
      ps ++ qs,
      each_append (IsPiece bytes headers low high) from (from + half) ps qs (omega (arith, h.2)) h.1 k.1,
      omega (arith, length-append ps qs, h.2, k.2),
      omega (arith, games, h.3, k.3, games_append ps qs),
      subst (λ (es : List Entry). AreJoined (ps ++ qs) low.word high.word es) (sym (entries ∙ ap (λ (n : ℕ). merged n left.entries.items right.entries.items) h.3))
          (joined_both ps qs low.word high.word left.entries.items right.entries.items h.4 k.4),
      (
        h.5.0 ++ k.5.0,
        k.5.1 ∙ (ap (λ (ts : List Tally). ts ++ k.5.0) h.5.1 ∙ append_assoc old h.5.0 k.5.0),
        tallies_append ps qs h.5.0 k.5.0 h.5.2 k.5.2,
      ),
    )
both_join bytes headers low high from count half old between new left right (Err found) few games entries h k = tt

-- of all dictionaries, in the range from a cut up to the next one
abbrev JoinsAt : (ℕ → Option (List ℕ)) → Plan → ℕ → List Tally → List Tally → Joined → Type 0
JoinsAt bytes plan n old new joined = (h : HasRangeAt bytes plan n joined.entries.items) × ((ts : List Tally) × (new ≡ old ++ ts) × AreTallies h.has.pieces ts)

at_joins_of : (bytes : ℕ → Option (List ℕ)) (plan : Plan) (n : ℕ) (low high : Cut) (old new : List Tally) (result : Result Joined NextFault) → slice_get plan.cuts.items n ≡ Some low → slice_get plan.cuts.items (n + 1) ≡ Some high →
    IfOk result (Joins bytes plan.headers.items low high 0 (length plan.headers.items) old new) → IfOk result (JoinsAt bytes plan n old new)
at_joins_of bytes plan n low high old new (Ok joined) is_low is_high h = (
  record {
    low = low;
    high = high;
    is_low = is_low;
    is_high = is_high;
    has = record { pieces = h.0; joined = joined.entries.items; number = h.2; are = h.1; sum = h.4 };
    same = refl;
  },
  h.5,
)
at_joins_of bytes plan n low high old new (Err found) is_low is_high h = tt

pub at_joins : (bytes : ℕ → Option (List ℕ)) (plan : Plan) (n : ℕ) (low high : Cut) (old new : List Tally) (result : Result Joined NextFault) (headers : List Header) (one other : List Cut) → headers ≡ plan.headers.items → one ≡ plan.cuts.items → other ≡ plan.cuts.items →
    slice_get one n ≡ Some low → slice_get other (n + 1) ≡ Some high → IfOk result (Joins bytes headers low high 0 (length headers) old new) → IfOk result (JoinsAt bytes plan n old new)
at_joins bytes plan n low high old new result headers one other same same_one same_other is_low is_high h =
    at_joins_of bytes plan n low high old new result (ap (λ (cs : List Cut). slice_get cs n) (sym same_one) ∙ is_low) (ap (λ (cs : List Cut). slice_get cs (n + 1)) (sym same_other) ∙ is_high)
    (subst (λ (hs : List Header). IfOk result (Joins bytes hs low high 0 (length hs) old new)) same h)
