-- Shares of games of an input, once one more game was added or refused.
use Rattle.std.proofs.Common.{◌≡◌, ℕ, ◌<◌, ◌≤◌, ◌*◌, ◌^◌, ◌⊎◌, Option, inl, inr, refl, List, [], ◌∷◌, ◌++◌, length, ap, sym, subst, ◌∙◌, arith, ⊎_elim, Contains}
use Rattle.std.proofs.lemmas.List.{map-append, get_or_default}
use Rattle.std.proofs.lemmas.List.Elements.{All-push, Contains-append_cases, Contains-get_or}
use Rattle.go_record.specs.Actions.{Actions}
use Rattle.shape_core.specs.declared.words.Kinds.{Kinds}
use Rattle.slot_table.specs.declared.entries.Happened.{Happened}
use Rattle.gather_core.specs.declared.rows.Row.{Row}
use Rattle.harvest_faults.specs.declared.faults.HarvestFault.{HarvestFault}
use Rattle.harvest_faults.specs.declared.faults.HarvestFault.TheVariants as fault
use Rattle.table_shares.specs.Rows.{row_at, blank}
use Rattle.table_shares.specs.Raising.{Numbered, numbered_of}
use Rattle.gather_core.specs.Shares.{Held, Added, IsPatternOf}
use Rattle.gather_core.specs.Adding.{IsAdded}
use Rattle.table_shares.specs.Adding.{HasGrown, IsKept, AreFresh, IsAddFault, IsTooLarge, IsEntryOf, IsMarkOf}
use Rattle.table_shares.specs.Confirming.{HasShape}
use Rattle.gather_core.specs.Entering.{CallsOnly}
use Rattle.probe_core.specs.declared.calls.Answer.{Answer}
use Rattle.slot_table.specs.Passes.{Known}
use Rattle.job_core.specs.Rising.{past}
use Rattle.table_shares.proofs.Raised.{same_shape, same_length}
use Rattle.table_shares.proofs.Added.{still_of}
use Rattle.gather_core.proofs.Added.{share_of_more}
use Rattle.gather_core.proofs.Calls.{calls_weaker}
use Rattle.harvest_core.specs.Working.{IsGame, IsPatternOfGame, IsPatternIn, IsWorked}
use Rattle.harvest_core.proofs.ByWords.{rises_more}
use Rattle.table_harvest.specs.Working.{IsMarkIn, CallsOfGame, IsRefusal, AreOfGame}

-- a pattern of a game's record is one of the game
of_game : (bytes : List ℕ) (held kinds : Kinds) (game : ℕ) (actions : Actions) (key : ℕ) → IsGame bytes game actions → held ≡ kinds → IsPatternOf held actions key →
    IsPatternOfGame bytes kinds game key
of_game bytes held kinds game actions key is same pattern =
    record { actions = actions; is_game = is; pattern = subst (λ k. IsPatternOf k actions key) same pattern }

-- rows that were made for a game are of its patterns
fresh_known : (bytes : List ℕ) (n : ℕ) (seen : List Happened) (held kinds : Kinds) (game : ℕ) (actions : Actions) (fresh : List Row) (row : Row) → IsGame bytes game actions →
    held ≡ kinds → AreFresh n seen held actions fresh → Contains fresh row → IsPatternOfGame bytes kinds game row.shape
fresh_known bytes n seen held kinds game actions fresh row is same made among =
    let at = among.0 in
    let here : row_at fresh at ≡ row = get_or_default fresh at (blank 0 0) row among.1 ∙ among.2 in
    of_game bytes held kinds game actions row.shape is same (subst (λ (r : Row). IsPatternOf held actions r.shape) here (made at among.1).1)

rows_more : (bytes : List ℕ) (n : ℕ) (seen : List Happened) (held kinds : Kinds) (game : ℕ) (actions : Actions) (rows fresh : List Row) (row : Row) → IsGame bytes game actions →
    held ≡ kinds → AreFresh n seen held actions fresh → Contains (rows ++ fresh) row → HasShape rows row.shape ⊎ IsPatternOfGame bytes kinds game row.shape
rows_more bytes n seen held kinds game actions rows fresh row is same made among = ⊎_elim
    (λ (old : Contains rows row). inl (row, old, refl))
    (λ (new : Contains fresh row). inr (fresh_known bytes n seen held kinds game actions fresh row is same made new))
    (Contains-append_cases rows fresh row among)

-- the rows of a share, once a game was refused
pub rows_kept : (bytes : List ℕ) (n : ℕ) (seen : List Happened) (kinds : Kinds) (game : ℕ) (actions : Actions) (old new : Held) → IsGame bytes game actions →
    old.kinds ≡ kinds → IsKept n seen actions old new → AreOfGame bytes kinds game old new
rows_kept bytes n seen kinds game actions old new is same kept row among =
    rows_more bytes n seen old.kinds kinds game actions old.rows kept.fresh row is same kept.made
    (subst (λ (share : Held). Contains share.rows row) kept.same among)

-- and once it was added
pub rows_added : (bytes : List ℕ) (n : ℕ) (seen : List Happened) (kinds : Kinds) (game : ℕ) (actions : Actions) (old new : Held) → IsGame bytes game actions →
    old.kinds ≡ kinds → HasGrown n seen actions old new → AreOfGame bytes kinds game old new
rows_added bytes n seen kinds game actions old new is same grown row among =
    let both = old.rows ++ grown.fresh in
    let alike : numbered_of new.rows ≡ numbered_of both =
    grown.numbered ∙ sym (map-append (λ (row : Row). (let x : Numbered = record { number = row.number; shape = row.shape } in x)) old.rows grown.fresh) in
    let at = among.0 in
    let low = among.1 in
    let long = same_length new.rows both alike in
    let inside : at < length both = omega arith in
    let here : row_at new.rows at ≡ row = get_or_default new.rows at (blank 0 0) row among.1 ∙ among.2 in
    let shape : row.shape ≡ (row_at both at).shape = ap (λ (r : Row). r.shape) (sym here) ∙ same_shape new.rows both at alike in
    subst (λ s. HasShape old.rows s ⊎ IsPatternOfGame bytes kinds game s) (sym shape)
    (rows_more bytes n seen old.kinds kinds game actions old.rows grown.fresh (row_at both at) is same grown.made (Contains-get_or both at (blank 0 0) inside))

-- rows of patterns of the input, and of a game of it
known_more : (bytes : List ℕ) (kinds : Kinds) (game : ℕ) (old new : Held) → ((row : Row) → Contains old.rows row → IsPatternIn bytes kinds row.shape) →
    AreOfGame bytes kinds game old new → (row : Row) → Contains new.rows row → IsPatternIn bytes kinds row.shape
known_more bytes kinds game old new known rows row among = ⊎_elim
    (λ (had : HasShape old.rows row.shape). subst (IsPatternIn bytes kinds) had.2 (known had.0 had.1))
    (λ (of : IsPatternOfGame bytes kinds game row.shape). (let is : IsPatternIn bytes kinds row.shape = (game, of) in is))
    (rows row among)

-- a game was refused
pub worked_kept : (bytes : List ℕ) (n : ℕ) (seen : List Happened) (kinds : Kinds) (game : ℕ) (actions : Actions) (old new : Held) → IsGame bytes game actions →
    IsKept n seen actions old new → IsWorked bytes kinds old → IsWorked bytes kinds new
worked_kept bytes n seen kinds game actions old new is kept h =
    let more : Held = record old { rows = old.rows ++ kept.fresh } in
    subst (IsWorked bytes kinds) (sym kept.same) (record {
      kinds_are = h.kinds_are;
      added = h.added;
      is_of = still_of h.added old kept.fresh (λ k inside. (kept.made k inside).0) h.is_of;
      games = h.games;
      rises = h.rises;
      known = known_more bytes kinds game old more h.known
          (subst (AreOfGame bytes kinds game old) kept.same (rows_kept bytes n seen kinds game actions old new is h.kinds_are kept));
    })

-- a game was added, whose number is above those of the others
pub worked_added : (bytes : List ℕ) (n : ℕ) (seen : List Happened) (kinds : Kinds) (game : ℕ) (actions : Actions) (old new : Held) → IsGame bytes game actions →
    IsAdded game actions old new → HasGrown n seen actions old new → IsWorked bytes kinds old → past old.games ≤ game → IsWorked bytes kinds new
worked_added bytes n seen kinds game actions old new is added grown h above =
    let one : Added = record { game = game; actions = actions; occasions = added.occasions } in
    record {
      kinds_are = added.kinds ∙ h.kinds_are;
      added = h.added ++ one ∷ [];
      is_of = share_of_more h.added game actions old new added h.is_of;
      games = All-push (λ (a : Added). IsGame bytes a.game a.actions) h.added one h.games is;
      rises = rises_more game actions old new added above h.rises;
      known = known_more bytes kinds game old new h.known (rows_added bytes n seen kinds game actions old new is h.kinds_are grown);
    }

-- a mark of a game's own pattern is one of the input
pub mark_of_game : (n : ℕ) (seen : List Happened) (bytes : List ℕ) (held kinds : Kinds) (game : ℕ) (actions : Actions) (rows : List Row) → IsGame bytes game actions → held ≡ kinds →
    (number marked : ℕ) → IsMarkOf n seen held actions rows game number marked → (marked ≡ game) × IsMarkIn n seen bytes kinds number marked
mark_of_game n seen bytes held kinds game actions rows is same number marked one = (
  one.game_is,
  record {
    shape = one.row.shape;
    pattern = subst (λ g. IsPatternOfGame bytes kinds g one.row.shape) (sym one.game_is) (of_game bytes held kinds game actions one.row.shape is same one.pattern);
    number_is = one.stands;
  },
)

-- what a pass entered and marked for a game
pub calls_of_game : {O : Type 0} (n : ℕ) (bytes : List ℕ) (held kinds : Kinds) (game : ℕ) (actions : Actions) (rowed : ℕ → Answer → Type 0) (marks : ℕ → ℕ → Type 0) (old new : Known O) →
    IsGame bytes game actions → held ≡ kinds → ((number marked : ℕ) → marks number marked → (marked ≡ game) × IsMarkIn n new.seen bytes kinds number marked) →
    CallsOnly n (IsEntryOf held actions rowed) marks old new → CallsOfGame n bytes kinds game old new
calls_of_game n bytes held kinds game actions rowed marks old new is same own calls =
    calls_weaker n (IsEntryOf held actions rowed) (λ key found. IsPatternOfGame bytes kinds game key) marks
    (λ number marked. (marked ≡ game) × IsMarkIn n new.seen bytes kinds number marked) old new
    (λ key found one. of_game bytes held kinds game actions key is same one.pattern) own calls

-- why a game of an input was not added to a share whose rows stand in the table
pub refusal_is : (bytes : List ℕ) (n : ℕ) (seen : List Happened) (kinds : Kinds) (game : ℕ) (actions : Actions) (old new : Held) (found : HarvestFault) → IsGame bytes game actions → IsWorked bytes kinds old →
    ((number : ℕ) (of_share of_table : Option ℕ) → IsAddFault n seen game actions old new (fault.Stranger number of_share of_table) → ⊥) →
    IsAddFault n seen game actions old new found → IsRefusal bytes kinds found
refusal_is bytes n seen kinds game actions old new fault.Memory is h strange why = tt
refusal_is bytes n seen kinds game actions old new fault.Overflow is h strange why = ⊎_elim
    (λ (large : IsTooLarge actions old). (game, actions, is, inl (old, h, large)))
    (λ (long : 2 ^ 64 ≤ 5410 * length actions.actions). (game, actions, is, inr long))
    why
refusal_is bytes n seen kinds game actions old new (fault.Full at word) is h strange why =
    subst (λ g. IsPatternOfGame bytes kinds g word) (sym why.0)
    (record { actions = actions; is_game = is; pattern = subst (λ k. IsPatternOf k actions word) h.kinds_are why.1 })
refusal_is bytes n seen kinds game actions old new (fault.Stranger number of_share of_table) is h strange why = strange number of_share of_table why
refusal_is bytes n seen kinds game actions old new _ is h strange why = absurd why
