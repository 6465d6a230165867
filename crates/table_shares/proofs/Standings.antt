-- Rows of patterns that a table has at their numbers, before and after a game was added to their
-- share or refused.
use Rattle.std.proofs.Common.{◌≡◌, ℕ, List, ◌++◌, Option, Some, None, ap, sym, subst, ◌∙◌, arith, ⊎_elim, Contains}
use Rattle.table_shares.proofs.Raised.{same_length}
use Rattle.table_shares.proofs.Common.{one_key, map-append, Contains-get_or, Contains-append_cases, Kinds, IsNumber, Happened, content_of, Keeps, Row, row_at, blank, Held, Stand}
use Rattle.go_record.specs.Actions.{Actions}
use Rattle.table_shares.proofs.Found.{row_there}
use Rattle.harvest_faults.specs.declared.faults.HarvestFault.TheVariants as fault
use Rattle.table_shares.specs.Raising.{Numbered}
use Rattle.table_shares.specs.Adding.{AreFresh, HasGrown, IsKept, IsAddFault}

-- old rows and new ones that count nothing yet
stand_both : (n : ℕ) (seen history : List Happened) (kinds : Kinds) (actions : Actions) (rows fresh : List Row) → Keeps n seen history → AreFresh n history kinds actions fresh → Stand n seen rows →
    Stand n history (rows ++ fresh)
stand_both n seen history kinds actions rows fresh keeps made stand row among = ⊎_elim
    (λ (old : Contains rows row). keeps.numbers row.shape row.number (stand row old))
    (λ (new : Contains fresh row). rw (row_there fresh row new) at (made new.0 new.1).2)
    (Contains-append_cases rows fresh row among)

pub stand_grown : (n : ℕ) (seen history : List Happened) (actions : Actions) (old new : Held) → Keeps n seen history → HasGrown n history actions old new → Stand n seen old.rows → Stand n history new.rows
stand_grown n seen history actions old new keeps grown stand row among =
    let P : Row → Type 0 = λ r. IsNumber (content_of n history) r.shape r.number in
    let both = stand_both n seen history old.kinds actions old.rows grown.fresh keeps grown.made stand in
    let all = old.rows ++ grown.fresh in
    let numbered = λ (r : Row). (let x : Numbered = record { number = r.number; shape = r.shape } in x) in
    let long = same_length new.rows all (grown.numbered ∙ sym (map-append numbered old.rows grown.fresh)) in
    let place = among.0 in
    let low = among.1 in
    subst P (row_there new.rows row among) (⊎_elim
    (λ (same : row_at new.rows place ≡ row_at all place). subst P (sym same) (both (row_at all place) (Contains-get_or all place (blank 0 0) (omega arith))))
    (λ (stands : P (row_at new.rows place)). stands)
    (grown.stands place low))

pub stand_kept : (n : ℕ) (seen history : List Happened) (actions : Actions) (old new : Held) → Keeps n seen history → IsKept n history actions old new → Stand n seen old.rows → Stand n history new.rows
stand_kept n seen history actions old new keeps kept stand =
    subst (Stand n history) (sym (ap (λ (h : Held). h.rows) kept.same)) (stand_both n seen history old.kinds actions old.rows kept.fresh keeps kept.made stand)

pub no_stranger : (n : ℕ) (seen : List Happened) (game : ℕ) (actions : Actions) (old new : Held) (number : ℕ) (of_share of_table : Option ℕ) → Stand n seen new.rows →
    IsAddFault n seen game actions old new (fault.Stranger number of_share of_table) → ⊥
no_stranger n seen game actions old new number (Some held) (Some other) stand h =
    let row = h.3 in
    let here = stand (row_at new.rows row.place) (Contains-get_or new.rows row.place (blank 0 0) row.within) in
    h.2 (one_key n seen held other number
    (subst (λ p. IsNumber (content_of n seen) held p) row.number_is (subst (λ s. IsNumber (content_of n seen) s (row_at new.rows row.place).number) row.shape_is here)) h.1)
no_stranger n seen game actions old new number (Some held) None stand h = h
no_stranger n seen game actions old new number None of_table stand h = h
