-- Calls of the input, one after another.
use Rattle.std.proofs.Common.{◌≡◌, ℕ, List, [], Contains, subst, arith, ⊎_elim}
use Rattle.shape_core.specs.declared.words.Kinds.{Kinds}
use Rattle.slot_table.specs.declared.entries.Happened.{Happened}
use Rattle.slot_table.specs.History.{Keeps}
use Rattle.slot_table.specs.Passes.{Known, calls_of}
use Rattle.gather_core.proofs.Calls.{calls_self, calls_through, calls_weaker}
use Rattle.table_shares.proofs.Entered.{calls_are}
use Rattle.harvest_core.specs.Working.{IsPatternIn, IsPatternOfGame}
use Rattle.table_harvest.specs.Working.{IsPatternAmong, IsMarkIn, IsCallIn, CallsIn, CallsAmong, CallsOfGame}

-- no call was made
pub no_calls_in : {O : Type 0} (n : ℕ) (bytes : List ℕ) (kinds : Kinds) (pass : Known O) → CallsIn n bytes kinds pass pass
no_calls_in n bytes kinds pass = calls_self n (λ key found. IsPatternIn bytes kinds key) (IsMarkIn n pass.seen bytes kinds) pass

-- those for one game
pub game_in_input : {O : Type 0} (n : ℕ) (bytes : List ℕ) (kinds : Kinds) (game : ℕ) (old new : Known O) → CallsOfGame n bytes kinds game old new → CallsIn n bytes kinds old new
game_in_input n bytes kinds game old new calls =
    calls_weaker n (λ key found. IsPatternOfGame bytes kinds game key) (λ key found. IsPatternIn bytes kinds key) (λ number marked. (marked ≡ game) × IsMarkIn n new.seen bytes kinds number marked)
    (IsMarkIn n new.seen bytes kinds) old new (λ key found h. (game, h)) (λ number marked h. h.1) calls

-- a mark stays one of the input
pub mark_in_kept : (n : ℕ) (seen history : List Happened) (bytes : List ℕ) (kinds : Kinds) (number game : ℕ) → Keeps n seen history → IsMarkIn n seen bytes kinds number game → IsMarkIn n history bytes kinds number game
mark_in_kept n seen history bytes kinds number game keeps h = record { shape = h.shape; pattern = h.pattern; number_is = keeps.numbers h.shape number h.number_is }

-- those of two times
pub more_in_input : {O : Type 0} (n : ℕ) (bytes : List ℕ) (kinds : Kinds) (first old new : Known O) → CallsIn n bytes kinds first old → CallsIn n bytes kinds old new → CallsIn n bytes kinds first new
more_in_input n bytes kinds first old new before after =
    let enters : ℕ → _ → Type 0 = λ key found. IsPatternIn bytes kinds key in
    calls_through n enters (IsMarkIn n new.seen bytes kinds) first old new
    (calls_weaker n enters enters (IsMarkIn n old.seen bytes kinds) (IsMarkIn n new.seen bytes kinds) first old (λ key found h. h)
    (λ number game h. mark_in_kept n old.seen new.seen bytes kinds number game after.later.keeps h) before) after

-- where a pass had made no call, each of its calls since is of the input
pub calls_in_input : {O : Type 0} (n : ℕ) (bytes : List ℕ) (kinds : Kinds) (before after : Known O) → calls_of before ≡ [] → CallsIn n bytes kinds before after →
    (e : Happened) → Contains (calls_of after) e → IsCallIn n after.seen bytes kinds e
calls_in_input n bytes kinds before after none calls e there = ⊎_elim
    (λ (was : Contains (calls_of before) e). absurd (let had : Contains [] e = subst (λ (es : List Happened). Contains es e) none was in let low = had.1 in omega arith))
    (λ (one : IsCallIn n after.seen bytes kinds e). one)
    (calls_are n (λ key found. IsPatternIn bytes kinds key) (IsMarkIn n after.seen bytes kinds) before after calls e there)

-- those for some games
pub among_in_input : {O : Type 0} (n : ℕ) (bytes : List ℕ) (kinds : Kinds) (games : List ℕ) (old new : Known O) → CallsAmong n bytes kinds games old new → CallsIn n bytes kinds old new
among_in_input n bytes kinds games old new calls =
    calls_weaker n (λ key found. IsPatternAmong bytes kinds games key) (λ key found. IsPatternIn bytes kinds key) (λ number game. Contains games game × IsMarkIn n new.seen bytes kinds number game)
    (IsMarkIn n new.seen bytes kinds) old new (λ key found h. (h.0, h.2)) (λ number game h. h.1) calls
