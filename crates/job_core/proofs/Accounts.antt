-- Each move loses nothing.
use Rattle.std.proofs.Common.{◌≡◌, ◌≢◌, ℕ, ◌+◌, ◌<◌, Bool, true, false, List, [], ◌∷◌, ◌++◌, set, sym, refl, ap, ◌∙◌, arith}
use Rattle.std.specs.Prelude.{sum_by}
use Rattle.std.proofs.lemmas.List.Sums.{sum_by_push}
use mathlib.Core.Option.{some}
use lib.ListN.{get_elem?}
use Rattle.atomic_table.specs.Seated.{TableId}
use Rattle.job_core.specs.declared.items.Item.{Item}
use Rattle.job_core.specs.declared.items.Item.TheVariants.{Job, End}
use Rattle.job_core.specs.declared.knowledge.Knowledge.{Knowledge}
use Rattle.game_core.specs.Games.{WrittenGame}
use Rattle.job_core.specs.Times.{times_of}
use Rattle.job_core.specs.Rule.{all_parts, reader, worker, spent, putting, drawing, lending, taking_up}
use Rattle.job_core.specs.Queue.{games_in, ends_in, JobsFirst, all_drawn, times_put, times_drawn, Fits, LosesNothing}
use Rattle.job_core.specs.Inner.Rule.{IsSettled}
use Rattle.job_core.proofs.Sums.{sum_set, has_all, others_none, times_append, never}

-- ---- items, and one more at the back
games_in_more : (items : List Item) (x : Item) → games_in (items ++ x ∷ []) ≡ games_in items ++ games_in (x ∷ [])
games_in_more [] x = refl
games_in_more (Job j ∷ items) x = ap (λ games. j.game ∷ games) (games_in_more items x)
games_in_more (End ∷ items) x = games_in_more items x

ends_in_more : (items : List Item) (x : Item) → ends_in (items ++ x ∷ []) ≡ ends_in items + ends_in (x ∷ [])
ends_in_more [] x = omega arith
ends_in_more (Job j ∷ items) x = ends_in_more items x
ends_in_more (End ∷ items) x = let rest : ends_in (items ++ x ∷ []) ≡ ends_in items + ends_in (x ∷ []) = ends_in_more items x in omega (arith, rest)

no_games : (items : List Item) → games_in items ≡ [] → games_in (items ++ End ∷ []) ≡ []
no_games items none = games_in_more items End ∙ ap (λ (games : List ℕ). games ++ []) none

job_last : (items : List Item) (job : WrittenGame) → ends_in items ≡ 0 → JobsFirst (items ++ Job job ∷ [])
job_last [] job no_end = tt
job_last (Job j ∷ items) job no_end = job_last items job no_end
job_last (End ∷ items) job no_end = absurd (omega (arith, no_end))

end_last : (items : List Item) → JobsFirst items → JobsFirst (items ++ End ∷ [])
end_last [] first = (refl, tt)
end_last (Job j ∷ items) first = end_last items first
end_last (End ∷ items) first = (no_games items first.0, end_last items first.1)

-- ---- what all passes have, once one has changed
module _ (views : List Knowledge) (port : ℕ) (v w : Knowledge) (at : get_elem? views port ≡ some v) where
  parts_set : sum_by (λ (u : Knowledge). u.parts) (set views port w) + v.parts ≡ sum_by (λ (u : Knowledge). u.parts) views + w.parts
  parts_set = sum_set (λ (u : Knowledge). u.parts) views port v w at

  put_set : (game : ℕ) → sum_by (times_put game) (set views port w) + times_put game v ≡ sum_by (times_put game) views + times_put game w
  put_set game = sum_set (times_put game) views port v w at

  drawn_set : (game : ℕ) → sum_by (times_drawn game) (set views port w) + times_drawn game v ≡ sum_by (times_drawn game) views + times_drawn game w
  drawn_set game = sum_set (times_drawn game) views port v w at

  ends_put_set : sum_by (λ (u : Knowledge). u.ends_put) (set views port w) + v.ends_put ≡ sum_by (λ (u : Knowledge). u.ends_put) views + w.ends_put
  ends_put_set = sum_set (λ (u : Knowledge). u.ends_put) views port v w at

  ends_drawn_set : sum_by (λ (u : Knowledge). u.ends_drawn) (set views port w) + v.ends_drawn ≡ sum_by (λ (u : Knowledge). u.ends_drawn) views + w.ends_drawn
  ends_drawn_set = sum_set (λ (u : Knowledge). u.ends_drawn) views port v w at

drawn_twice : (game : ℕ) (v : Knowledge) → times_drawn game v ≡ times_of v.drawn game + times_of v.taken game
drawn_twice game v = times_append game v.drawn v.taken

-- ---- a job, and an end, put at the back
pub loses_put_job : (items : List Item) (views : List Knowledge) (port : ℕ) (v : Knowledge) (job : WrittenGame) → get_elem? views port ≡ some v →
    sum_by (λ (u : Knowledge). u.ends_put) views ≡ 0 → LosesNothing items views → LosesNothing (items ++ Job job ∷ []) (set views port (putting v (Job job)))
loses_put_job items views port v job at no_end is =
    let w : Knowledge = putting v (Job job) in
    let more : ends_in (items ++ Job job ∷ []) ≡ ends_in items + 0 = ends_in_more items (Job job) in
    let put_ends = ends_put_set views port v w at in
    let drawn_ends = ends_drawn_set views port v w at in
    let old_ends = is.ends in
    record {
      parts = (let s = parts_set views port v w at in let p = is.parts in omega (arith, s, p));
      games = λ game.
          let s = put_set views port v w at game in
          let t = drawn_set views port v w at game in
          let p = is.games game in
          let q : times_put game w ≡ times_put game v + times_of (job.game ∷ []) game = times_append game v.put (job.game ∷ []) in
          let r : times_of (games_in (items ++ Job job ∷ [])) game ≡ times_of (games_in items) game + times_of (job.game ∷ []) game =
          ap (λ (games : List ℕ). times_of games game) (games_in_more items (Job job)) ∙ times_append game (games_in items) (job.game ∷ []) in
          omega (arith, s, t, p, q, r);
      ends = omega (arith, more, put_ends, drawn_ends, old_ends);
      jobs_first = job_last items job (omega (arith, no_end, old_ends));
      ended = λ some. absurd (omega (arith, some, drawn_ends, old_ends, no_end));
    }

pub loses_put_end : (items : List Item) (views : List Knowledge) (port : ℕ) (v : Knowledge) → get_elem? views port ≡ some v →
    LosesNothing items views → LosesNothing (items ++ End ∷ []) (set views port (putting v End))
loses_put_end items views port v at is =
    let w : Knowledge = putting v End in
    let more : ends_in (items ++ End ∷ []) ≡ ends_in items + 1 = ends_in_more items End in
    let put_ends = ends_put_set views port v w at in
    let drawn_ends = ends_drawn_set views port v w at in
    let old_ends = is.ends in
    record {
      parts = (let s = parts_set views port v w at in let p = is.parts in omega (arith, s, p));
      games = λ game.
          let s = put_set views port v w at game in
          let t = drawn_set views port v w at game in
          let p = is.games game in
          let r : times_of (games_in (items ++ End ∷ [])) game ≡ times_of (games_in items) game + times_of [] game =
          ap (λ (games : List ℕ). times_of games game) (games_in_more items End) ∙ times_append game (games_in items) [] in
          omega (arith, s, t, p, r);
      ends = omega (arith, more, put_ends, drawn_ends, old_ends);
      jobs_first = end_last items is.jobs_first;
      ended = λ some. no_games items (is.ended (omega (arith, some, drawn_ends)));
    }

-- ---- a job, and an end, drawn at the front
pub loses_draw_job : (items : List Item) (views : List Knowledge) (port : ℕ) (v : Knowledge) (job : WrittenGame) → get_elem? views port ≡ some v →
    LosesNothing (Job job ∷ items) views → LosesNothing items (set views port (drawing v (Job job)))
loses_draw_job items views port v job at is =
    let w : Knowledge = drawing v (Job job) in
    let drawn_ends = ends_drawn_set views port v w at in
    record {
      parts = (let s = parts_set views port v w at in let p = is.parts in omega (arith, s, p));
      games = λ game.
          let s = put_set views port v w at game in
          let t = drawn_set views port v w at game in
          let p = is.games game in
          let old = drawn_twice game v in
          let new = drawn_twice game w in
          let q : times_of w.drawn game ≡ times_of v.drawn game + times_of (job.game ∷ []) game = times_append game v.drawn (job.game ∷ []) in
          let r : times_of (games_in (Job job ∷ items)) game ≡ times_of (job.game ∷ []) game + times_of (games_in items) game = times_append game (job.game ∷ []) (games_in items) in
          omega (arith, s, t, p, old, new, q, r);
      ends = (let s = ends_put_set views port v w at in let p = is.ends in omega (arith, s, drawn_ends, p));
      jobs_first = is.jobs_first;
      ended = λ some. (let none : job.game ∷ games_in items ≡ [] = is.ended (omega (arith, some, drawn_ends)) in cc);
    }

pub loses_draw_end : (items : List Item) (views : List Knowledge) (port : ℕ) (v : Knowledge) → get_elem? views port ≡ some v →
    LosesNothing (End ∷ items) views → LosesNothing items (set views port (drawing v End))
loses_draw_end items views port v at is =
    let w : Knowledge = drawing v End in
    let drawn_ends = ends_drawn_set views port v w at in
    record {
      parts = (let s = parts_set views port v w at in let p = is.parts in omega (arith, s, p));
      games = λ game. (let s = put_set views port v w at game in let t = drawn_set views port v w at game in let p = is.games game in omega (arith, s, t, p));
      ends = (let s = ends_put_set views port v w at in let p = is.ends in omega (arith, s, drawn_ends, p));
      jobs_first = is.jobs_first.1;
      ended = λ some. is.jobs_first.0;
    }

-- ---- parts that go and come
pub loses_begin : (queue : TableId) (bytes : List ℕ) → LosesNothing [] (reader queue bytes [] ∷ spent ∷ [])
loses_begin queue bytes = record {
  parts = refl;
  games = λ game. refl;
  ends = refl;
  jobs_first = tt;
  ended = λ some. refl;
}

pub loses_lend : (items : List Item) (views : List Knowledge) (port : ℕ) (v : Knowledge) → get_elem? views port ≡ some v → 1 < v.parts →
    LosesNothing items views → LosesNothing items (set views port (lending v) ++ worker v.queue v.bytes [] ∷ [])
loses_lend items views port v at more is =
    let w : Knowledge = lending v in
    let new : Knowledge = worker v.queue v.bytes [] in
    let vs : List Knowledge = set views port w in
    let drawn_ends = ends_drawn_set views port v w at in
    let drawn_ends' = sum_by_push (λ (u : Knowledge). u.ends_drawn) vs new in
    record {
      parts = (let s = parts_set views port v w at in let t = sum_by_push (λ (u : Knowledge). u.parts) vs new in let p = is.parts in omega (arith, s, t, p, more));
      games = λ game.
          let s = put_set views port v w at game in
          let t = drawn_set views port v w at game in
          let s' = sum_by_push (times_put game) vs new in
          let t' = sum_by_push (times_drawn game) vs new in
          let p = is.games game in
          omega (arith, s, t, s', t', p);
      ends = (let s = ends_put_set views port v w at in let s' = sum_by_push (λ (u : Knowledge). u.ends_put) vs new in let p = is.ends in omega (arith, s, s', drawn_ends, drawn_ends', p));
      jobs_first = is.jobs_first;
      ended = λ some. is.ended (omega (arith, some, drawn_ends, drawn_ends'));
    }

pub loses_take_up : (items : List Item) (views : List Knowledge) (port : ℕ) (v : Knowledge) (other : ℕ) (w : Knowledge) → get_elem? views port ≡ some v →
    get_elem? (set views port (taking_up v w)) other ≡ some w → (w.put ≡ []) × (w.ends_put ≡ 0) →
    LosesNothing items views → LosesNothing items (set (set views port (taking_up v w)) other spent)
loses_take_up items views port v other w at there draws is =
    let both : Knowledge = taking_up v w in
    let vs : List Knowledge = set views port both in
    let no_end = draws.1 in
    let drawn_ends = ends_drawn_set views port v both at in
    let drawn_ends' = ends_drawn_set vs other w spent there in
    record {
      parts = (let s = parts_set views port v both at in let t = parts_set vs other w spent there in let p = is.parts in omega (arith, s, t, p));
      games = λ game.
          let s = put_set views port v both at game in
          let t = drawn_set views port v both at game in
          let s' = put_set vs other w spent there game in
          let t' = drawn_set vs other w spent there game in
          let none : times_put game w ≡ 0 = ap (λ (games : List ℕ). times_of games game) draws.0 in
          let one = drawn_twice game v in
          let two = drawn_twice game w in
          let all = drawn_twice game both in
          let q : times_of both.taken game ≡ times_of v.taken game + times_drawn game w = times_append game v.taken (all_drawn w) in
          let p = is.games game in
          omega (arith, s, t, s', t', none, one, two, all, q, p);
      ends = (let s = ends_put_set views port v both at in let s' = ends_put_set vs other w spent there in let p = is.ends in omega (arith, s, s', no_end, drawn_ends, drawn_ends', p));
      jobs_first = is.jobs_first;
      ended = λ some. is.ended (omega (arith, some, drawn_ends, drawn_ends'));
    }

not_true : (b : Bool) → b ≢ true → b ≡ false
not_true true other = absurd (other refl)
not_true false other = refl

-- ---- what one pass has alone
module _ (bytes : List ℕ) (low writer : ℕ) (put : List ℕ) (items : List Item) (views : List Knowledge) (port : ℕ) (v : Knowledge)
    (fits : (j : ℕ) (u : Knowledge) → get_elem? views j ≡ some u → Fits bytes low writer put j u) (at : get_elem? views port ≡ some v) where
  -- where it writes, no other has put an end
  pub writes_alone : v.writes ≡ true → sum_by (λ (u : Knowledge). u.ends_put) views ≡ v.ends_put
  writes_alone writes = has_all (λ (u : Knowledge). u.ends_put) views port v at (λ j u apart there.
      ((fits j u there).draws (not_true u.writes (λ too. apart (((fits j u there).writes too).0 ∙ sym ((fits port v at).writes writes).0)))).1)

  -- where it has all parts, no other has put or drawn anything
  pub settles : v.parts ≡ all_parts → LosesNothing items views → IsSettled v
  settles all is =
      let no_part : (j : ℕ) (u : Knowledge) → j ≢ port → get_elem? views j ≡ some u → u.parts ≡ 0 =
      λ j u apart there. others_none (λ (x : Knowledge). x.parts) views port j v u at (is.parts ∙ sym all) apart there in
      let puts : (game : ℕ) → sum_by (times_put game) views ≡ times_put game v =
      λ game. has_all (times_put game) views port v at (λ j u apart there.
      let fit = fits j u there in ap (λ (games : List ℕ). times_of games game) (fit.draws (fit.spent (no_part j u apart there)).0).0) in
      let draws : (game : ℕ) → sum_by (times_drawn game) views ≡ times_drawn game v =
      λ game. has_all (times_drawn game) views port v at (λ j u apart there.
      let idle = (fits j u there).spent (no_part j u apart there) in
      ap (λ (games : List ℕ × List ℕ). times_of (games.0 ++ games.1) game) (λ i. (idle.1 i, idle.2 i))) in
      let ends_put : sum_by (λ (u : Knowledge). u.ends_put) views ≡ v.ends_put =
      has_all (λ (u : Knowledge). u.ends_put) views port v at (λ j u apart there. let fit = fits j u there in (fit.draws (fit.spent (no_part j u apart there)).0).1) in
      let ends_drawn : sum_by (λ (u : Knowledge). u.ends_drawn) views ≡ v.ends_drawn =
      has_all (λ (u : Knowledge). u.ends_drawn) views port v at (λ j u apart there. ((fits j u there).spent (no_part j u apart there)).3) in
      record {
        no_more = λ game. (let p = puts game in let d = draws game in let b = is.games game in omega (arith, p, d, b));
        all = λ some_end game.
            (let p = puts game in let d = draws game in let b = is.games game in
            let none : times_of (games_in items) game ≡ 0 = ap (λ (games : List ℕ). times_of games game) (is.ended (omega (arith, some_end, ends_drawn))) in
            omega (arith, p, d, b, none));
        ends = (let b = is.ends in omega (arith, ends_put, ends_drawn, b));
      }

-- where nothing was put, nothing was drawn
pub draws_none : (v : Knowledge) → IsSettled v → v.put ≡ [] → all_drawn v ≡ []
draws_none v is none = never (all_drawn v) (λ game.
    let most = is.no_more game in
    let no : times_put game v ≡ 0 = ap (λ (games : List ℕ). times_of games game) none in omega (arith, most, no))
