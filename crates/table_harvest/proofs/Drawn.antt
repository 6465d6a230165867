-- What a worker drew, one job after another.
use Rattle.std.proofs.Common.{◌≡◌, ℕ, suc, ◌<◌, ◌≤◌, ◌⊎◌, List, [], ◌∷◌, ◌++◌, Some, None, refl, ap, sym, subst, ◌∙◌, append_assoc, append-nil, ⊎_elim, arith, Contains}
use Rattle.std.proofs.lemmas.List.Elements.{Contains-push, Contains-append_left}
use Rattle.shape_core.specs.declared.words.Kinds.{Kinds}
use Rattle.game_core.specs.Games.{WrittenGame}
use Rattle.job_core.specs.Rising.{Rising, past}
use Rattle.job_core.specs.declared.knowledge.Knowledge.{Knowledge}
use Rattle.job_core.specs.declared.items.Item.TheVariants.{Job, End}
use Rattle.job_core.specs.Rule.{drawing, Draws}
use Rattle.job_core.proofs.Turns.{drawn_rises}
use Rattle.job_core.proofs.Orders.{past_on, rising_end}
use Rattle.probe_core.specs.declared.calls.Answer.{Answer}
use Rattle.slot_table.specs.declared.entries.Happened.{Happened}
use Rattle.slot_table.specs.History.{Keeps}
use Rattle.slot_table.specs.Passes.{Known}
use Rattle.gather_core.specs.declared.rows.Row.{Row}
use Rattle.harvest_faults.specs.declared.faults.HarvestFault.{HarvestFault}
use Rattle.table_shares.specs.Confirming.{HasShape}
use Rattle.gather_core.specs.Entering.{CallsOnly}
use Rattle.table_harvest.specs.declared.working.Worked.{Worked}
use Rattle.harvest_core.specs.Working.{IsPatternOfGame}
use Rattle.table_harvest.specs.Working.{IsPatternAmong, IsMarkIn, CallsOfGame, CallsAmong, AreOfGame, IsRefusedGame, IsCounted, HasDrawn}
use Rattle.gather_core.proofs.Calls.{calls_self, calls_through, calls_weaker}

-- what counting a game of the input does, with a pass
pub record IsCountedBy {O : Type 0} (n : ℕ) (bytes : List ℕ) (kinds : Kinds) (game : ℕ) (mid after : Known O) (one two : Worked) : Type 0 where
  pub counted : IsCounted game one two
  pub first : (found : HarvestFault) → one.refused ≡ Some found → (two ≡ one) × (after ≡ mid)
  pub later : CallsOfGame n bytes kinds game mid after
  pub rows : AreOfGame bytes kinds game one.share two.share
  pub refusal : (found : HarvestFault) → one.refused ≡ None → two.refused ≡ Some found → IsRefusedGame n after.seen bytes game one.share two.share found

-- what was drawn so far, were an end drawn now
abbrev pub HasSoFar : {O : Type 0} → ℕ → Kinds → Known O → Known O → Knowledge → Worked → Knowledge → Type 0
HasSoFar n kinds before after old worked v = HasDrawn n kinds before after old worked (drawing v End)

-- nothing was drawn yet
pub drawn_none : {O : Type 0} (n : ℕ) (kinds : Kinds) (before : Known O) (old : Knowledge) (worked : Worked) → worked.share.games ≡ [] → worked.share.rows ≡ [] → worked.refused ≡ None →
    HasSoFar n kinds before before old worked old
drawn_none n kinds before old worked games rows none = record {
  drawn = [];
  all = sym (append-nil old.drawn);
  same = refl;
  rest = [];
  first = sym (append-nil worked.share.games ∙ games);
  whole = λ _. refl;
  rises = (let low : 0 ≤ 0 = omega arith in low);
  later = calls_self n (λ key found. IsPatternAmong old.bytes kinds [] key) (λ number game. Contains [] game × IsMarkIn n before.seen old.bytes kinds number game) before;
  rows = λ row among. absurd (let none : Contains [] row = subst (λ (rs : List Row). Contains rs row) rows among in let low : none.0 < 0 = none.1 in omega arith);
  refusal = λ found some. absurd (let clash : Some found ≡ None = sym some ∙ none in cc);
}

-- the last of rising numbers is not below the place from which they rise
rising_last : (low : ℕ) (games : List ℕ) (last high : ℕ) → Rising low (games ++ last ∷ []) high → low ≤ last
rising_last low [] last high r = r.0
rising_last low (game ∷ games) last high r = omega (arith, r.0, rising_last (suc game) games last high r.1)

module _ {O : Type 0} (n : ℕ) (kinds : Kinds) (before mid after : Known O) (old : Knowledge) (one two : Worked) (v : Knowledge) (job : WrittenGame) where
  -- the game that is drawn is above those of the share
  pub drawn_above : Draws v (Job job) → HasSoFar n kinds before mid old one v → past one.share.games ≤ job.game
  drawn_above draws h =
      let g = job.game in
      let games = one.share.games in
      let all : (h.drawn ++ g ∷ []) ≡ games ++ (h.rest ++ g ∷ []) = ap (λ (xs : List ℕ). xs ++ g ∷ []) h.first ∙ append_assoc games h.rest (g ∷ []) in
      rising_last (past games) h.rest g (suc g)
      (rising_end 0 (suc g) games (h.rest ++ g ∷ []) (subst (λ (xs : List ℕ). Rising 0 xs (suc g)) all (drawn_rises v old.drawn h.drawn job h.all draws)))

  -- a pattern of a game drawn before is one of a game drawn
  still_among : (drawn : List ℕ) (shape : ℕ) → IsPatternAmong old.bytes kinds drawn shape → IsPatternAmong old.bytes kinds (drawn ++ job.game ∷ []) shape
  still_among drawn shape h = (h.0, Contains-append_left drawn (job.game ∷ []) h.0 h.1, h.2)

  -- and so is one of the game that was drawn last
  last_among : (drawn : List ℕ) (shape : ℕ) → IsPatternOfGame old.bytes kinds job.game shape → IsPatternAmong old.bytes kinds (drawn ++ job.game ∷ []) shape
  last_among drawn shape h = (job.game, Contains-push drawn job.game, h)

  -- a mark stays one of a pattern of its game
  mark_kept : (seen history : List Happened) (number game : ℕ) → Keeps n seen history → IsMarkIn n seen old.bytes kinds number game → IsMarkIn n history old.bytes kinds number game
  mark_kept seen history number game keeps h = record { shape = h.shape; pattern = h.pattern; number_is = keeps.numbers h.shape number h.number_is }

  -- the calls so far
  before_calls : (drawn : List ℕ) (seen : List Happened) → Keeps n mid.seen seen → CallsAmong n old.bytes kinds drawn before mid →
      CallsOnly n (λ key found. IsPatternAmong old.bytes kinds (drawn ++ job.game ∷ []) key)
      (λ number game. Contains (drawn ++ job.game ∷ []) game × IsMarkIn n seen old.bytes kinds number game) before mid
  before_calls drawn seen keeps calls = calls_weaker n (λ key found. IsPatternAmong old.bytes kinds drawn key) (λ key found. IsPatternAmong old.bytes kinds (drawn ++ job.game ∷ []) key)
      (λ number game. Contains drawn game × IsMarkIn n mid.seen old.bytes kinds number game)
      (λ number game. Contains (drawn ++ job.game ∷ []) game × IsMarkIn n seen old.bytes kinds number game) before mid
      (λ key found h. still_among drawn key h) (λ number game h. (Contains-append_left drawn (job.game ∷ []) game h.0, mark_kept mid.seen seen number game keeps h.1)) calls

  -- with those of one game more
  more_calls : (drawn : List ℕ) → CallsAmong n old.bytes kinds drawn before mid → CallsOfGame n old.bytes kinds job.game mid after →
      CallsAmong n old.bytes kinds (drawn ++ job.game ∷ []) before after
  more_calls drawn calls last =
      let enters : ℕ → Answer → Type 0 = λ key found. IsPatternAmong old.bytes kinds (drawn ++ job.game ∷ []) key in
      let marks : ℕ → ℕ → Type 0 = λ number game. Contains (drawn ++ job.game ∷ []) game × IsMarkIn n after.seen old.bytes kinds number game in
      calls_through n enters marks before mid after (before_calls drawn after.seen last.later.keeps calls)
      (calls_weaker n (λ key found. IsPatternOfGame old.bytes kinds job.game key) enters (λ number marked. (marked ≡ job.game) × IsMarkIn n after.seen old.bytes kinds number marked) marks mid after
      (λ key found h. last_among drawn key h)
      (λ number game h. (subst (Contains (drawn ++ job.game ∷ [])) (sym h.0) (Contains-push drawn job.game), h.1)) last)

  -- and the rows
  more_rows : (drawn : List ℕ) → ((row : Row) → Contains one.share.rows row → IsPatternAmong old.bytes kinds drawn row.shape) → AreOfGame old.bytes kinds job.game one.share two.share →
      (row : Row) → Contains two.share.rows row → IsPatternAmong old.bytes kinds (drawn ++ job.game ∷ []) row.shape
  more_rows drawn known of row among = ⊎_elim
      (λ (had : HasShape one.share.rows row.shape). still_among drawn row.shape (subst (IsPatternAmong old.bytes kinds drawn) had.2 (known had.0 had.1)))
      (λ (new : IsPatternOfGame old.bytes kinds job.game row.shape). last_among drawn row.shape new)
      (of row among)

  -- the game was added
  added : IsCountedBy n old.bytes kinds job.game mid after one two → two.share.games ≡ one.share.games ++ job.game ∷ [] → one.refused ≡ None → two.refused ≡ None →
      Draws v (Job job) → HasSoFar n kinds before mid old one v → HasSoFar n kinds before after old two (drawing v (Job job))
  added counted games none still draws h =
      let g = job.game in
      let rest : h.rest ≡ [] = h.whole none in
      record {
        drawn = h.drawn ++ g ∷ [];
        all = ap (λ (xs : List ℕ). xs ++ g ∷ []) h.all ∙ append_assoc old.drawn h.drawn (g ∷ []);
        same = ap (λ (x : Knowledge). (let y : Knowledge = record x { drawn = v.drawn ++ g ∷ [] } in y)) h.same;
        rest = [];
        first = ap (λ (xs : List ℕ). xs ++ g ∷ []) (h.first ∙ ap (λ (xs : List ℕ). one.share.games ++ xs) rest ∙ append-nil one.share.games) ∙ sym games ∙ sym (append-nil two.share.games);
        whole = λ _. refl;
        rises = subst (Rising 0 (h.drawn ++ g ∷ [])) (sym (past_on h.drawn g)) (drawn_rises v old.drawn h.drawn job h.all draws);
        later = more_calls h.drawn h.later counted.later;
        rows = more_rows h.drawn h.rows counted.rows;
        refusal = λ found some. absurd (let clash : Some found ≡ None = sym some ∙ still in cc);
      }

  -- it was dropped, since a game was refused before
  dropped : (found : HarvestFault) → one.refused ≡ Some found → Draws v (Job job) → HasSoFar n kinds before mid old one v → HasSoFar n kinds before mid old one (drawing v (Job job))
  dropped found some draws h =
      let g = job.game in
      record {
        drawn = h.drawn ++ g ∷ [];
        all = ap (λ (xs : List ℕ). xs ++ g ∷ []) h.all ∙ append_assoc old.drawn h.drawn (g ∷ []);
        same = ap (λ (x : Knowledge). (let y : Knowledge = record x { drawn = v.drawn ++ g ∷ [] } in y)) h.same;
        rest = h.rest ++ g ∷ [];
        first = ap (λ (xs : List ℕ). xs ++ g ∷ []) h.first ∙ append_assoc one.share.games h.rest (g ∷ []);
        whole = λ none. absurd (let clash : Some found ≡ None = sym some ∙ none in cc);
        rises = subst (Rising 0 (h.drawn ++ g ∷ [])) (sym (past_on h.drawn g)) (drawn_rises v old.drawn h.drawn job h.all draws);
        later = before_calls h.drawn mid.seen (record { numbers = λ key p number. number; marks = λ p least at_most. at_most }) h.later;
        rows = λ row among. still_among h.drawn row.shape (h.rows row among);
        refusal = λ why is. (let r = h.refusal why is in (r.0, r.1 ++ g ∷ [], ap (λ (xs : List ℕ). xs ++ g ∷ []) r.2, r.3));
      }

  -- it was refused
  refused : IsCountedBy n old.bytes kinds job.game mid after one two → two.share.games ≡ one.share.games → one.refused ≡ None → (found : HarvestFault) → two.refused ≡ Some found →
      Draws v (Job job) → HasSoFar n kinds before mid old one v → HasSoFar n kinds before after old two (drawing v (Job job))
  refused counted games none found some draws h =
      let g = job.game in
      let rest : h.rest ≡ [] = h.whole none in
      record {
        drawn = h.drawn ++ g ∷ [];
        all = ap (λ (xs : List ℕ). xs ++ g ∷ []) h.all ∙ append_assoc old.drawn h.drawn (g ∷ []);
        same = ap (λ (x : Knowledge). (let y : Knowledge = record x { drawn = v.drawn ++ g ∷ [] } in y)) h.same;
        rest = g ∷ [];
        first = ap (λ (xs : List ℕ). xs ++ g ∷ []) (h.first ∙ ap (λ (xs : List ℕ). one.share.games ++ xs) rest ∙ append-nil one.share.games ∙ sym games);
        whole = λ is. absurd (let clash : Some found ≡ None = sym some ∙ is in cc);
        rises = subst (Rising 0 (h.drawn ++ g ∷ [])) (sym (past_on h.drawn g)) (drawn_rises v old.drawn h.drawn job h.all draws);
        later = more_calls h.drawn h.later counted.later;
        rows = more_rows h.drawn h.rows counted.rows;
        refusal = λ why is. (g, [], refl, (one.share, counted.refusal why none is));
      }

  -- one job more was drawn, and its game counted
  pub drawn_more : (w : Knowledge) → IsCountedBy n old.bytes kinds job.game mid after one two → w ≡ drawing v (Job job) → Draws v (Job job) → HasSoFar n kinds before mid old one v →
      HasSoFar n kinds before after old two w
  drawn_more w counted is draws h = subst (HasSoFar n kinds before after old two) (sym is) (⊎_elim
      (λ (more : (two.share.games ≡ one.share.games ++ job.game ∷ []) × (one.refused ≡ None) × (two.refused ≡ None)). added counted more.0 more.1 more.2 draws h)
      (λ (not : (((found : HarvestFault) × (one.refused ≡ Some found)) × (two ≡ one))
      ⊎ ((two.share.games ≡ one.share.games) × (one.refused ≡ None) × ((found : HarvestFault) × (two.refused ≡ Some found)))). ⊎_elim
      (λ (had : ((found : HarvestFault) × (one.refused ≡ Some found)) × (two ≡ one)).
      let same = counted.first had.0.0 had.0.1 in
      subst (λ (x : Worked). HasSoFar n kinds before after old x (drawing v (Job job))) (sym same.0)
      (subst (λ (p : Known O). HasSoFar n kinds before p old one (drawing v (Job job))) (sym same.1) (dropped had.0.0 had.0.1 draws h)))
      (λ (now : (two.share.games ≡ one.share.games) × (one.refused ≡ None) × ((found : HarvestFault) × (two.refused ≡ Some found))).
      refused counted now.0 now.1 now.2.0 now.2.1 draws h)
      not)
      counted.counted)
