-- Each move keeps the rule of the queue.
use Rattle.std.proofs.Common.{◌≡◌, ◌≢◌, ℕ, zero, suc, ◌<◌, ◌≤◌, true, false, true≢false, List, [], ◌∷◌, ◌++◌, set, sym, refl, ap, ◌∙◌, subst, inl, inr, ⊎_elim, arith}
use Rattle.std.specs.Prelude.{⊤}
use mathlib.Core.Option.{some, some-ne-none, some-injective}
use lib.ListN.{get_elem?}
use Rattle.crossbeam_queue.specs.Fifo.{Pushes, Pops, Forks, Merges, Learns}
use Rattle.crossbeam_queue.proofs.Lists.{at_set, at_snoc, set_else}
use Rattle.atomic_table.specs.Seated.{TableId}
use Rattle.job_core.specs.declared.items.Item.{Item}
use Rattle.job_core.specs.declared.items.Item.TheVariants.{Job, End}
use Rattle.job_core.specs.declared.knowledge.Knowledge.{Knowledge}
use Rattle.job_core.specs.Rising.{Rising, past}
use Rattle.job_core.specs.Rule.{all_parts, blank, spent, reader, worker, putting, drawing, lending, taking_up, Draws, MayPut}
use Rattle.job_core.specs.Queue.{Queued, Fits, Keeps, Holds}
use Rattle.job_core.specs.Inner.Rule.{IsSettled}
use Rattle.job_core.proofs.Orders.{rising_up, rising_on, past_on, queued_job, queued_end}
use Rattle.job_core.proofs.Accounts.{loses_put_job, loses_put_end, loses_draw_job, loses_draw_end, loses_begin, loses_lend, loses_take_up, writes_alone, settles}

abbrev All : (ℕ → Knowledge → Type 0) → List Knowledge → Type 0
All F views = (port : ℕ) (v : Knowledge) → get_elem? views port ≡ some v → F port v

all_set : (F : ℕ → Knowledge → Type 0) (views : List Knowledge) (port : ℕ) (w : Knowledge) → F port w → ((j : ℕ) (u : Knowledge) → j ≢ port → get_elem? views j ≡ some u → F j u) → All F (set views port w)
all_set F views port w mine others j u e = ⊎_elim (λ (x : (j ≡ port) × (w ≡ u)). subst (λ (y : ℕ × Knowledge). F y.0 y.1) (λ i. (sym x.0 i, x.1 i)) mine)
    (λ (x : (j ≢ port) × (get_elem? views j ≡ some u)). others j u x.0 x.1) (at_set views port j w u e)

all_snoc : (F : ℕ → Knowledge → Type 0) (views : List Knowledge) (w : Knowledge) → ((j : ℕ) → F j w) → All F views → All F (views ++ w ∷ [])
all_snoc F views w new old j u e = ⊎_elim (λ x. old j u x) (λ (is : w ≡ u). subst (λ (y : Knowledge). F j y) is (new j)) (at_snoc views w u j e)

-- the pass of a new queue is its one pass
only : (port : ℕ) (v : Knowledge) → get_elem? (blank ∷ []) port ≡ some v → (port ≡ 0) × (blank ≡ v)
only zero v e = (refl, some-injective blank v e)
only (suc port) v e = absurd (some-ne-none v (sym e))

-- where a pass has named the input, the queue keeps its order and loses nothing
kept : (items : List Item) (views : List Knowledge) (port : ℕ) (v : Knowledge) → v.named ≡ true → Holds items views → get_elem? views port ≡ some v → Keeps items views
kept items views port v named h at = ⊎_elim
    (λ (x : (items ≡ []) × (views ≡ blank ∷ [])). absurd (true≢false (sym named ∙ ap (λ (y : Knowledge). y.named) (sym (only port v (ap (λ l. get_elem? l port) (sym x.1) ∙ at)).1))))
    (λ k. k) h

pub begins : Holds [] (blank ∷ [])
begins = inl (refl, refl)

-- what a pass with a part knows that writes no more than before
fits_same : (bytes : List ℕ) (low writer : ℕ) (put : List ℕ) (port : ℕ) (v w : Knowledge) → 0 < w.parts → w.named ≡ true → w.bytes ≡ bytes → Rising 0 w.drawn low →
    w.writes ≡ v.writes → w.put ≡ v.put → w.ends_put ≡ v.ends_put → Fits bytes low writer put port v → Fits bytes low writer put port w
fits_same bytes low writer put port v w some_part named same rises writes puts ends f = record {
  named = λ _. named;
  bytes_are = λ _. same;
  rises = rises;
  writes = λ is. (let old = f.writes (sym writes ∙ is) in (old.0, puts ∙ old.1));
  draws = λ is. (let old = f.draws (sym writes ∙ is) in (puts ∙ old.0, ends ∙ old.1));
  spent = λ no_part. absurd (omega (arith, some_part, no_part));
}

-- what another pass knows stays true where more was drawn
fits_up : (bytes : List ℕ) (low higher writer : ℕ) (put : List ℕ) (port : ℕ) (v : Knowledge) → low ≤ higher → Fits bytes low writer put port v → Fits bytes higher writer put port v
fits_up bytes low higher writer put port v up f = record {
  named = f.named;
  bytes_are = f.bytes_are;
  rises = rising_up 0 v.drawn low higher up f.rises;
  writes = f.writes;
  draws = f.draws;
  spent = f.spent;
}

fits_spent : (bytes : List ℕ) (low writer : ℕ) (put : List ℕ) (port : ℕ) → Fits bytes low writer put port spent
fits_spent bytes low writer put port = record {
  named = λ some_part. absurd (omega (arith, some_part));
  bytes_are = λ some_part. absurd (omega (arith, some_part));
  rises = omega arith;
  writes = λ is. absurd (true≢false (sym is));
  draws = λ _. (refl, refl);
  spent = λ _. (refl, refl, refl, refl);
}

fits_worker : (queue : TableId) (bytes : List ℕ) (low writer : ℕ) (put : List ℕ) (port : ℕ) → Fits bytes low writer put port (worker queue bytes [])
fits_worker queue bytes low writer put port = record {
  named = λ _. refl;
  bytes_are = λ _. refl;
  rises = omega arith;
  writes = λ is. absurd (true≢false (sym is));
  draws = λ _. (refl, refl);
  spent = λ no_part. absurd (omega (arith, no_part));
}

pub puts : (n port : ℕ) (v : Knowledge) (x : Item) → v.named ≡ true → 0 < v.parts → MayPut v x → Pushes Holds n port v x (λ w. w ≡ putting v x)
puts n port v (Job job) named some_part may items views room h at =
    let k = kept items views port v named h at in
    let mine = k.fits port v at in
    let w : Knowledge = putting v (Job job) in
    let is_put : v.put ≡ k.put = (mine.writes may.0).1 in
    let put : List ℕ = k.put ++ job.game ∷ [] in (
      w,
      inr (record {
        bytes = k.bytes;
        low = k.low;
        writer = k.writer;
        put = put;
        queued = subst (λ y. Queued k.bytes k.low (items ++ Job job ∷ []) y) (sym (past_on k.put job.game))
            (queued_job k.bytes k.low items (past k.put) job (may.1 ∙ mine.bytes_are some_part) (subst (λ y. past y ≤ job.game) is_put may.2) k.queued);
        fits = all_set (Fits k.bytes k.low k.writer put) views port w (record {
          named = mine.named;
          bytes_are = mine.bytes_are;
          rises = mine.rises;
          writes = λ is. ((mine.writes is).0, ap (λ (l : List ℕ). l ++ job.game ∷ []) (mine.writes is).1);
          draws = λ is. absurd (true≢false (sym may.0 ∙ is));
          spent = λ no_part. absurd (omega (arith, some_part, no_part));
        })
            (λ j u other e. let f = k.fits j u e in record {
              named = f.named;
              bytes_are = f.bytes_are;
              rises = f.rises;
              writes = λ is. absurd (other ((f.writes is).0 ∙ sym (mine.writes may.0).0));
              draws = f.draws;
              spent = f.spent;
            });
        whole = loses_put_job items views port v job at (writes_alone k.bytes k.low k.writer k.put items views port v k.fits at may.0 ∙ may.3) k.whole;
      }),
      refl,
    )
puts n port v End named some_part may items views room h at =
    let k = kept items views port v named h at in
    let mine = k.fits port v at in
    let w : Knowledge = putting v End in (
      w,
      inr (record {
        bytes = k.bytes;
        low = k.low;
        writer = k.writer;
        put = k.put;
        queued = queued_end k.bytes k.low items (past k.put) k.queued;
        fits = all_set (Fits k.bytes k.low k.writer k.put) views port w (record {
          named = mine.named;
          bytes_are = mine.bytes_are;
          rises = mine.rises;
          writes = mine.writes;
          draws = λ is. absurd (true≢false (sym may ∙ is));
          spent = λ no_part. absurd (omega (arith, some_part, no_part));
        })
            (λ j u other e. k.fits j u e);
        whole = loses_put_end items views port v at k.whole;
      }),
      refl,
    )

pub takes : (port : ℕ) (v : Knowledge) → v.named ≡ true → 0 < v.parts → Pops Holds port v (λ x w. (w ≡ drawing v x) × Draws v x)
takes port v named some_part (Job job) items views h at =
    let k = kept (Job job ∷ items) views port v named h at in
    let mine = k.fits port v at in
    let w : Knowledge = drawing v (Job job) in
    let drawn = rising_on 0 v.drawn k.low job.game k.queued.1 mine.rises in
    let up = k.queued.1 in (
      w,
      inr (record {
        bytes = k.bytes;
        low = suc job.game;
        writer = k.writer;
        put = k.put;
        queued = k.queued.2;
        fits = all_set (Fits k.bytes (suc job.game) k.writer k.put) views port w
            (fits_same k.bytes (suc job.game) k.writer k.put port v w some_part named (mine.bytes_are some_part) drawn refl refl refl
            (fits_up k.bytes k.low (suc job.game) k.writer k.put port v (omega (arith, up)) mine))
            (λ j u other e. fits_up k.bytes k.low (suc job.game) k.writer k.put j u (omega (arith, up)) (k.fits j u e));
        whole = loses_draw_job items views port v job at k.whole;
      }),
      (refl, (k.queued.0 ∙ sym (mine.bytes_are some_part), drawn)),
    )
takes port v named some_part End items views h at =
    let k = kept (End ∷ items) views port v named h at in
    let mine = k.fits port v at in
    let w : Knowledge = drawing v End in (
      w,
      inr (record {
        bytes = k.bytes;
        low = k.low;
        writer = k.writer;
        put = k.put;
        queued = k.queued;
        fits = all_set (Fits k.bytes k.low k.writer k.put) views port w
            (fits_same k.bytes k.low k.writer k.put port v w some_part named (mine.bytes_are some_part) mine.rises refl refl refl mine)
            (λ j u other e. k.fits j u e);
        whole = loses_draw_end items views port v at k.whole;
      }),
      (refl, tt),
    )

fits_begin : (queue : TableId) (bytes : List ℕ) → All (Fits bytes 0 0 []) (reader queue bytes [] ∷ spent ∷ [])
fits_begin queue bytes zero v e = subst (λ y. Fits bytes 0 0 [] 0 y) (some-injective (reader queue bytes []) v e) (record {
  named = λ _. refl;
  bytes_are = λ _. refl;
  rises = omega arith;
  writes = λ _. (refl, refl);
  draws = λ is. absurd (true≢false is);
  spent = λ no_part. absurd (omega (arith, no_part));
})
fits_begin queue bytes (suc zero) v e = subst (λ y. Fits bytes 0 0 [] 1 y) (some-injective spent v e) (fits_spent bytes 0 0 [] 1)
fits_begin queue bytes (suc (suc port)) v e = absurd (some-ne-none v (sym e))

fresh : (queue : TableId) (bytes : List ℕ) → Holds [] (reader queue bytes [] ∷ spent ∷ [])
fresh queue bytes = inr (record {
  bytes = bytes;
  low = 0;
  writer = 0;
  put = [];
  queued = omega arith;
  fits = fits_begin queue bytes;
  whole = loses_begin queue bytes;
})

-- the input is named where the queue is new
pub names : (port : ℕ) (v : Knowledge) (queue : TableId) (bytes : List ℕ) → v ≡ blank → Forks Holds port v (reader queue bytes []) spent
names port v queue bytes is items views h at = ⊎_elim
    (λ (x : (items ≡ []) × (views ≡ blank ∷ [])).
    let here = (only port v (ap (λ l. get_elem? l port) (sym x.1) ∙ at)).0 in
    subst (λ (y : (List Item × List Knowledge) × ℕ). Holds y.0.0 (set y.0.1 y.1 (reader queue bytes []) ++ spent ∷ [])) (λ i. ((sym x.0 i, sym x.1 i), sym here i)) (fresh queue bytes))
    (λ (k : Keeps items views).
    let some_part : 0 < v.parts = subst (λ (y : Knowledge). 0 < y.parts) (sym is) (omega arith) in
    absurd (true≢false (sym ((k.fits port v at).named some_part) ∙ ap (λ (y : Knowledge). y.named) is))) h

pub forks : (port : ℕ) (v : Knowledge) → v.named ≡ true → 1 < v.parts → Forks Holds port v (lending v) (worker v.queue v.bytes [])
forks port v named more items views h at =
    let k = kept items views port v named h at in
    let mine = k.fits port v at in
    let bytes : v.bytes ≡ k.bytes = mine.bytes_are (omega (arith, more)) in
    let w : Knowledge = lending v in
    let new : Knowledge = worker v.queue v.bytes [] in
    let F : ℕ → Knowledge → Type 0 = Fits k.bytes k.low k.writer k.put in
    let left = fits_same k.bytes k.low k.writer k.put port v w (omega (arith, more)) named bytes mine.rises refl refl refl mine in
    let right : (j : ℕ) → F j new = λ j. subst (λ (b : List ℕ). F j (worker v.queue b [])) (sym bytes) (fits_worker v.queue k.bytes k.low k.writer k.put j) in
    inr (record {
      bytes = k.bytes;
      low = k.low;
      writer = k.writer;
      put = k.put;
      queued = k.queued;
      fits = all_snoc F (set views port w) new right (all_set F views port w left (λ j u other e. k.fits j u e));
      whole = loses_lend items views port v at more k.whole;
    })

pub merges : (port : ℕ) (v : Knowledge) (other : ℕ) (w : Knowledge) → v.named ≡ true → 0 < v.parts → w.writes ≡ false → Merges Holds port v other w (taking_up v w) spent
merges port v other w named some_part draws items views h at apart there =
    let k = kept items views port v named h at in
    let mine = k.fits port v at in
    let both : Knowledge = taking_up v w in
    let vs : List Knowledge = set views port both in
    let theirs = k.fits other w (sym (set_else views port other both apart) ∙ there) in
    let F : ℕ → Knowledge → Type 0 = Fits k.bytes k.low k.writer k.put in
    let here = fits_same k.bytes k.low k.writer k.put port v both (omega (arith, some_part)) named (mine.bytes_are some_part) mine.rises refl refl refl mine in
    inr (record {
      bytes = k.bytes;
      low = k.low;
      writer = k.writer;
      put = k.put;
      queued = k.queued;
      fits = all_set F vs other spent (fits_spent k.bytes k.low k.writer k.put other)
          (λ j u _ e. all_set F views port both here (λ j' u' _ e'. k.fits j' u' e') j u e);
      whole = loses_take_up items views port v other w at there (theirs.draws draws) k.whole;
    })

pub learns : (port : ℕ) (v : Knowledge) → Learns Holds port v (λ items. ⊤)
learns port v items views h at = tt

pub settled : (port : ℕ) (v : Knowledge) → v.named ≡ true → v.parts ≡ all_parts → Learns Holds port v (λ items. IsSettled v)
settled port v named all items views h at =
    let k = kept items views port v named h at in
    settles k.bytes k.low k.writer k.put items views port v k.fits at all k.whole
