-- The hits of games one after another, and of parts of them.
use Rattle.std.proofs.Common.{◌≡◌, ℕ, zero, suc, ◌+◌, ◌*◌, ◌/◌, ◌%◌, ◌<◌, ◌≤◌, min, ◌⊎◌, inl, inr, ⊎_elim, List, [], ◌∷◌, ◌++◌, length, get_or, take, Option, Result, Ok, Err, IfOk, IsOk, Vec, Global, refl, ap, ap₂, sym, subst, ◌∙◌, arith, add-one, append_assoc, take-add}
use Rattle.std.proofs.Math.Nat.{add-mul, one-mul, zero-mul, suc-mul}
use Rattle.std.proofs.lemmas.Bool.{cases_lt}
use Rattle.std.proofs.lemmas.Nat.{div-add-mod', mod_below}
use Rattle.std.specs.List.{flat_map}
use Rattle.std.specs.Fork.{slice_chunk}
use Rattle.std.proofs.lemmas.List.{append-nil, take_all, take_more}
use Rattle.std.proofs.lemmas.List.Concat.{flat_map-append}
use Rattle.std.proofs.lemmas.List.Elements.{All-get_or}
use Rattle.tally_core.specs.declared.faults.TallyFault.{TallyFault}
use Rattle.hits_core.specs.declared.games.Game.{Game}
use Rattle.hits_core.specs.declared.hits.Hit.{Hit}
use Rattle.hits_core.specs.declared.searches.Sought.{Sought}
use Rattle.hits_core.specs.Hits.{first_of, AreHitsOf, AreHits}
use Rattle.hits_core.specs.declared.found.Found.{Found}
use Rattle.hits_core.specs.Inner.Finding.{IsFull, IsWithin, AddsGame}
use Rattle.hits_core.specs.Inner.Parts.{IsPart, hits_made, AreMade}
use Rattle.hits_core.proofs.Growing.{first-append, first-first, first-nil, first-full, first-after, full-first, full-more}

-- as many chunks as there are end past the last element
chunks-cover : (count len size : ℕ) → 0 < size → count ≡ len / size + min 1 (len % size) → len ≤ count * size
chunks-cover count len size some is =
    let q = len / size in
    let r = len % size in
    let whole : q * size + r ≡ len = div-add-mod' len size in
    let below : r < size = mod_below len size some in
    ⊎_elim
    (λ h. let e : count ≡ q + 1 = omega arith in let w = ap (λ n. n * size) e ∙ add-mul q 1 size in let o = one-mul size in omega arith)
    (λ h. let e : count ≡ q = omega arith in let w = ap (λ n. n * size) e in omega arith)
    (cases_lt 0 r)

made-more : (made : List (Result (Vec Hit Global) TallyFault)) (n : ℕ) (d : Result (Vec Hit Global) TallyFault) → n < length made →
    flat_map hits_made (take (suc n) made) ≡ flat_map hits_made (take n made) ++ hits_made (get_or made n d)
made-more made n d inside =
    ap (λ k. flat_map hits_made (take k made)) (sym (add-one n))
    ∙ ap (flat_map hits_made) (take_more made n d inside)
    ∙ flat_map-append hits_made (take n made) (get_or made n d ∷ [])
    ∙ ap (λ hits. flat_map hits_made (take n made) ++ hits) (append-nil (hits_made (get_or made n d)))

module _ (what : Sought) (words : List ℕ) where
  -- the hits of more games
  pub hits-append : (games others : List Game) (hits more : List Hit) → AreHits what words games hits → AreHits what words others more → AreHits what words (games ++ others) (hits ++ more)
  hits-append [] others hits more h k = subst (AreHits what words others) (ap (λ hs. hs ++ more) (sym h)) k
  hits-append (game ∷ games) others hits more h k = (
    h.0,
    h.1 ++ more,
    h.2,
    hits-append games others h.1 more h.3 k,
    ap (λ hs. hs ++ more) h.4 ∙ append_assoc h.0 h.1 more,
  )

  pub hits-one : (game : Game) (hits : List Hit) → AreHitsOf what words game hits → AreHits what words (game ∷ []) hits
  hits-one game hits h = (hits, [], h, refl, sym (append-nil hits))

  -- no games have no hits
  pub part-none : (most : Option ℕ) → IsPart what words most [] []
  part-none most = record { front = []; rest = []; all = refl; found = []; of_front = refl; enough = inl refl; cut = sym (first-nil most) }

  -- two parts are one
  pub part-append : (most : Option ℕ) (games others : List Game) (hits more : List Hit) → IsPart what words most games hits → IsPart what words most others more →
      IsPart what words most (games ++ others) (first_of most (hits ++ more))
  part-append most games others hits more h k = ⊎_elim
      (λ (whole : h.rest ≡ []).
      let all : h.front ≡ games = sym (append-nil h.front) ∙ ap (λ gs. h.front ++ gs) (sym whole) ∙ sym h.all in
      record {
        front = games ++ k.front;
        rest = k.rest;
        all = ap (λ gs. games ++ gs) k.all ∙ sym (append_assoc games k.front k.rest);
        found = h.found ++ k.found;
        of_front = hits-append games k.front h.found k.found (subst (λ gs. AreHits what words gs h.found) all h.of_front) k.of_front;
        enough = ⊎_elim (λ (none : k.rest ≡ []). inl none) (λ (full : IsFull most k.found). inr (full-more most h.found k.found full)) k.enough;
        cut = ap₂ (λ xs ys. first_of most (xs ++ ys)) h.cut k.cut
            ∙ first-append most h.found (first_of most k.found)
            ∙ first-after most h.found k.found;
      })
      (λ (full : IsFull most h.found).
      record {
        front = h.front;
        rest = h.rest ++ others;
        all = ap (λ gs. gs ++ others) h.all ∙ append_assoc h.front h.rest others;
        found = h.found;
        of_front = h.of_front;
        enough = inr full;
        cut = ap (λ xs. first_of most (xs ++ more)) h.cut
            ∙ first-append most h.found more
            ∙ first-full most h.found more full;
      })
      h.enough

  -- the parts up to the end of one
  so_far : (most : Option ℕ) (size : ℕ) (games : List Game) (made : List (Result (Vec Hit Global) TallyFault)) (d : Result (Vec Hit Global) TallyFault) →
      ((n : ℕ) → n < length made → IsPart what words most (slice_chunk games size n) (hits_made (get_or made n d))) →
      (n : ℕ) → n ≤ length made → IsPart what words most (take (n * size) games) (first_of most (flat_map hits_made (take n made)))
  so_far most size games made d each zero within =
      subst (λ gs. IsPart what words most gs (first_of most [])) (ap (λ k. take k games) (sym (zero-mul size)))
      (subst (IsPart what words most []) (sym (first-nil most)) (part-none most))
  so_far most size games made d each (suc n) within =
      let before = so_far most size games made d each n (omega arith) in
      let both = part-append most (take (n * size) games) (slice_chunk games size n) (first_of most (flat_map hits_made (take n made))) (hits_made (get_or made n d)) before (each n (omega arith)) in
      let front : take (n * size) games ++ slice_chunk games size n ≡ take (suc n * size) games = sym (take-add (n * size) size games) ∙ ap (λ k. take k games) (sym (suc-mul n size)) in
      let hits : first_of most (first_of most (flat_map hits_made (take n made)) ++ hits_made (get_or made n d)) ≡ first_of most (flat_map hits_made (take (suc n) made)) =
      first-append most (flat_map hits_made (take n made)) (hits_made (get_or made n d))
      ∙ ap (first_of most) (sym (made-more made n d (omega arith))) in
      subst (λ gs. IsPart what words most gs (first_of most (flat_map hits_made (take (suc n) made)))) front
      (subst (IsPart what words most (take (n * size) games ++ slice_chunk games size n)) hits both)

  -- all parts
  pub are-made : (most : Option ℕ) (size : ℕ) (games : List Game) (made : List (Result (Vec Hit Global) TallyFault)) (d : Result (Vec Hit Global) TallyFault) →
      0 < size → length made ≡ length games / size + min 1 (length games % size) →
      ((n : ℕ) → n < length made → IfOk (get_or made n d) (λ part. IsPart what words most (slice_chunk games size n) part.items)) →
      AreMade what words most games made
  are-made most size games made d some count each all =
      let parts : (n : ℕ) → n < length made → IsPart what words most (slice_chunk games size n) (hits_made (get_or made n d)) =
      λ n inside. of-ok (get_or made n d) (slice_chunk games size n) (All-get_or IsOk made n d inside all) (each n inside) in
      let whole = so_far most size games made d parts (length made) (omega arith) in
      subst (λ gs. IsPart what words most gs (first_of most (flat_map hits_made made))) (take_all (length made * size) games (chunks-cover (length made) (length games) size some count))
      (subst (λ ms. IsPart what words most (take (length made * size) games) (first_of most (flat_map hits_made ms))) (take_all (length made) made (omega arith)) whole)
    where
      of-ok : (part : Result (Vec Hit Global) TallyFault) (chunk : List Game) → IsOk part → IfOk part (λ p. IsPart what words most chunk p.items) → IsPart what words most chunk (hits_made part)
      of-ok (Ok part) chunk ok h = h
      of-ok (Err found) chunk ok h = absurd (cc)

  -- these games were looked at
  pub record HasFound (most : Option ℕ) (games : List Game) (found : Found) : Type 0 where
    pub asked : found.most ≡ most
    pub hits : List Hit
    pub of_games : AreHits what words games hits
    pub cut : found.hits.items ≡ first_of most hits

  pub found-none : (most : Option ℕ) (found : Found) → found.most ≡ most → found.hits.items ≡ [] → HasFound most [] found
  found-none most found asked none = record { asked = asked; hits = []; of_games = refl; cut = none ∙ sym (first-nil most) }

  -- one game more was
  pub found-on : (most : Option ℕ) (games : List Game) (game : Game) (before after : Found) → HasFound most games before → AddsGame what words game before after →
      HasFound most (games ++ game ∷ []) after
  found-on most games game before after h k =
      let within : IsWithin before = ap (λ m. first_of m before.hits.items) h.asked ∙ ap (first_of most) h.cut ∙ first-first most h.hits ∙ sym h.cut in
      record {
        asked = k.grown.most ∙ h.asked;
        hits = h.hits ++ k.hits;
        of_games = hits-append games (game ∷ []) h.hits k.hits h.of_games (hits-one game k.hits k.of_game);
        cut = k.grown.is within
            ∙ ap₂ (λ m hits. first_of m (hits ++ k.hits)) h.asked h.cut
            ∙ first-append most h.hits k.hits;
      }

  -- all were, or there are as many hits as are asked for
  pub found-part : (most : Option ℕ) (games front rest : List Game) (found : Found) → games ≡ front ++ rest → HasFound most front found → (rest ≡ []) ⊎ IsFull found.most found.hits.items →
      IsPart what words most games found.hits.items
  found-part most games front rest found all h enough = record {
    front = front;
    rest = rest;
    all = all;
    found = h.hits;
    of_front = h.of_games;
    enough = ⊎_elim (λ (none : rest ≡ []). inl none) (λ (full : IsFull found.most found.hits.items). inr (full-first most h.hits (subst (IsFull most) h.cut (subst (λ m. IsFull m found.hits.items) h.asked full)))) enough;
    cut = h.cut;
  }
