-- What is known where entries come and then the end, from what is known after the next one.
use Rattle.std.proofs.Common.{◌≡◌, ℕ, ◌<◌, List, [], ◌∷◌, MatchOption, Option, Some, None, ap, sym, refl, subst, ◌∙◌}
use Rattle.shape_dict.specs.declared.entries.Entry.{Entry}
use Rattle.shape_dict.specs.Merging.{moved_entry, summed_entry}
use Rattle.shape_dict.specs.Inner.Merging.{merged}
use Rattle.shape_dict.proofs.Merging.{placed_left, placed_right, placed_both}
use Rattle.merge_core.specs.Entries.{WasNext}
use Rattle.merge_core.specs.Inner.Trees.{Comes}
use Rattle.merge_core.specs.declared.heads.Heads.{Heads}
use Rattle.merge_core.proofs.Unmerged.{Paired}

pub came_before : (Before After : List Entry → Type 0) (next : Option Entry) → WasNext Before After next → (es : List Entry) → Comes next After es → Before es
came_before Before After None w es h = subst Before (sym h) w
came_before Before After (Some e) w es h = subst Before (sym h.1) (w h.0 h.2)

-- the first entry of a join
first_left : (games : ℕ) (e : Entry) (right : Option Entry) (Right : List Entry → Type 0) (mine other : List Entry) → MatchOption right (Unit {0}) (λ o. e.shape < o.shape) → Comes right Right other →
    merged games (e ∷ mine) other ≡ e ∷ merged games mine other
first_left games e None Right mine other h k = ap (λ (xs : List Entry). merged games (e ∷ mine) xs) k ∙ ap (λ (xs : List Entry). e ∷ merged games mine xs) (sym k)
first_left games e (Some o) Right mine other h k =
    ap (λ (xs : List Entry). merged games (e ∷ mine) xs) k.1 ∙ (placed_left games e o (merged games mine) k.0 h ∙ ap (λ (xs : List Entry). e ∷ merged games mine xs) (sym k.1))

first_right : (games : ℕ) (f : Entry) (left : Option Entry) (Left : List Entry → Type 0) (mine other : List Entry) → MatchOption left (Unit {0}) (λ m. f.shape < m.shape) → Comes left Left mine →
    merged games mine (f ∷ other) ≡ moved_entry games f ∷ merged games mine other
first_right games f None Left mine other h k = ap (λ (xs : List Entry). merged games xs (f ∷ other)) k ∙ ap (λ (xs : List Entry). moved_entry games f ∷ merged games xs other) (sym k)
first_right games f (Some m) Left mine other h k =
    ap (λ (xs : List Entry). merged games xs (f ∷ other)) k.1 ∙ (placed_right games m f (merged games k.0) other h ∙ ap (λ (xs : List Entry). moved_entry games f ∷ merged games xs other) (sym k.1))

-- the heads after an entry of the left, of the right, or of both
abbrev pub heads_of : ℕ → Option Entry → Option Entry → Heads
heads_of games left right = record { games = games; left = left; right = right }

some_comes : (head : Option Entry) (e : Entry) (Rest : List Entry → Type 0) (es : List Entry) → head ≡ Some e → Rest es → Comes head Rest (e ∷ es)
some_comes head e Rest es is h = subst (λ (x : Option Entry). Comes x Rest (e ∷ es)) (sym is) (es, refl, h)

pub none_came : (Left Right : List Entry → Type 0) (heads : Heads) → heads.left ≡ None → heads.right ≡ None → Paired Left Right heads []
none_came Left Right heads left right =
    ([], [], subst (λ (x : Option Entry). Comes x Left []) (sym left) refl, subst (λ (x : Option Entry). Comes x Right []) (sym right) refl, refl)

pub left_came : (Left After Right : List Entry → Type 0) (heads : Heads) (e : Entry) (next : Option Entry) (others : List Entry) → heads.left ≡ Some e → MatchOption heads.right (Unit {0}) (λ o. e.shape < o.shape) →
    WasNext Left After next → Paired After Right (heads_of heads.games next heads.right) others → Paired Left Right heads (e ∷ others)
left_came Left After Right heads e next others is below w p = (
  e ∷ p.0,
  p.1,
  some_comes heads.left e Left p.0 is (came_before Left After next w p.0 p.2),
  p.3,
  sym (first_left heads.games e heads.right Right p.0 p.1 below p.3 ∙ ap (λ (xs : List Entry). e ∷ xs) (sym p.4)),
)

pub right_came : (Left Right After : List Entry → Type 0) (heads : Heads) (f : Entry) (next : Option Entry) (others : List Entry) → heads.right ≡ Some f → MatchOption heads.left (Unit {0}) (λ m. f.shape < m.shape) →
    WasNext Right After next → Paired Left After (heads_of heads.games heads.left next) others → Paired Left Right heads (moved_entry heads.games f ∷ others)
right_came Left Right After heads f next others is below w p = (
  p.0,
  f ∷ p.1,
  p.2,
  some_comes heads.right f Right p.1 is (came_before Right After next w p.1 p.3),
  sym (first_right heads.games f heads.left Left p.0 p.1 below p.2 ∙ ap (λ (xs : List Entry). moved_entry heads.games f ∷ xs) (sym p.4)),
)

pub both_came : (Left Others Right After : List Entry → Type 0) (heads : Heads) (e f : Entry) (next more : Option Entry) (others : List Entry) → heads.left ≡ Some e → heads.right ≡ Some f → e.shape ≡ f.shape →
    WasNext Left Others next → WasNext Right After more → Paired Others After (heads_of heads.games next more) others → Paired Left Right heads (summed_entry e f ∷ others)
both_came Left Others Right After heads e f next more others left right same w v p = (
  e ∷ p.0,
  f ∷ p.1,
  some_comes heads.left e Left p.0 left (came_before Left Others next w p.0 p.2),
  some_comes heads.right f Right p.1 right (came_before Right After more v p.1 p.3),
  sym (placed_both heads.games e f (merged heads.games p.0) p.1 same ∙ ap (λ (xs : List Entry). summed_entry e f ∷ xs) (sym p.4)),
)

-- where an entry is told that was made of these
pub told_came : (next : Option Entry) (e : Entry) (Before After : List Entry → Type 0) → next ≡ Some e → ((others : List Entry) → After others → Before (e ∷ others)) → WasNext Before After next
told_came next e Before After is f = subst (λ (x : Option Entry). WasNext Before After x) (sym is) f
