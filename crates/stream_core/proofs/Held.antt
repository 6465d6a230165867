-- Bytes that are read into a block, and given from its front.
use Rattle.std.proofs.Common.{◌≡◌, ℕ, ◌+◌, ◌-◌, ◌<◌, ◌≤◌, inl, inr, List, [], ◌∷◌, ◌++◌, length, drop, take, sym, refl, ap, ◌∙◌, subst, arith, append_assoc, take-add, Option, Some, None, IfSome, Result, Ok, Err, IfOk}
use Rattle.std.specs.List.{copy_within}
use Rattle.std.specs.Io.KnownBytes.{prepend_known, Consumes, IsAtEnd, Keeps}
use Rattle.std.proofs.lemmas.List.{drop-take, take_at, length-take-le, length-drop, length-append, drop_at}
use Rattle.std.proofs.lemmas.List.Edits.{take-paste}
use Rattle.stream_core.specs.declared.faults.StreamFault.{StreamFault}
use Rattle.stream_core.specs.Inner.Blocks.{Held, HasEnough, bytes_of}
use Rattle.stream_core.specs.Inner.Taken.{Taken}

-- the unread bytes are moved to the front
pub moved_up : (bytes after : List ℕ) (start end : ℕ) → after ≡ copy_within bytes start end 0 → start ≤ end → end ≤ length bytes → take (end - start) after ≡ drop start (take end bytes)
moved_up bytes after start end is order within =
    let n = end - start in
    let ends : start + n ≡ end = omega arith in
    let from : List ℕ = drop start bytes in
    let room : n ≤ length from = omega (arith, length-drop start bytes) in
    let none : 0 + n ≡ n = omega arith in
    let front : take n after ≡ take n from = ap (λ (m : ℕ). take m after) (sym none) ∙ (ap (take (0 + n)) is ∙ take-paste bytes 0 from n (omega arith) room) in
    let whole : drop start (take end bytes) ≡ take n from = ap (λ (m : ℕ). drop start (take m bytes)) (sym ends) ∙ drop-take start n bytes in
    front ∙ sym whole

-- a read of some bytes put after those at hand
pub read_more : (a b c : Option (List ℕ)) (xs ys zs : List ℕ) → Keeps a (prepend_known xs b) → Consumes b c ys → zs ≡ xs ++ ys → Keeps a (prepend_known zs c)
read_more None b c xs ys zs h k e = tt
read_more (Some x) None c xs ys zs h k e = absurd h
read_more (Some x) (Some y) None xs ys zs h k e = absurd k
read_more (Some x) (Some y) (Some z) xs ys zs h k e = ap (λ (l : List ℕ). l ++ z) e ∙ (append_assoc xs ys z ∙ (ap (λ (l : List ℕ). xs ++ l) (sym k) ∙ h))

-- the bytes of a block, after a part of them was lent and written
pub behind : (bytes room post tail : List ℕ) (end len : ℕ) → length bytes ≡ len → end ≤ len → length room ≡ len - end → take len (take end bytes ++ (room ++ post) ++ tail) ≡ take end bytes ++ room
behind bytes room post tail end len long fits size =
    let front : List ℕ = take end bytes in
    let short : length front ≡ end = length-take-le end bytes (omega arith) in
    let both : length (front ++ room) ≡ len = omega (arith, length-append front room) in
    let parts : front ++ (room ++ post) ++ tail ≡ (front ++ room) ++ (post ++ tail) = simp append_assoc in
    ap (take len) parts ∙ take_at (front ++ room) (post ++ tail) len both

-- the bytes at hand, after a read was put after them
pub at_hand : (bytes room : List ℕ) (end count : ℕ) → end ≤ length bytes → take (end + count) (take end bytes ++ room) ≡ take end bytes ++ take count room
at_hand bytes room end count fits =
    let front : List ℕ = take end bytes in
    let long : length front ≡ end = length-take-le end bytes fits in
    take-add end count (front ++ room) ∙ (ap (λ (l : List ℕ). l ++ take count (drop end (front ++ room))) (take_at front room end long) ∙ ap (λ (l : List ℕ). front ++ take count l) (drop_at front room end long))

pub behind_size : (bytes items room post tail : List ℕ) (end len : ℕ) → bytes ≡ items → length bytes ≡ len → end ≤ len → length room ≡ len - end → length (take len (take end bytes ++ (room ++ post) ++ tail)) ≡ length items
behind_size bytes items room post tail end len is long fits size =
    let same = ap length is in
    let short : length (take end bytes) ≡ end = length-take-le end bytes (omega arith) in
    ap length (behind bytes room post tail end len long fits size) ∙ omega (arith, length-append (take end bytes) room)

pub behind_front : (bytes items room post tail : List ℕ) (end len : ℕ) → bytes ≡ items → length bytes ≡ len → end ≤ len → length room ≡ len - end → take end (take len (take end bytes ++ (room ++ post) ++ tail)) ≡ take end items
behind_front bytes items room post tail end len is long fits size =
    ap (take end) (behind bytes room post tail end len long fits size) ∙ (take_at (take end bytes) room end (length-take-le end bytes (omega arith)) ∙ ap (take end) is)

pub behind_taken : (a b : Option (List ℕ)) (result : Result ℕ StreamFault) (bytes items room post tail : List ℕ) (end len : ℕ) → bytes ≡ items → length bytes ≡ len → end ≤ len → length room ≡ len - end → IfOk result (λ count. Consumes a b (take count room)) → IfOk result (λ count. Taken a b (take end items) (take (end + count) (take len (take end bytes ++ (room ++ post) ++ tail))))
behind_taken a b (Ok count) bytes items room post tail end len is long fits size h =
    (take count room, h, ap (take (end + count)) (behind bytes room post tail end len long fits size) ∙ (at_hand bytes room end count (omega arith) ∙ ap (λ (l : List ℕ). take end l ++ take count room) is))
behind_taken a b (Err found) bytes items room post tail end len is long fits size h = tt

-- bytes that were at the front of those at hand were consumed
pub given_front : (a b : Option (List ℕ)) (unread after front : List ℕ) → Keeps a (prepend_known unread b) → unread ≡ front ++ after → Consumes a (prepend_known after b) front
given_front None b unread after front h e = tt
given_front (Some x) None unread after front h e = absurd h
given_front (Some x) (Some y) unread after front h e = sym h ∙ (ap (λ (l : List ℕ). l ++ y) e ∙ append_assoc front after y)

-- what a block holds is kept
pub keeps_trans : (a b c : Option (List ℕ)) → Keeps a b → Keeps b c → Keeps a c
keeps_trans None b c p q = tt
keeps_trans (Some x) None c p q = absurd p
keeps_trans (Some x) (Some y) None p q = absurd q
keeps_trans (Some x) (Some y) (Some z) p q = q ∙ p

pub keeps_self : (a : Option (List ℕ)) → Keeps a a
keeps_self None = tt
keeps_self (Some x) = refl

-- the same bytes, as a block has them
pub same_bytes : (held : Held) (xs ys : List ℕ) (remaining : Option (List ℕ)) → record { unread = ys; remaining = remaining } ≡ held → xs ≡ ys → Keeps (bytes_of held) (prepend_known xs remaining)
same_bytes held xs ys remaining is same =
    subst (λ (h : Held). Keeps (bytes_of h) (prepend_known xs remaining)) is (subst (λ (l : List ℕ). Keeps (prepend_known ys remaining) (prepend_known l remaining)) (sym same) (keeps_self (prepend_known ys remaining)))

-- what a block has after bytes were passed over
pub skipped : (unread front after : List ℕ) → unread ≡ front ++ after → drop (length unread - length after) unread ≡ after
skipped unread front after same =
    let count = ap length same in
    let long = length-append front after in
    let passed : length unread - length after ≡ length front = omega arith in
    ap (λ (n : ℕ). drop n unread) passed ∙ (ap (drop (length front)) same ∙ drop_at front after (length front) refl)

pub taken_front : (old mid new : Held) (front after : List ℕ) → Keeps (bytes_of old) (bytes_of mid) → mid.unread ≡ front ++ after → new.unread ≡ after → new.remaining ≡ mid.remaining → Consumes (bytes_of old) (bytes_of new) front
taken_front old mid new front after kept same unread remaining =
    rw (unread, remaining) (given_front (bytes_of old) mid.remaining mid.unread after front kept same)

-- what is known of known bytes
pub kept_some : (a b : Option (List ℕ)) (P : List ℕ → Type 0) → Keeps a b → IfSome b P → IfSome a P
kept_some None b P h p = tt
kept_some (Some x) None P h p = absurd h
kept_some (Some x) (Some y) P h p = subst P h p

keeps_by : (b : Option (List ℕ)) (left : List ℕ) → Keeps (Some left) b → b ≡ Some left
keeps_by None left h = absurd h
keeps_by (Some y) left h = ap (λ (l : List ℕ). Some l) h

pub keeps_known : (a b : Option (List ℕ)) (left : List ℕ) → a ≡ Some left → Keeps a b → b ≡ Some left
keeps_known a b left is h = keeps_by b left (subst (λ (x : Option (List ℕ)). Keeps x b) is h)

consumes_by : (b : Option (List ℕ)) (left xs : List ℕ) → Consumes (Some left) b xs → (rest : List ℕ) × (b ≡ Some rest) × (left ≡ xs ++ rest)
consumes_by None left xs h = absurd h
consumes_by (Some y) left xs h = (y, refl, h)

pub consumes_known : (a b : Option (List ℕ)) (left xs : List ℕ) → a ≡ Some left → Consumes a b xs → (rest : List ℕ) × (b ≡ Some rest) × (left ≡ xs ++ rest)
consumes_known a b left xs is h = consumes_by b left xs (subst (λ (x : Option (List ℕ)). Consumes x b xs) is h)

pub some_at : (a : Option (List ℕ)) (left : List ℕ) (P : List ℕ → Type 0) → a ≡ Some left → IfSome a P → P left
some_at a left P is h = let at : IfSome (Some left) P = subst (λ (x : Option (List ℕ)). IfSome x P) is h in at

-- a block before the first read has what the reader has
fresh_by : (remaining : Option (List ℕ)) → prepend_known [] remaining ≡ remaining
fresh_by None = refl
fresh_by (Some more) = refl

pub fresh_bytes : (held : Held) (remaining : Option (List ℕ)) → held.unread ≡ [] → held.remaining ≡ remaining → bytes_of held ≡ remaining
fresh_bytes held remaining none is = ap (λ (l : List ℕ). prepend_known l held.remaining) none ∙ (fresh_by held.remaining ∙ is)

-- nothing is left where nothing is at hand and the reader has ended
nothing_by : (unread : List ℕ) (remaining : Option (List ℕ)) (left : List ℕ) → unread ≡ [] → IsAtEnd remaining → prepend_known unread remaining ≡ Some left → left ≡ []
nothing_by unread None left none end known = absurd cc
nothing_by unread (Some more) left none end known =
    let all : unread ++ more ≡ left = cc in
    sym all ∙ (ap (λ (l : List ℕ). l ++ more) none ∙ end)

pub nothing_left : (held : Held) (left : List ℕ) → held.unread ≡ [] → HasEnough held → bytes_of held ≡ Some left → left ≡ []
nothing_left held left none (inl many) known = absurd (omega (arith, ap length none))
nothing_left held left none (inr end) known = nothing_by held.unread held.remaining left none end known

something_by : (unread : List ℕ) (remaining : Option (List ℕ)) (left : List ℕ) → 0 < length unread → prepend_known unread remaining ≡ Some left → left ≡ [] → ⊥
something_by unread None left some known none = cc
something_by unread (Some more) left some known none =
    let all : unread ++ more ≡ left = cc in
    omega (arith, ap length all, ap length none, length-append unread more)

pub something_left : (held : Held) (left : List ℕ) → 0 < length held.unread → bytes_of held ≡ Some left → left ≡ [] → ⊥
something_left held left some known none = something_by held.unread held.remaining left some known none

pub nil_of_length : (xs : List ℕ) → length xs ≡ 0 → xs ≡ []
nil_of_length [] h = refl
nil_of_length (x ∷ xs) h = absurd (omega arith)
