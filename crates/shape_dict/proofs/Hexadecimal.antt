-- Words in hexadecimal digits: there is one way to read them.
use Rattle.std.proofs.Common.{◌≡◌, ℕ, zero, suc, ◌+◌, ◌-◌, ◌*◌, ◌/◌, ◌%◌, ◌<◌, ◌≤◌, ◌^◌, inl, inr, List, [], ◌∷◌, ◌++◌, length, get_or, take, drop, sym, refl, ap, ◌∙◌, arith, pow-suc, add-one, length-append}
use Rattle.std.proofs.lemmas.Bool.Decides.{nat_tests}
use Rattle.std.proofs.lemmas.List.{take-append-drop, take_more, take_more_set, take_all, same_from_push, get_or_at, take_at, drop_at, get_or_append_left}
use Rattle.std.proofs.lemmas.Bool.{cases_lt}
use Rattle.std.proofs.lemmas.Nat.{pow-add, div-add-mod', mod_below}
use Rattle.std.proofs.Math.Nat.{div-div-eq-div-mul}
use Rattle.std.proofs.Math.ListN.{set}
use Rattle.std.proofs.lemmas.List.Prefix.{front_reads, front_fits}
use Rattle.shape_dict.specs.Text.{hexadecimal_digit, hexadecimal, word_text}

pub length-hexadecimal : (k n : ℕ) → length (hexadecimal k n) ≡ k
length-hexadecimal zero n = refl
length-hexadecimal (suc k) n =
    length-append (hexadecimal k (n / 16)) (hexadecimal_digit (n % 16) ∷ []) ∙ (let more = length-hexadecimal k (n / 16) in omega arith)

digit_injective : (a b : ℕ) → a < 16 → b < 16 → hexadecimal_digit a ≡ hexadecimal_digit b → a ≡ b
digit_injective a b small little e = grind (arith, nat_tests)

pub hexadecimal_injective : (k m n : ℕ) → m < 16 ^ k → n < 16 ^ k → hexadecimal k m ≡ hexadecimal k n → m ≡ n
hexadecimal_injective zero m n small little e = omega arith
hexadecimal_injective (suc k) m n small little e =
    let p = same_from_push (hexadecimal k (m / 16)) (hexadecimal k (n / 16)) (hexadecimal_digit (m % 16)) (hexadecimal_digit (n % 16)) e in
    let power = pow-suc 16 k in
    let high : m / 16 ≡ n / 16 = hexadecimal_injective k (m / 16) (n / 16) (omega arith) (omega arith) p.0 in
    let low : m % 16 ≡ n % 16 = digit_injective (m % 16) (n % 16) (omega arith) (omega arith) p.1 in
    omega arith

-- one more digit
pub hexadecimal_more : (k n d : ℕ) (bytes : List ℕ) → d < 16 → k < length bytes → hexadecimal k n ≡ take k bytes → hexadecimal_digit d ≡ get_or bytes k 0 → hexadecimal (k + 1) (16 * n + d) ≡ take (k + 1) bytes
hexadecimal_more k n d bytes small inside read same =
    let high : (16 * n + d) / 16 ≡ n = omega arith in
    let low : (16 * n + d) % 16 ≡ d = omega arith in
    rw (take_more bytes k 0 inside) (ap (λ j. hexadecimal j (16 * n + d)) (add-one k) ∙ (ap (λ x. hexadecimal k x ++ hexadecimal_digit ((16 * n + d) % 16) ∷ []) high
    ∙ (ap (λ x. hexadecimal k n ++ hexadecimal_digit x ∷ []) low ∙ (ap (λ x. x ++ hexadecimal_digit d ∷ []) read ∙ ap (λ x. take k bytes ++ x ∷ []) same))))

below_sixteen : (n k : ℕ) → n / 2 ^ (k + 4) ≡ n / 2 ^ k / 16
below_sixteen n k = ap (λ x. n / x) (pow-add 2 k 4) ∙ sym (div-div-eq-div-mul n (2 ^ k) 16)

shift_before : (p : ℕ) → p < 13 → 52 - 4 * p ≡ 48 - 4 * p + 4
shift_before p small = omega arith

shift_after : (p : ℕ) → p < 13 → 52 - 4 * (p + 1) ≡ 48 - 4 * p
shift_after p small = omega arith

-- one more digit of a number written from its highest digit on
pub digit_written : (n p digit : ℕ) (digits : List ℕ) → p < 13 → p < length digits → take p digits ≡ hexadecimal p (n / 2 ^ (52 - 4 * p)) → digit ≡ hexadecimal_digit (n / 2 ^ (48 - 4 * p) % 16) → take (p + 1) (set digits p digit) ≡ hexadecimal (p + 1) (n / 2 ^ (52 - 4 * (p + 1)))
digit_written n p digit digits small inside written is =
    take_more_set digits p digit inside
    ∙ (ap (λ x. x ++ digit ∷ []) (written ∙ ap (hexadecimal p) (ap (λ x. n / 2 ^ x) (shift_before p small) ∙ below_sixteen n (48 - 4 * p)))
    ∙ (ap (λ x. hexadecimal p (n / 2 ^ (48 - 4 * p) / 16) ++ x ∷ []) is
    ∙ (ap (λ j. hexadecimal j (n / 2 ^ (48 - 4 * p))) (sym (add-one p)) ∙ ap (λ x. hexadecimal (p + 1) (n / 2 ^ x)) (sym (shift_after p small)))))

no_shift : (p : ℕ) → p ≡ 13 → 52 - 4 * p ≡ 0
no_shift p done = omega arith

-- `omega` does not end on `n / 1`, so its parts are named
some : 0 < 1
some = omega arith

one_part : (q r n : ℕ) → q * 1 + r ≡ n → r < 1 → q ≡ n
one_part q r n is none = omega arith

whole : (n : ℕ) → n / 2 ^ 0 ≡ n
whole n = one_part (n / 1) (n % 1) n (div-add-mod' n 1) (mod_below n 1 some)

enough : (p long : ℕ) → p ≡ 13 → long ≡ 13 → long ≤ p
enough p long done room = omega arith

-- all digits of a number that is written
pub all_written : (n p : ℕ) (digits : List ℕ) → p ≡ 13 → length digits ≡ 13 → take p digits ≡ hexadecimal p (n / 2 ^ (52 - 4 * p)) → digits ≡ word_text n
unfolding word_text
all_written n p digits done room written =
    sym (take_all p digits (enough p (length digits) done room))
    ∙ (written ∙ (ap (hexadecimal p) (ap (λ x. n / 2 ^ x) (no_shift p done) ∙ whole n) ∙ ap (λ j. hexadecimal j n) done))

-- the byte at a place is a digit
pub digit_at : (k n i : ℕ) → i < k → (d : ℕ) × (d < 16) × (hexadecimal_digit d ≡ get_or (hexadecimal k n) i 0)
digit_at zero n i h = absurd (omega arith)
digit_at (suc k) n i h = elim (cases_lt i k) [
  | inl before ↦ (let more = digit_at k (n / 16) i before in
      (more.0, more.1, more.2 ∙ sym (get_or_append_left (hexadecimal k (n / 16)) (hexadecimal_digit (n % 16) ∷ []) 0 i (let l = length-hexadecimal k (n / 16) in omega arith))))
  | inr last ↦ (n % 16, omega arith, sym (get_or_at (hexadecimal k (n / 16)) (hexadecimal_digit (n % 16)) [] 0 i (let l = length-hexadecimal k (n / 16) in omega arith)))
]

pub length-word_text : (word : ℕ) → length (word_text word) ≡ 13
unfolding word_text
length-word_text word = length-hexadecimal 13 word

pub word_unique : (a b : ℕ) (r s : List ℕ) → a < 2 ^ 52 → b < 2 ^ 52 → word_text a ++ r ≡ word_text b ++ s → (a ≡ b) × (r ≡ s)
unfolding word_text
word_unique a b r s small little e =
    let la = length-hexadecimal 13 a in
    let lb = length-hexadecimal 13 b in
    let front : hexadecimal 13 a ≡ hexadecimal 13 b = sym (take_at (hexadecimal 13 a) r 13 la) ∙ (ap (take 13) e ∙ take_at (hexadecimal 13 b) s 13 lb) in
    (hexadecimal_injective 13 a b small little front, sym (drop_at (hexadecimal 13 a) r 13 la) ∙ (ap (drop 13) e ∙ drop_at (hexadecimal 13 b) s 13 lb))

pub word_short : (bytes : List ℕ) (word : ℕ) (left : List ℕ) → length bytes < 13 → bytes ≡ word_text word ++ left → ⊥
word_short bytes word left short e = let l = length-word_text word in let fits = front_fits bytes (word_text word) left e in omega arith

pub word_digit : (bytes : List ℕ) (word : ℕ) (left : List ℕ) (i : ℕ) → i < 13 → bytes ≡ word_text word ++ left → (d : ℕ) × (d < 16) × (hexadecimal_digit d ≡ get_or bytes i 0)
unfolding word_text
word_digit bytes word left i small e =
    let l = length-hexadecimal 13 word in
    let d = digit_at 13 word i small in
    (d.0, d.1, d.2 ∙ sym (front_reads 0 bytes (hexadecimal 13 word) left e i (omega arith)))

pub word_read : (bytes : List ℕ) (bits : ℕ) → hexadecimal 13 bits ≡ take 13 bytes → bytes ≡ word_text bits ++ drop 13 bytes
unfolding word_text
word_read bytes bits read = sym (take-append-drop 13 bytes) ∙ ap (λ x. x ++ drop 13 bytes) (sym read)
