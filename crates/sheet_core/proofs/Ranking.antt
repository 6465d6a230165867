-- What goes before is an order, in which two patterns with different words never tie.
use Rattle.std.proofs.Common.{◌≡◌, ◌≢◌, ℕ, ◌*◌, ◌<◌, ◌≤◌, ◌⊎◌, true, false, ap, arith, nat_lt, ◌==◌, ◌&&◌, ◌||◌}
use Rattle.std.proofs.Math.Nat.{mul-le-mul_right, le_of_mul-le-mul_right}
use Rattle.std.specs.Cmp.{IsStrictWeakOrder}
use Rattle.std.proofs.lemmas.Bool.Decides.{nat_tests}
use Rattle.shape_dict.specs.declared.entries.Entry.{Entry}
use Rattle.sheet_core.specs.declared.orders.Order.{Order}
use Rattle.sheet_core.specs.declared.orders.Order.TheVariants as order
use Rattle.sheet_core.specs.Orders.{worth_of, scale_of, share_of, GoesBefore}
use Rattle.sheet_core.specs.Inner.Orders.{goes_before}

cross : (p q r a b c : ℕ) → 0 < b → p * b ≤ q * a → q * c ≤ r * b → p * c ≤ r * a
cross p q r a b c h one two =
    let first : p * b * c ≤ q * a * c = mul-le-mul_right c one in
    let second : q * c * a ≤ r * b * a = mul-le-mul_right a two in
    le_of_mul-le-mul_right {m = p * c} {n = r * a} {k = b} (omega arith) h

scale-positive : (o : Order) (e : Entry) → 0 < scale_of o e
scale-positive order.Played e = omega arith
scale-positive order.Urgency e = omega arith
scale-positive order.There e = omega arith
scale-positive order.Bound e = omega arith

one_way_by : (a b s t : ℕ) → (nat_lt b a || (a == b && nat_lt s t)) ≡ true → (nat_lt a b || (b == a && nat_lt t s)) ≡ false
one_way_by a b s t h = grind (arith, nat_tests)

-- not before, in numbers
not_before : (a b s t : ℕ) → (nat_lt b a || (a == b && nat_lt s t)) ≡ false → (a ≤ b) × (a ≡ b → t ≤ s)
not_before a b s t h = (grind (arith, nat_tests), λ e. grind (arith, nat_tests))

before_not : (a b s t : ℕ) → a ≤ b → (a ≡ b → t ≤ s) → (nat_lt b a || (a == b && nat_lt s t)) ≡ false
before_not a b s t h k = grind (arith, nat_tests)

-- three fractions, none of which is above the next one
tied : (p q r a b c : ℕ) → 0 < a → 0 < c → p * b ≤ q * a → q * c ≤ r * b → p * c ≡ r * a → (p * b ≡ q * a) × (q * c ≡ r * b)
tied p q r a b c ha hc one two same =
    let first : p * b * c ≤ q * a * c = mul-le-mul_right c one in
    let second : q * c * a ≤ r * b * a = mul-le-mul_right a two in
    let whole : p * c * b ≡ r * a * b = ap (λ n. n * b) same in
    let back : q * a * c ≤ p * b * c = omega arith in
    let forth : r * b * a ≤ q * c * a = omega arith in
    let left : q * a ≤ p * b = le_of_mul-le-mul_right {m = q * a} {n = p * b} {k = c} back hc in
    let right : r * b ≤ q * c = le_of_mul-le-mul_right {m = r * b} {n = q * c} {k = a} forth ha in
    (omega arith, omega arith)

chain_by : (p q r a b c s t u : ℕ) → 0 < a → 0 < b → 0 < c →
    (nat_lt (q * a) (p * b) || (p * b == q * a && nat_lt s t)) ≡ false →
    (nat_lt (r * b) (q * c) || (q * c == r * b && nat_lt t u)) ≡ false →
    (nat_lt (r * a) (p * c) || (p * c == r * a && nat_lt s u)) ≡ false
chain_by p q r a b c s t u ha hb hc h k =
    let one = not_before (p * b) (q * a) s t h in
    let two = not_before (q * c) (r * b) t u k in
    before_not (p * c) (r * a) s u (cross p q r a b c hb one.0 two.0)
    (λ same. let ties = tied p q r a b c ha hc one.0 two.0 same in
    let x : t ≤ s = one.1 ties.0 in let y : u ≤ t = two.1 ties.1 in omega arith)

-- what goes before is an order
pub ranks : (o : Order) → IsStrictWeakOrder (goes_before o)
ranks o = record {
  one_way = λ x y h. one_way_by (share_of o x y) (share_of o y x) x.shape y.shape h;
  chain = λ x y z h k. chain_by (worth_of o x) (worth_of o y) (worth_of o z) (scale_of o x) (scale_of o y) (scale_of o z) x.shape y.shape z.shape
      (scale-positive o x) (scale-positive o y) (scale-positive o z) h k;
}

before_by : (a b s t : ℕ) → (nat_lt a b || (b == a && nat_lt t s)) ≡ false → s ≢ t → (b < a) ⊎ ((a ≡ b) × (s < t))
before_by a b s t h apart = grind (arith, nat_tests)

-- of two patterns with different words, one goes before the other
pub GoesBefore-from : (o : Order) (x y : Entry) → goes_before o y x ≡ false → x.shape ≢ y.shape → GoesBefore o x y
GoesBefore-from o x y h apart = before_by (share_of o x y) (share_of o y x) x.shape y.shape h apart
