-- The law of the probe orders, proved: an odd step goes through all places of a table of 2^k slots, each once, and so it does
-- from run to run. These are lemmas and no definitions; they are in this folder since the law of a trait names what is in it
-- alone.
use Rattle.std.proofs.Common.{◌≡◌, ℕ, zero, suc, ◌+◌, ◌-◌, ◌*◌, ◌/◌, ◌%◌, ◌^◌, ◌<◌, ◌≤◌, ◌⊎◌, refl, sym, ◌∙◌, ap, subst, inl, inr, arith}
use Rattle.std.proofs.lemmas.Nat.{pow_pos, pow-add, mod_below, mod-mul-add, div-mul-add, div_below, div-add-mod', mul-add-lt, mul-mod_first}
use Rattle.std.proofs.Math.Nat.{pow-succ', add-mod-mod, mod-add-mod, mul_comm, mul-mod_left, mul-div_left}
use Rattle.std.proofs.Math.Arith.{mod-mul}
use Rattle.std.proofs.Math.Pow.{pow_mono}
use Rattle.std.proofs.lemmas.Bool.{cases_order}
use Rattle.probe_core.specs.Order.{IsOrder, mixed_of, start_of, linear_place, odd_place, runs_place}

-- what times an odd step is 1, but for whole turns
pub record IsInverse (n step : ℕ) : Type 0 where
  pub inverse : ℕ
  pub turns : ℕ
  pub product : step * inverse ≡ 1 + turns * n

-- a number is even or odd
pub even_or_odd : (n : ℕ) → ((h : ℕ) × (n ≡ 2 * h)) ⊎ ((h : ℕ) × (n ≡ 2 * h + 1))
even_or_odd zero = inl (0, refl)
even_or_odd (suc n) =
    elim (even_or_odd n) [
      | inl p ↦ inr (p.0, omega (arith, p.1))
      | inr p ↦ inl (p.0 + 1, omega (arith, p.1))
    ]

pub even_turns : (n st c h : ℕ) → st ≡ 1 + c * n → c ≡ 2 * h → st ≡ 1 + h * (2 * n)
even_turns n st c h e p =
    let q : c * n ≡ 2 * h * n = ap (λ x. x * n) p
    in grind (arith, q)

pub odd_turns : (n u t c h : ℕ) → (2 * u + 1) * t ≡ 1 + c * n → c ≡ 2 * h + 1 → (2 * u + 1) * (t + n) ≡ 1 + (h + u + 1) * (2 * n)
odd_turns n u t c h e p =
    let q : c * n ≡ (2 * h + 1) * n = ap (λ x. x * n) p
    in grind (arith, q)

-- the inverse at twice as many places: the same one, or that and the number of places
pub grown_inverse : (n u : ℕ) → IsInverse n (2 * u + 1) → IsInverse (2 * n) (2 * u + 1)
grown_inverse n u i =
    elim (even_or_odd i.turns) [
      | inl p ↦ record { inverse = i.inverse; turns = p.0; product = even_turns n _ i.turns p.0 i.product p.1 }
      | inr p ↦ record { inverse = i.inverse + n; turns = p.0 + u + 1; product = odd_turns n u i.inverse i.turns p.0 i.product p.1 }
    ]

pub odd_inverse : (k u : ℕ) → IsInverse (2 ^ k) (2 * u + 1)
odd_inverse zero u = record { inverse = 1; turns = 2 * u; product = omega arith }
odd_inverse (suc k) u =
    let P : ℕ → Type 0 = λ n. IsInverse n (2 * u + 1)
    in subst P (sym (pow-succ' 2 k)) (grown_inverse (2 ^ k) u (odd_inverse k u))

pub undone : (m s t c start i : ℕ) → s * t ≡ 1 + c * (m + 1) → (start + i * s) * t + start * t * m ≡ (start * t + i * c) * (m + 1) + i
undone m s t c start i e =
    let q : i * (s * t) ≡ i * (1 + c * (m + 1)) = ap (λ x. i * x) e
    in grind (arith, q)

pub reached : (m s t c start p : ℕ) → s * t ≡ 1 + c * (m + 1) → start + (p + start * m) * t * s ≡ (start + (p + start * m) * c) * (m + 1) + p
reached m s t c start p e =
    let q : (p + start * m) * (s * t) ≡ (p + start * m) * (1 + c * (m + 1)) = ap (λ x. (p + start * m) * x) e
    in grind (arith, q)

pub back : (m s t c start i : ℕ) → s * t ≡ 1 + c * (m + 1) → i < m + 1 → ((start + i * s) % (m + 1) * t + start * t * m) % (m + 1) ≡ i
back m s t c start i e h =
    let a : ℕ = start + i * s
    in sym (mod-add-mod (a % (m + 1) * t) (m + 1) (start * t * m))
    ∙ ap (λ x. (x + start * t * m) % (m + 1)) (mul-mod_first a t (m + 1))
    ∙ mod-add-mod (a * t) (m + 1) (start * t * m)
    ∙ ap (λ x. x % (m + 1)) (undone m s t c start i e)
    ∙ mod-mul-add (start * t + i * c) (m + 1) i h

pub forth : (m s t c start p : ℕ) → s * t ≡ 1 + c * (m + 1) → p < m + 1 → (start + ((p + start * m) * t) % (m + 1) * s) % (m + 1) ≡ p
forth m s t c start p e h =
    let a : ℕ = (p + start * m) * t
    in sym (add-mod-mod start (a % (m + 1) * s) (m + 1))
    ∙ ap (λ x. (start + x) % (m + 1)) (mul-mod_first a s (m + 1))
    ∙ add-mod-mod start (a * s) (m + 1)
    ∙ ap (λ x. x % (m + 1)) (reached m s t c start p e)
    ∙ mod-mul-add (start + (p + start * m) * c) (m + 1) p h

-- a step with an inverse goes through all places, each once
pub inverse_is_order : (m s t c start : ℕ) → s * t ≡ 1 + c * (m + 1) → IsOrder (m + 1) (λ i. (start + i * s) % (m + 1))
inverse_is_order m s t c start e = record {
  within = λ i h. mod_below (start + i * s) (m + 1) (omega arith);
  once = λ i j hi hj same. sym (back m s t c start i e hi) ∙ ap (λ p. (p * t + start * t * m) % (m + 1)) same ∙ back m s t c start j e hj;
  each = λ p h. (((p + start * m) * t) % (m + 1), mod_below ((p + start * m) * t) (m + 1) (omega arith), forth m s t c start p e h);
}

pub odd_is_order : (k start u : ℕ) → IsOrder (2 ^ k) (λ i. (start + i * (2 * u + 1)) % 2 ^ k)
odd_is_order k start u =
    let v : IsInverse (2 ^ k) (2 * u + 1) = odd_inverse k u
    in let some : (2 ^ k - 1) + 1 ≡ 2 ^ k = omega (arith, pow_pos k)
    in let P : ℕ → Type 0 = λ n. (2 * u + 1) * v.inverse ≡ 1 + v.turns * n → IsOrder n (λ i. (start + i * (2 * u + 1)) % n)
    in let step : P ((2 ^ k - 1) + 1) = inverse_is_order (2 ^ k - 1) (2 * u + 1) v.inverse v.turns start
    in subst P some step v.product

-- an order is one also where its places are named otherwise
pub renamed : (n : ℕ) (f g : ℕ → ℕ) → ((i : ℕ) → i < n → f i ≡ g i) → IsOrder n f → IsOrder n g
renamed n f g e o = record {
  within = λ i h. let P : ℕ → Type 0 = λ p. p < n in subst P (e i h) (o.within i h);
  once = λ i j hi hj same. o.once i j hi hj (e i hi ∙ same ∙ sym (e j hj));
  each = λ p h. let q : (i : ℕ) × (i < n) × (f i ≡ p) = o.each p h in (q.0, q.1, sym (e q.0 q.1) ∙ q.2);
}

-- all places, from any one on
pub turned_is_order : (k start : ℕ) → IsOrder (2 ^ k) (λ i. (start + i) % 2 ^ k)
turned_is_order k start =
    renamed (2 ^ k) (λ i. (start + i * (2 * 0 + 1)) % 2 ^ k) (λ i. (start + i) % 2 ^ k)
    (λ i _. ap (λ x. (start + x) % 2 ^ k) (omega arith))
    (odd_is_order k start 0)

pub linear_is_order : (k key : ℕ) → IsOrder (2 ^ k) (linear_place k key)
linear_is_order k key = turned_is_order k (start_of k (mixed_of key))

pub steps_are_order : (k key : ℕ) → IsOrder (2 ^ k) (odd_place k key)
steps_are_order k key =
    let half : ℕ = (mixed_of key / 2 ^ 20) % 2 ^ k / 2
    in renamed (2 ^ k) (λ i. (start_of k (mixed_of key) + i * (2 * half + 1)) % 2 ^ k) (odd_place k key)
    (λ i _. ap (λ x. (start_of k (mixed_of key) + i * (x + 1)) % 2 ^ k) (mul_comm 2 half))
    (odd_is_order k (start_of k (mixed_of key)) half)

-- one order after another is an order
pub composed : (n : ℕ) (f g : ℕ → ℕ) → IsOrder n f → IsOrder n g → IsOrder n (λ i. g (f i))
composed n f g a b = record {
  within = λ i h. b.within (f i) (a.within i h);
  once = λ i j hi hj same. a.once i j hi hj (b.once (f i) (f j) (a.within i hi) (a.within j hj) same);
  each = λ p h.
      let q : (i : ℕ) × (i < n) × (g i ≡ p) = b.each p h
      in let r : (i : ℕ) × (i < n) × (f i ≡ q.0) = a.each q.0 q.1
      in (r.0, r.1, ap g r.2 ∙ q.2);
}

-- an order of runs of g places, each of them gone through from its first place to its last
pub in_runs : (m g : ℕ) (f : ℕ → ℕ) → 0 < g → IsOrder m f → IsOrder (g * m) (λ i. f (i / g) * g + i % g)
in_runs m g f pos o =
    let row : (i : ℕ) → i < g * m → i / g < m = λ i h. let P : ℕ → Type 0 = λ n. i < n in div_below i g m pos (subst P (mul_comm g m) h)
    in record {
      within = λ i h. mul-add-lt (f (i / g)) g (i % g) m (o.within (i / g) (row i h)) (mod_below i g pos);
      once = λ i j hi hj same.
          let rows : f (i / g) ≡ f (j / g) = sym (div-mul-add (f (i / g)) g (i % g) (mod_below i g pos))
          ∙ ap (λ x. x / g) same ∙ div-mul-add (f (j / g)) g (j % g) (mod_below j g pos)
          in let columns : i % g ≡ j % g = sym (mod-mul-add (f (i / g)) g (i % g) (mod_below i g pos))
          ∙ ap (λ x. x % g) same ∙ mod-mul-add (f (j / g)) g (j % g) (mod_below j g pos)
          in let runs : i / g ≡ j / g = o.once (i / g) (j / g) (row i hi) (row j hj) rows
          in sym (div-add-mod' i g) ∙ ap (λ x. x * g + i % g) runs ∙ ap (λ x. j / g * g + x) columns ∙ div-add-mod' j g;
      each = λ p h.
          let q : (i : ℕ) × (i < m) × (f i ≡ p / g) = o.each (p / g) (row p h)
          in let low : p % g < g = mod_below p g pos
          in (
            q.0 * g + p % g,
            mul-add-lt q.0 g (p % g) m q.1 low,
            ap (λ x. f x * g + (q.0 * g + p % g) % g) (div-mul-add q.0 g (p % g) low)
                ∙ ap (λ x. f q.0 * g + x) (mod-mul-add q.0 g (p % g) low)
                ∙ ap (λ x. x * g + p % g) q.2
                ∙ div-add-mod' p g,
          );
    }

pub run_row : (m g x : ℕ) → 0 < m → 0 < g → x % m * g ≡ (x * g) % (m * g)
run_row m g x some pos =
    sym (mod-mul (x * g) some pos
    ∙ ap (λ y. y % m * g + x * g % g) (mul-div_left x pos)
    ∙ ap (λ y. x % m * g + y) (mul-mod_left x g)
    ∙ omega arith)

pub run_place : (m g start s q r : ℕ) → 0 < m → 0 < g → (start + ((0 + q * s) % m * g + r)) % (m * g) ≡ (start + r + q * g * s) % (m * g)
run_place m g start s q r some pos =
    let moved : start + ((0 + q * s) % m * g + r) ≡ start + r + (0 + q * s) % m * g = omega arith
    in let product : (0 + q * s) * g ≡ q * g * s = grind arith
    in ap (λ x. x % (m * g)) moved
    ∙ ap (λ x. (start + r + x) % (m * g)) (run_row m g (0 + q * s) some pos)
    ∙ add-mod-mod (start + r) ((0 + q * s) * g) (m * g)
    ∙ ap (λ x. (start + r + x) % (m * g)) product

-- runs of 16 places, an odd number of runs further each
pub many_runs_are_order : (k start u : ℕ) → IsOrder (2 ^ (k + 4)) (λ i. (start + i % 16 + i / 16 * 16 * (2 * u + 1)) % 2 ^ (k + 4))
many_runs_are_order k start u =
    let n : ℕ = 2 ^ (k + 4)
    in let size : 16 * 2 ^ k ≡ n = mul_comm 16 (2 ^ k) ∙ sym (pow-add 2 k 4)
    in let P : ℕ → Type 0 = λ x. IsOrder x (λ i. (0 + i / 16 * (2 * u + 1)) % 2 ^ k * 16 + i % 16)
    in let runs : P n = subst P size (in_runs (2 ^ k) 16 (λ q. (0 + q * (2 * u + 1)) % 2 ^ k) (omega arith) (odd_is_order k 0 u))
    in renamed n (λ i. (start + ((0 + i / 16 * (2 * u + 1)) % 2 ^ k * 16 + i % 16)) % n) (λ i. (start + i % 16 + i / 16 * 16 * (2 * u + 1)) % n)
    (λ i _. let Q : ℕ → Type 0 = λ x. (start + ((0 + i / 16 * (2 * u + 1)) % 2 ^ k * 16 + i % 16)) % x ≡ (start + i % 16 + i / 16 * 16 * (2 * u + 1)) % x
    in subst Q (mul_comm (2 ^ k) 16 ∙ size) (run_place (2 ^ k) 16 start (2 * u + 1) (i / 16) (i % 16) (pow_pos k) (omega arith)))
    (composed n (λ i. (0 + i / 16 * (2 * u + 1)) % 2 ^ k * 16 + i % 16) (λ i. (start + i) % n) runs (turned_is_order (k + 4) start))

-- a table of 16 places or fewer is one run, and no larger one has fewer
pub few_or_more : (k : ℕ) → (k ≤ 4) ⊎ ((j : ℕ) × (k ≡ j + 4))
few_or_more k =
    elim (cases_order 4 k) [
      | inl same ↦ inl (omega (arith, same))
      | inr other ↦ elim other [ inl more ↦ inr (k - 4, omega (arith, more)) | inr few ↦ inl (omega (arith, few)) ]
    ]

pub one_run_is_order : (k start s : ℕ) → k ≤ 4 → IsOrder (2 ^ k) (λ i. (start + i % 16 + i / 16 * 16 * s) % 2 ^ k)
one_run_is_order k start s few =
    renamed (2 ^ k) (λ i. (start + i) % 2 ^ k) (λ i. (start + i % 16 + i / 16 * 16 * s) % 2 ^ k)
    (λ i h.
    let most : 2 ^ k ≤ 2 ^ 4 = pow_mono few
    in let low : i % 16 ≡ i = omega (arith, h, most)
    in let none : i / 16 ≡ 0 = omega (arith, h, most)
    in ap (λ x. x % 2 ^ k) (ap (λ x. start + x) (sym low) ∙ sym (ap (λ x. start + i % 16 + x * 16 * s) none ∙ omega arith)))
    (turned_is_order k start)

pub runs_are_order : (k key : ℕ) → IsOrder (2 ^ k) (runs_place k key)
runs_are_order k key =
    let start : ℕ = start_of k (mixed_of key)
    in let half : ℕ = (mixed_of key / 2 ^ 20) % 2 ^ k / 2
    in let f : ℕ → ℕ = λ i. (start + i % 16 + i / 16 * 16 * (2 * half + 1)) % 2 ^ k
    in let P : ℕ → Type 0 = λ n. IsOrder (2 ^ n) (λ i. (start + i % 16 + i / 16 * 16 * (2 * half + 1)) % 2 ^ n)
    in let o : P k = elim (few_or_more k) [
      | inl few ↦ one_run_is_order k start (2 * half + 1) few
      | inr more ↦ subst P (sym more.1) (many_runs_are_order more.0 start half)
    ]
    in renamed (2 ^ k) f (runs_place k key)
    (λ i _. ap (λ x. (start + i % 16 + i / 16 * 16 * (x + 1)) % 2 ^ k) (mul_comm 2 half))
    o
