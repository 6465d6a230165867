use Rattle.std.proofs.Common.{◌≡◌, ◌<◌, ◌≤◌, ◌+◌, ◌*◌, ◌^◌, ◌∙◌, ℕ, sym, drop, arith, ap, pow-suc, add-one}
use Rattle.std.proofs.Math.Nat.{pow-le-pow_right}
use Rattle.std.proofs.lemmas.List.{take_rest}
use Rattle.shape_dict.proofs.Hexadecimal.{hexadecimal_more, word_unique, word_short, word_digit, word_read}
use Rattle.shape_dict.proofs.hexadecimals.word_bits.Goals as goal

pub returns-then-bytes-lt13-clause-only : goal.returns-then-bytes-lt13-clause-only
returns-then-bytes-lt13-clause-only c = λ word left small e. word_short c.args.bytes.now word left (omega arith) e

bound : (place bits : ℕ) → place < 13 → bits + 2 ≤ 2 * 16 ^ place → bits + 2 ≤ 2 * 16 ^ 12
bound place bits inside small = let more = pow-le-pow_right {n = 16} (omega arith) {i = place} {j = 12} (omega arith) in omega arith

pub overflow_mul-bits : goal.overflow_mul-bits
overflow_mul-bits c =
    let b = bound c.loop-place.place c.loop-place.bits (omega arith) c.loop-place.invariant.small in omega arith

pub overflow_add-bits : goal.overflow_add-bits
overflow_add-bits c =
    let b = bound c.loop-place.place c.loop-place.bits (omega arith) c.loop-place.invariant.small in
    let d = c.value_of-value.ensures.small in omega (arith, c.from.ensures)

pub loop-place-preserved : goal.loop-place-preserved
loop-place-preserved c =
    let place = c.loop-place.place in
    let value = c.value_of-value.result in
    let d = c.value_of-value.ensures in
    let same : c.from.result ≡ value = c.from.ensures in
    let power : 16 ^ (place + 1) ≡ 16 * 16 ^ place = ap (λ k. 16 ^ k) (add-one place) ∙ (pow-suc 16 place ∙ omega arith) in
    record {
      small = omega (arith, d.small, c.loop-place.invariant.small, power, same);
      read = λ all.
          let h = c.loop-place.invariant.read (omega (arith, all, c.greater-most.ensures.one)) in
          let digit : value < 16 = omega (arith, all, c.greater-most.ensures.other) in
          (omega (arith, h.0, digit, power, same), rw same (hexadecimal_more place c.loop-place.bits value c.args.bytes.now digit (omega arith) h.1 (d.found digit)));
      only = λ word left e.
          let digit = word_digit c.args.bytes.now word left place (omega arith) e in
          let is = d.only digit.0 digit.1 digit.2 in
          c.greater-most.ensures.below 16 (c.loop-place.invariant.only word left e) (omega (arith, is, digit.1));
    }

pub returns-then-most-gt15-clause-only : goal.returns-then-most-gt15-clause-only
returns-then-most-gt15-clause-only c = λ word left small e. absurd (let h = c.loop-place.invariant.only word left e in omega arith)

pub returns-clause-found : goal.returns-clause-found
returns-clause-found c =
    let all : c.loop-place.place ≡ 13 = omega arith in
    let h = c.loop-place.invariant.read (omega arith) in
    (rw (take_rest c.args.bytes.now 13) (word_read c.args.bytes.now c.loop-place.bits (rw all at h.1)), rw all at h.0)

pub returns-clause-only : goal.returns-clause-only
returns-clause-only c = λ word left small e.
    let all : c.loop-place.place ≡ 13 = omega arith in
    let h = c.loop-place.invariant.read (omega arith) in
    let read = word_read c.args.bytes.now c.loop-place.bits (rw all at h.1) in
    rw (take_rest c.args.bytes.now 13) (word_unique c.loop-place.bits word (drop 13 c.args.bytes.now) left (rw all at h.0) small (sym read ∙ e))
