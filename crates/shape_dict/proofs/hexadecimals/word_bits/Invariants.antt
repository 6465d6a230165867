use Rattle.std.proofs.Common.{◌≡◌, ◌+◌, ◌*◌, ◌<◌, ◌≤◌, ◌^◌, ◌++◌, ℕ, List, take}
use Rattle.shape_dict.specs.Text.{hexadecimal, word_text}
use Rattle.shape_dict.proofs.hexadecimals.word_bits.Given as goal

abbrev pub invariant-loop-place : goal.invariant-loop-place
invariant-loop-place l = record {
  small : l.bits + 2 ≤ 2 * 16 ^ l.place;
  read : l.most < 16 → (l.bits < 16 ^ l.place) × (hexadecimal l.place l.bits ≡ take l.place l.bytes);
  only : (word : ℕ) → (left : List ℕ) → l.bytes ≡ word_text word ++ left → l.most < 16;
}
