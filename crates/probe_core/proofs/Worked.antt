-- The definitions at worked values: keys 1, 5 and 6, and 64, 16, 2 and 1 slots.
use Rattle.std.proofs.Common.{◌≡◌, refl}
use Rattle.probe_core.specs.Order.{mixed_of, start_of, linear_place, step_of, odd_place, runs_place}

one_is_mixed : mixed_of 1 ≡ 0x9e37_79b9_7f4a_7c15
one_is_mixed = refl

five_is_mixed : mixed_of 5 ≡ 0x1715_609f_7c74_6c69
five_is_mixed = refl

six_is_mixed : mixed_of 6 ≡ 0xb54c_da58_fbbe_e87e
six_is_mixed = refl

one_starts_at_nine : start_of 4 (mixed_of 1) ≡ 9
one_starts_at_nine = refl

six_starts_at_one_of_two : start_of 1 (mixed_of 6) ≡ 1
six_starts_at_one_of_two = refl

one_slot_has_one_start : start_of 0 (mixed_of 6) ≡ 0
one_slot_has_one_start = refl

one_steps_by_five : step_of 4 (mixed_of 1) ≡ 5
one_steps_by_five = refl

five_steps_by_seven : step_of 4 (mixed_of 5) ≡ 7
five_steps_by_seven = refl

one_slot_steps_by_one : step_of 0 (mixed_of 1) ≡ 1
one_slot_steps_by_one = refl

one_goes_round : linear_place 4 1 7 ≡ 0
one_goes_round = refl

one_ends_at_four : odd_place 4 1 15 ≡ 4
one_ends_at_four = refl

five_ends_at_ten : odd_place 4 5 15 ≡ 10
five_ends_at_ten = refl

five_runs_to_twenty : runs_place 6 5 15 ≡ 20
five_runs_to_twenty = refl

five_runs_on_from_53 : runs_place 6 5 16 ≡ 53
five_runs_on_from_53 = refl
