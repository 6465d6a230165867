use Rattle.std.proofs.Common.{◌≡◌, ◌∙◌, ap₂, sym, subst, List, ℕ, Some, None, option_map}
use Rattle.std.specs.Borrow.{Bor}
use Rattle.std.specs.Map.{lookup}
use Rattle.std.proofs.lemmas.Result.{on_ok_weaker}
use Rattle.twins_core.specs.Codes.{record_code}
use Rattle.twins_core.specs.Twins.{Knows}
use Rattle.twins_core.specs.Inner.Finds.{kept_in}
use Rattle.twins_core.specs.Inner.Meets.{Meets}
use Rattle.twins_core.specs.Inner.Seats.{met_at}
use Rattle.twins_core.proofs.Tables.{is_key, meets_new, meets_known}
use Rattle.twins_core.proofs.twins.Twins.meet.Goals as goal

pub returns-in-Some : goal.returns-in-Some
returns-in-Some c = λ before knows.
    let table = c.self.inside.first in
    let first = c.in-Some.first.now in
    let game = c.args.game.now in
    let name = option_map (λ (n : Bor (List ℕ)). n.now) c.args.name in
    let here : lookup (is_key (record_code game)) table.entries ≡ Some first =
    subst (λ b. lookup (is_key b) table.entries ≡ Some first) (c.as_slice.ensures.value ∙ c.in_ok-code.ensures) (sym c.in-Some.ensures.value) in
    let is : c.args.self.now ≡ kept_in table = sym c.self.view_is in
    on_ok_weaker c.push_line.result
    (λ printed. subst (λ k. Meets k before (met_at game c.args.place name) c.args.text.now.items c.push_line.new.text.items) (sym is)
    (meets_known table first before game c.args.place name c.args.text.now.items c.push_line.new.text.items here (subst (λ k. Knows k before) is knows) printed))
    (c.push_line.ensures game)

pub returns : goal.returns
returns c = λ before knows.
    let table = c.self.inside.first in
    let key = c.in_ok-code.code in
    let seat = c.in_ok-seat.seat in
    let game = c.args.game.now in
    let name = option_map (λ (n : Bor (List ℕ)). n.now) c.args.name in
    let none : lookup (is_key (record_code game)) table.entries ≡ None =
    subst (λ b. lookup (is_key b) table.entries ≡ None) (c.as_slice.ensures.value ∙ c.in_ok-code.ensures) (sym c.in_default.ensures.value) in
    let is : c.args.self.now ≡ kept_in table = sym c.self.view_is in
    meets_new table c.insert.new.self key seat before game c.args.place name c.args.text.now.items c.in_ok-code.ensures
    (ap₂ (λ p n. met_at game p n) c.in_ok-seat.ensures.0 c.in_ok-seat.ensures.1) none c.in_ok-insert.ensures.updates.1 c.in_ok-insert.ensures.entries (subst (λ k. Knows k before) is knows)
