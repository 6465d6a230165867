use Rattle.std.proofs.Common.{rules, ◌≡◌, ◌+◌, ◌<◌, Bool, true, false, not, refl, ap, map, sym, subst, ◌∙◌, All}
use Rattle.std.proofs.lemmas.Fn.{filter_same}
use Rattle.std.proofs.lemmas.List.Elements.{All-filter}
use Rattle.shape_dict.specs.declared.entries.Entry.{Entry}
use Rattle.range_core.specs.Entries.{IsShape}
use Rattle.plain_core.specs.Inner.Entries.{entry_of_pair}
use Rattle.range_core.specs.Rows.{is_taken, taken_of}
use Rattle.plain_core.proofs.Entered.{entries_of-pairs}
use Rattle.plain_core.proofs.RowLookups.{once_among, all_count}
use Rattle.plain_core.proofs.counts.Counts.into_entries.Goals as goal

twice : (b : Bool) → not (not b) ≡ b
twice true = refl
twice false = refl

kept : (c : goal.After-retain) → c.retain.new.self.items ≡ taken_of c.self.inside.rows.items
kept c = filter_same _ is_taken _ (λ x b f' k. (let told : b ≡ not (not (is_taken x)) = search rules in told ∙ twice (is_taken x), search rules)) _ _ c.retain.ensures.filtered

pub returns-clause-entries : goal.returns-clause-entries
returns-clause-entries c = kept c ∙ sym (entries_of-pairs (taken_of c.self.inside.rows.items)) ∙ ap (map entry_of_pair) c.self.view_is

pub returns-clause-shapes : goal.returns-clause-shapes
returns-clause-shapes c = subst (All IsShape) (sym (kept c)) (All-filter is_taken IsShape c.self.inside.rows.items c.self.invariant.0.shapes)

pub returns-clause-counted : goal.returns-clause-counted
returns-clause-counted c =
    let counts : Entry → Type 0 = λ (row : Entry). 0 < row.there + row.played in
    subst (All counts) (sym (kept c)) (all_count c.self.inside.rows.items)

pub returns-clause-once : goal.returns-clause-once
returns-clause-once c = rw (sym c.self.view_is) (once_among c.self.inside.rows.items c.self.invariant.0)
