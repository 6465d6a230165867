-- What the values of options say.
use Rattle.std.proofs.Common.{◌≡◌, ◌≢◌, ◌^◌, ℕ, List, Option, Some, None, sym, ◌∙◌, codes, arith}
use Rattle.std.specs.Prelude.{IfNone}
use Rattle.clap.specs.Words.{Row, first_of}
use Rattle.command_lines.specs.Values.{HasNoNumber}
use Rattle.sheet_core.specs.declared.orders.Order.{Order}
use Rattle.shape_sheet.specs.Words.{HasNoOrder, HasNoSheet, name_of}

-- a name that no order has, and no name
pub other_name : (rows : List Row) (name : List ℕ) (result : Option Order) → first_of (codes "by") rows ≡ Some name → IfNone result ((order : Order) → name ≢ name_of order) →
    IfNone result (HasNoOrder rows)
other_name rows name (Some order) is none = tt
other_name rows name None is none = λ order given. none order (let both = sym is ∙ given in cc)

pub no_name : (rows : List Row) → first_of (codes "by") rows ≡ None → HasNoOrder rows
no_name rows is order given = let both = sym is ∙ given in cc

-- what no sheet can be asked for by
pub no_sheet_order : (rows : List Row) → HasNoOrder rows → HasNoSheet rows
no_sheet_order rows none asked is least most = none asked.order is.order

pub no_sheet_least : (rows : List Row) → HasNoNumber (2 ^ 64) (codes "least") rows → HasNoSheet rows
no_sheet_least rows none asked is least most = none asked.least is.least least

pub no_sheet_most : (rows : List Row) → HasNoNumber (2 ^ 64) (codes "most") rows → HasNoSheet rows
no_sheet_most rows none asked is least most = none asked.most is.most (omega (arith, most))
