-- What the words of the command line ask for.
use Rattle.std.specs.Prelude.{◌≡◌, ◌<◌, ◌^◌, ℕ, List, Some, codes, option_map}
use Rattle.clap.specs.Words.{Row, first_of}
use Rattle.command_lines.specs.Values.{IsChoiceOf, IsNumberOf}
use Rattle.shape_core.specs.declared.words.Kind.TheVariants as kind
use Rattle.sheet_core.specs.declared.asked.Asked.{Asked}
use Rattle.sheet_core.specs.declared.asked.Form.TheVariants as form
use Rattle.sheet_core.specs.declared.orders.Order.{Order}
use Rattle.sheet_core.specs.declared.orders.Order.TheVariants as order
use Rattle.shape_sheet.specs.declared.words.Drawing.{Drawing}

-- the name of an order
abbrev pub name_of : Order → List ℕ
name_of order.Played = codes "played"
name_of order.Urgency = codes "urgency"
name_of order.There = codes "there"
name_of order.Bound = codes "bound"

abbrev pub IsOrderOf : List Row → Order → Type 0
IsOrderOf rows found = first_of (codes "by") rows ≡ Some (name_of found)

-- the values of the options ask for this sheet: which kind the patterns are of, and what is written, by whether their flags were given
pub record IsAsked (rows : List Row) (asked : Asked) : Type 0 where
  pub order : IsOrderOf rows asked.order
  pub kind : IsChoiceOf (codes "diamonds") kind.Diamond kind.Square rows asked.kind
  pub least : IsNumberOf (codes "least") rows asked.least
  pub most : IsNumberOf (codes "most") rows asked.most
  pub form : IsChoiceOf (codes "plain") form.Plain form.Page rows asked.form

-- the values ask for this sheet, and for this file with lines of hits, where one is named
pub record IsDrawing (rows : List Row) (drawing : Drawing) : Type 0 where
  pub sheet : IsAsked rows drawing.sheet
  pub hits : option_map (λ name. name.now) drawing.hits ≡ first_of (codes "hits") rows

-- no order has the name that is given
abbrev pub HasNoOrder : List Row → Type 0
HasNoOrder rows = (found : Order) → IsOrderOf rows found → ⊥

-- the values of the options ask for no sheet: `least` is below 2 ^ 64, and `most` below 2 ^ 16
abbrev pub HasNoSheet : List Row → Type 0
HasNoSheet rows = (asked : Asked) → IsAsked rows asked → asked.least < 2 ^ 64 → asked.most < 2 ^ 16 → ⊥
