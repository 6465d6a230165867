use Rattle.slot_table.proofs.Contents.{number_shown, free_shown}
use Rattle.slot_table.proofs.laws.numbers_are_where_the_content_shows_them.Goals as goal

pub returns-clause-number : goal.returns-clause-number
returns-clause-number c = λ n history key p inside. (λ number. number.stands, number_shown n history key p inside)

pub returns-clause-free : goal.returns-clause-free
returns-clause-free c = λ n history p inside. (λ free. free.free, free_shown n history p inside)
