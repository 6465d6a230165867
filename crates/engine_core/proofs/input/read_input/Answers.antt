use Rattle.engine_core.proofs.Known.{read_all}
use Rattle.engine_core.proofs.input.read_input.Goals as goal

pub returns-clause-read : goal.returns-clause-read
returns-clause-read g c =
    read_all (g.R.Read.remaining c.args.reader.now) (g.R.Read.remaining c.read_by_block.new.reader) c.read_by_block.new.input.items
    c.in_ok-read_by_block.ensures.read c.in_ok-read_by_block.ensures.input
