-- `records::exchange` meets its contract. Assumes nothing.
use Rattle.journal.proofs.Record.{state_exchanged, record_exchanged}
use Rattle.journal.proofs.records.exchange.Goals as goal

pub returns : goal.returns
returns c = (search state_exchanged, search record_exchanged)
