use Rattle.rows.proofs.Computed.{hold}
use Rattle.rows.proofs.proved.Goals as goal

pub returns : goal.returns
returns c = record { count = c.count.ensures; hold = hold }
