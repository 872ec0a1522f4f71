use Rattle.std.proofs.Common.{rules}
use Rattle.lists.proofs.Tallied.{of_input}
use Rattle.lists.proofs.replay.replay_input.Goals as goal

pub returns : goal.returns
returns g c = of_input _ c.replay_all.result (g.R.Read.remaining c.args.input.now) c.as_str.result.now (search rules) c.replay_all.ensures
