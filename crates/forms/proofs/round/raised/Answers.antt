use Rattle.std.proofs.Common.{arith}
use Rattle.forms.proofs.Grained.{raised_few, raised_far}
use Rattle.forms.proofs.round.raised.Goals as goal

pub returns-then-by-lt64 : goal.returns-then-by-lt64
returns-then-by-lt64 c = raised_few c.args.size c.args.by c.requires (omega arith)

pub returns-else-by-lt64 : goal.returns-else-by-lt64
returns-else-by-lt64 c = raised_far c.args.size c.args.by c.requires c.if-by-lt64.false
