use Rattle.std.proofs.Common.{arith}
use Rattle.std.proofs.lemmas.Int.{ints, clamps}
use Rattle.forms.proofs.Orders.{nat_of_up}
use Rattle.float.proofs.float_helper.above_min.Goals as goal

pub returns : goal.returns
returns g c = let h = g.F.Format.lawful in omega (arith, ints, clamps, nat_of_up)
