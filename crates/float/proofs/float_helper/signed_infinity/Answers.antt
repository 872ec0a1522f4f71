use Rattle.std.proofs.Common.{arith}
use Rattle.float.specs.Fields.{infinity_below}
use Rattle.float.proofs.float_helper.signed_infinity.Goals as goal

pub with_sign-requires : goal.with_sign-requires
with_sign-requires g c = let f = g.F.Format in let b = infinity_below f.WIDTH f.PREC f.lawful in omega arith
