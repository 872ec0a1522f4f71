use Rattle.std.proofs.Common.{◌-◌, arith}
use Rattle.forms.proofs.Exponents.{pow_up}
use Rattle.float.specs.Fields.{infinity_below}
use Rattle.float.proofs.float_helper.infinity.Goals as goal

pub packed-requires : goal.packed-requires
packed-requires g c =
    let f = g.F.Format in
    let h = f.lawful in
    let b = infinity_below f.WIDTH f.PREC h in
    let u = pow_up (f.WIDTH - 1) 63 (omega arith) in
    rw c.exp_top.ensures (omega arith)
