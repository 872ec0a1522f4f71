use Rattle.std.proofs.Common.{◌≡◌, w32}
use Rattle.std.proofs.lemmas.Int.{to_z-of_z}
use Rattle.forms.proofs.Writes.{asked_faithful}
use Rattle.float.specs.Writings.{float_writes, float_form}
use Rattle.float.specs.FloatLaws.{asked_handed, writes_infinite, writes_sign, float_laws}
use Rattle.float.proofs.write.FloatForm.write.Goals as goal

pub from_to_float_helper-requires : goal.from_to_float_helper-requires
from_to_float_helper-requires g c =
    let f = g.F.Format in
    let d = asked_handed f.WIDTH f.PREC c.args.e c.args.low c.args.more f.lawful c.requires in
    rw (to_z-of_z w32 c.args.e c.ranges.e) (record { ranged = c.requires.1.ranged; short = d.short; full = d.full })

pub returns : goal.returns
returns g c =
    let f = g.F.Format in
    let w = f.WIDTH in
    let p = f.PREC in
    let h = f.lawful in
    let n = c.args.negative in
    let e = c.args.e in
    let low = c.args.low in
    let r = c.from_to_float_helper.result in
    let a = to_z-of_z w32 e c.ranges.e in
    let v : r ≡ float_writes w p n e low = cc in
    record {
      value = v;
      faithful = asked_faithful (float_form w p) (float_laws w p h) n e low c.args.more r v;
      infinite = writes_infinite w p low n e r h v;
      sign = writes_sign w p low n e r h v;
    }
