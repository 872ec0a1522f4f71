use Rattle.std.proofs.Common.{◌+◌, ◌-◌, ◌^◌, ◌≤◌, true, ◌-ℤ◌, sym, ap, ◌∙◌, arith}
use Rattle.std.proofs.lemmas.Int.{ints}
use Rattle.std.proofs.lemmas.Bool.{ltb-true, cond_above}
use Rattle.forms.specs.Loads.{nat_of}
use Rattle.forms.proofs.Exponents.{twice_less, pow_up}
use Rattle.forms.proofs.Orders.{nat_of_up}
use Rattle.float.specs.Formats.{exp_min}
use Rattle.float.specs.Writings.{infinity, packed}
use Rattle.float.specs.Fields.{exponents, exp_max_some, infinity_below, packed_below, packed_beyond}
use Rattle.float.proofs.float_helper.from_to_float_helper.Goals as goal

pub returns-then-exp-exp_max : goal.returns-then-exp-exp_max
returns-then-exp-exp_max g c =
    let f = g.F.Format in
    let h = f.lawful in
    let above = nat_of (c.args.exp -ℤ exp_min f.WIDTH f.PREC) in
    let x = exponents f.WIDTH f.PREC h in
    let y = exp_max_some f.WIDTH f.PREC h in
    let l : 2 ^ (f.WIDTH - f.PREC) ≤ above + 2 = omega (arith, ints, nat_of_up) in
    let b = packed_beyond f.WIDTH f.PREC above c.args.mant l (c.requires.full (omega (arith, ints))) in
    cond_above (packed f.PREC above c.args.mant) (infinity f.WIDTH f.PREC) _ _ _ b (ap (λ i. (i, true)) c.signed_infinity.ensures)

pub packed-bits-requires : goal.packed-bits-requires
packed-bits-requires g c =
    let f = g.F.Format in
    let h = f.lawful in
    let x = exponents f.WIDTH f.PREC h in
    let y = exp_max_some f.WIDTH f.PREC h in
    let t = twice_less f.PREC (omega arith) in
    let b = packed_below f.WIDTH f.PREC c.above_min.result c.args.mant h (omega (arith, ints, nat_of_up)) (omega arith) in
    let u = pow_up (f.WIDTH - 1) 63 (omega arith) in
    omega arith

pub with_sign-requires : goal.with_sign-requires
with_sign-requires g c =
    let f = g.F.Format in
    let l = ltb-true c.packed-bits.result (infinity f.WIDTH f.PREC) (sym c.is_finite.ensures ∙ c.if-is_finite.true) in
    let b = infinity_below f.WIDTH f.PREC f.lawful in
    omega arith
