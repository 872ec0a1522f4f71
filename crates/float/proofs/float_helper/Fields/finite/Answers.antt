use Rattle.std.proofs.Common.{◌≡◌, ◌+◌, ◌-◌, ◌^◌, eqb, pos, ◌-ℤ◌, arith, w32, to_z, of_z}
use Rattle.std.proofs.lemmas.Int.{ints}
use Rattle.std.proofs.lemmas.Bool.{cond-false, ne_eqb}
use Rattle.float.specs.Formats.{exp_max, exp_min}
use Rattle.float.specs.Floats.{scaled}
use Rattle.float.specs.Fields.{exponents, implicit_one}
use Rattle.float.proofs.float_helper.Fields.finite.Goals as goal

pub returns-else-self-eq0 : goal.returns-else-self-eq0
returns-else-self-eq0 g c =
    let w = g.F.Format.WIDTH in
    let p = g.F.Format.PREC in
    let h = g.F.Format.lawful in
    let s = c.args.self.now in
    let b = s.biased_exp in
    let x = exponents w p h in
    let l = s.exponent_field in
    let m = implicit_one s.mant (p - 1) (omega arith) s.trailing_field in
    let k : to_z w32 (of_z w32 (to_z w32 b -ℤ to_z w32 (of_z w32 c.exp_max.result))) ≡ pos b -ℤ pos (exp_max w p) = omega (arith, ints) in
    let z = cond-false (eqb b 0) (scaled p s.neg s.mant (exp_min w p)) (scaled p s.neg (2 ^ (p - 1) + s.mant) (pos b -ℤ pos (exp_max w p))) (ne_eqb b 0 c.if-self-eq0.false) in
    cc
