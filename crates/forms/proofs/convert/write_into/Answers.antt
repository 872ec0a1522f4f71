use Rattle.std.proofs.Common.{◌≡◌, pos, ◌-ℤ◌, sym, subst, mul-pos, w32, to_z, of_z}
use Rattle.std.proofs.lemmas.Nat.{pow_pos}
use Rattle.std.proofs.Math.Facts.{to_z-of_z}
use Rattle.forms.specs.Loads.{nat_of, weight}
use Rattle.forms.specs.Amounts.{exponent, InRange}
use Rattle.forms.specs.Forms.{form_of, rounded}
use Rattle.forms.specs.Conversions.{facing}
use Rattle.forms.specs.Roundings.{turned}
use Rattle.forms.proofs.Answered.{word_is, facing_load, handed, answered_is}
use Rattle.forms.proofs.convert.write_into.Goals as goal

pub returns-then-over : goal.returns-then-over
returns-then-over g c =
    let l = c.args.exact.load in
    let form = c.args.form.now in
    let e_is = word_is {x = exponent (weight l)} (record { sfits = c.exponent-e.type_inv }) c.exponent-e.ensures.value in
    let g_is = word_is {x = (g.F.Form.writing form).grain (to_z w32 (of_z w32 c.exponent-e.result))} (record { sfits = c.grain.type_inv }) c.grain.ensures.value in
    let d : c.facing.result ≡ facing (g.F.Source.reads form c.write-bits.result.0) (turned l.negative c.rounded-grains.result.direction) = cc in
    let a = answered_is (form_of (g.F.Source.reads form) (g.F.Form.writing form)) l.negative (weight l) _ _ _ e_is g_is c.rounded-grains.ensures
    c.write-bits.result c.facing.result c.write-bits.ensures.value d in
    let t = c.if-over.true in
    cc

pub returns-else-over : goal.returns-else-over
returns-else-over g c =
    let l = c.args.exact.load in
    let form = c.args.form.now in
    let f = form_of (g.F.Source.reads form) (g.F.Form.writing form) in
    let e_is = word_is {x = exponent (weight l)} (record { sfits = c.exponent-e.type_inv }) c.exponent-e.ensures.value in
    let g_is = word_is {x = (g.F.Form.writing form).grain (to_z w32 (of_z w32 c.exponent-e.result))} (record { sfits = c.grain.type_inv }) c.grain.ensures.value in
    let h = handed f l.negative (weight l) _ _ _ e_is g_is c.rounded-grains.ensures
    (mul-pos c.args.exact.some (pow_pos (nat_of (pos 1074 -ℤ l.scale)))) (subst InRange (sym (to_z-of_z {w = w32} (record { sfits = c.exponent-e.type_inv }))) c.exponent-e.ensures.ranged) in
    let k = (c.write-bits.ensures.faithful (weight l) h).fits c.if-over.false in
    let t = turned l.negative c.rounded-grains.result.direction in
    let s = facing_load (g.F.Source.reads form) c.write-bits.result.0 (rounded (g.F.Form.writing form) l.negative (weight l)) t k in
    let d : c.turned-direction.result ≡ facing (g.F.Source.reads form c.write-bits.result.0) t = cc in
    let a = answered_is f l.negative (weight l) _ _ _ e_is g_is c.rounded-grains.ensures
    c.write-bits.result c.turned-direction.result c.write-bits.ensures.value d in
    let u = c.if-over.false in
    cc
