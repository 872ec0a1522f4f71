use Rattle.std.proofs.Common.{◌≡◌, pos, ◌-ℤ◌, sym, subst, mul-pos, arith}
use Rattle.std.proofs.lemmas.Nat.{pow_pos}
use Rattle.forms.specs.Loads.{nat_of, weight, worth}
use Rattle.forms.specs.Forms.{form_of}
use Rattle.forms.specs.Conversions.{plain, NearestAnswer}
use Rattle.forms.proofs.Answered.{plain_signed, worth_ranged}
use Rattle.forms.proofs.Closest.{plain_nearest}
use Rattle.forms.proofs.convert.load_into.Goals as goal

pub returns-else-load-eq0 : goal.returns-else-load-eq0
returns-else-load-eq0 g c =
    let l = c.args.exact.load in
    let f = form_of (g.F.Source.reads c.args.form.now) (g.F.Form.writing c.args.form.now) in
    let h = mul-pos {m = l.size} (omega arith) (pow_pos (nat_of (pos 1074 -ℤ l.scale))) in
    let p = plain_signed f l.negative (weight l) h in
    let v : c.write_into.result ≡ plain f (worth l) = cc in
    record { value = v; nearest = subst (NearestAnswer f (worth l)) (sym v) (plain_nearest f (g.met.F.Form.laws c.args.form.now) (worth l) (worth_ranged l c.args.exact.sound)) }
