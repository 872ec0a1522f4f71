use Rattle.std.proofs.Common.{◌≡◌, ◌*◌, ◌^◌, pos, ◌-ℤ◌, ◌≤ℤ◌, ap, ap₂, ◌∙◌, rules, w32, to_z, of_z}
use Rattle.std.specs.Int.{abs_diff}
use Rattle.forms.specs.Loads.{nat_of, weight}
use Rattle.plan.proofs.loss.apart.Goals as goal

pub returns : goal.returns
returns c = λ h k.
    let scale = to_z w32 (of_z w32 c.max-scale.result) in
    let u = 2 ^ nat_of (pos 1074 -ℤ scale) in
    let m : scale ≤ℤ pos 1074 = search rules in
    let left : c.in_ok-a.a * u ≡ weight c.args.left = c.in_ok-a.ensures m in
    let right : c.in_ok-b.b * u ≡ weight c.args.right = c.in_ok-b.ensures m in
    c.between.ensures ∙ ap pos (ap₂ abs_diff left right)
