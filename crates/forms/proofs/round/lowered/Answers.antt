use Rattle.std.proofs.Common.{◌+◌, ◌*◌, ◌/◌, ◌^◌, ap, ◌∙◌, ap₂}
use Rattle.std.proofs.lemmas.Nat.{one_shl}
use Rattle.forms.specs.Roundings.{rounded_to}
use Rattle.forms.proofs.Grained.{parted}
use Rattle.forms.proofs.round.lowered.Goals as goal

pub returns : goal.returns
returns c =
    let place = c.args.place in
    c.nearest.ensures
    ∙ ap₂ (λ x y. rounded_to (2 * x) (c.args.size / 2 ^ place / 2 * (2 * x) + y)) (one_shl place 64 c.requires) c.low_digits.ensures
    ∙ ap (rounded_to (2 * 2 ^ place)) (parted c.args.size place)
