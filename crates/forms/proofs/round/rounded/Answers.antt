use Rattle.std.proofs.Common.{pos, ◌+ℤ◌, ◌-ℤ◌, ◌∙◌, arith}
use Rattle.std.proofs.lemmas.Int.{ints}
use Rattle.forms.specs.Loads.{nat_of}
use Rattle.forms.proofs.Orders.{nat_of_up}
use Rattle.forms.proofs.Grained.{rounded_raised, rounded_lowered, rounded_away}
use Rattle.forms.proofs.round.rounded.Goals as goal

pub returns-then-need_to_shr-le0 : goal.returns-then-need_to_shr-le0
returns-then-need_to_shr-le0 c =
    let l = c.args.exact.load in
    c.raised.ensures
    ∙ rounded_raised l.size (nat_of (pos 1074 -ℤ l.scale)) (nat_of (c.args.grain +ℤ pos 1074)) _ (omega (arith, ints, nat_of_up))

pub returns-then-need_to_shr-le64 : goal.returns-then-need_to_shr-le64
returns-then-need_to_shr-le64 c =
    let l = c.args.exact.load in
    c.lowered.ensures
    ∙ rounded_lowered l.size (nat_of (pos 1074 -ℤ l.scale)) (nat_of (c.args.grain +ℤ pos 1074)) _ (omega (arith, ints, nat_of_up))

pub returns-else-need_to_shr-le64 : goal.returns-else-need_to_shr-le64
returns-else-need_to_shr-le64 c =
    let l = c.args.exact.load in
    rounded_away l.size (nat_of (pos 1074 -ℤ l.scale)) (nat_of (c.args.grain +ℤ pos 1074)) c.args.exact.some c.args.exact.sound.size_fits (omega (arith, ints, nat_of_up))
