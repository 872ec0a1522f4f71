use Rattle.std.proofs.Common.{◌*◌, ◌/◌, ◌^◌, ap, ◌∙◌, ⊎_elim, arith}
use Rattle.std.proofs.lemmas.Bool.{cases_lt}
use Rattle.forms.proofs.Shifts.{shl_far, shl_kept_back}
use Rattle.forms.proofs.cmp.float_rhs_shl.Goals as goal

pub returns-in-Some-2 : goal.returns-in-Some-2
returns-in-Some-2 c =
    let s = c.in-Some.ensures in
    ⊎_elim
    (λ h. absurd (c.if-shifted-rhs_shl.false (ap (λ x. x / 2 ^ c.args.rhs_shl) s.1 ∙ shl_kept_back _ _ h)))
    (λ h. h)
    (cases_lt (c.args.rhs_size * 2 ^ c.args.rhs_shl) (2 ^ 64))

pub returns-in-None : goal.returns-in-None
returns-in-None c =
    shl_far c.args.rhs_size c.args.rhs_shl (omega arith) (⊎_elim (λ h. absurd (c.in-None.ensures h)) (λ h. h) (cases_lt c.args.rhs_shl 64))
