-- The fields of a float: how many patterns the exponent has, the digit put before the point, where the sign bit stands, and how far packed bits reach.
use Rattle.std.specs.Prelude.{◌≡◌, ℕ, ◌+◌, ◌-◌, ◌*◌, ◌%◌, ◌^◌, ◌<◌, ◌≤◌, bit_or}
use Rattle.std.proofs.Common.{sym, ap, ◌∙◌, one-mul, add-mul, mul-le-mul_right, mul-lt-mul_of_pos_right, arith}
use Rattle.std.proofs.Math.Pow.{ones_lt}
use Rattle.std.proofs.lemmas.Nat.{pow_pos, pow-add, or_comm, or_shifted, one_shl}
use Rattle.forms.proofs.Exponents.{twice_less}
use Rattle.float.specs.Formats.{Lawful, exp_max}
use Rattle.float.specs.Writings.{infinity, packed}

-- the patterns of the exponent field
pub exponents : (width prec : ℕ) → Lawful width prec → 2 ^ (width - prec) ≡ 2 * exp_max width prec + 2
exponents width prec h =
    let t = twice_less (width - prec) (omega arith) in
    let p = pow_pos (width - prec - 1) in
    omega arith

-- the greatest exponent is not 0
pub exp_max_some : (width prec : ℕ) → Lawful width prec → 1 ≤ exp_max width prec
exp_max_some width prec h =
    let t = twice_less (width - prec - 1) (omega arith) in
    let p = pow_pos (width - prec - 1 - 1) in
    omega arith

-- a digit put before the point
pub implicit_one : (t k : ℕ) → k < 64 → t < 2 ^ k → bit_or t ((1 * 2 ^ k) % 2 ^ 64) ≡ 2 ^ k + t
implicit_one t k h l =
    or_comm t ((1 * 2 ^ k) % 2 ^ 64)
    ∙ ap (λ x. bit_or x t) (one_shl k 64 h ∙ sym (one-mul (2 ^ k)))
    ∙ or_shifted 1 k t l
    ∙ ap (λ x. x + t) (one-mul (2 ^ k))

-- the sign bit stands above the exponent field, and that above the trailing significand
pub sign_place : (width prec : ℕ) → Lawful width prec → 2 ^ (width - 1) ≡ 2 ^ (width - prec) * 2 ^ (prec - 1)
sign_place width prec h =
    let e : width - 1 ≡ width - prec + (prec - 1) = omega arith in ap (λ x. 2 ^ x) e ∙ pow-add 2 (width - prec) (prec - 1)

-- infinity leaves the sign bit free
pub infinity_below : (width prec : ℕ) → Lawful width prec → infinity width prec < 2 ^ (width - 1)
infinity_below width prec h =
    let p = sign_place width prec h in
    let m : infinity width prec < 2 ^ (width - prec) * 2 ^ (prec - 1) = mul-lt-mul_of_pos_right (ones_lt (width - prec)) (pow_pos (prec - 1)) in
    omega arith

-- an exponent field with two more above it leaves room for a significand
pub packed_below : (width prec above s : ℕ) → Lawful width prec → above + 2 ≤ 2 ^ (width - prec) → s ≤ 2 * 2 ^ (prec - 1) → packed prec above s ≤ 2 ^ (width - 1)
packed_below width prec above s h l short =
    let p = sign_place width prec h in
    let m : (above + 2) * 2 ^ (prec - 1) ≤ 2 ^ (width - prec) * 2 ^ (prec - 1) = mul-le-mul_right (2 ^ (prec - 1)) l in
    let a = add-mul above 2 (2 ^ (prec - 1)) in
    omega arith

-- a full significand above the greatest exponent does not lie below infinity
pub packed_beyond : (width prec above s : ℕ) → 2 ^ (width - prec) ≤ above + 2 → 2 ^ (prec - 1) ≤ s → infinity width prec ≤ packed prec above s
packed_beyond width prec above s l full =
    let m : (2 ^ (width - prec) - 1) * 2 ^ (prec - 1) ≤ (above + 1) * 2 ^ (prec - 1) = mul-le-mul_right (2 ^ (prec - 1)) (omega arith) in
    let a = add-mul above 1 (2 ^ (prec - 1)) in
    let o = one-mul (2 ^ (prec - 1)) in
    omega arith
