-- Sizes moved to finer scales, and what lies between them.
use Rattle.std.proofs.Common.{◌≡◌, ℕ, ◌+◌, ◌-◌, ◌*◌, ◌^◌, ℤ, pos, ◌+ℤ◌, ◌-ℤ◌, ◌≤ℤ◌, ap, ap₂, sym, ◌∙◌, mul_assoc, mul_comm, add-mul, arith}
use Rattle.std.proofs.Math.Nat.{mul-sub}
use Rattle.std.specs.Int.{abs_diff}
use Rattle.std.proofs.lemmas.Nat.{pow-add}
use Rattle.std.proofs.lemmas.Int.{ints}
use Rattle.forms.proofs.Orders.{nat_of_up}
use Rattle.forms.specs.Loads.{nat_of}

-- a size moved up to a finer scale is worth the same
pub moved : (n k : ℕ) (s t : ℤ) → s +ℤ pos k ≡ t → t ≤ℤ pos 1074 → n * 2 ^ k * 2 ^ nat_of (pos 1074 -ℤ t) ≡ n * 2 ^ nat_of (pos 1074 -ℤ s)
moved n k s t e h =
    let p : k + nat_of (pos 1074 -ℤ t) ≡ nat_of (pos 1074 -ℤ s) = omega (arith, ints, nat_of_up) in
    mul_assoc n (2 ^ k) (2 ^ nat_of (pos 1074 -ℤ t)) ∙ ap (λ x. n * x) (sym (pow-add 2 k (nat_of (pos 1074 -ℤ t))) ∙ ap (λ x. 2 ^ x) p)

-- a common factor falls into a difference
sub_times : (a b u : ℕ) → (a - b) * u ≡ a * u - b * u
sub_times a b u = mul_comm (a - b) u ∙ mul-sub u a b ∙ ap₂ (λ x y. x - y) (mul_comm u a) (mul_comm u b)

pub abs_diff_times : (a b u : ℕ) → abs_diff a b * u ≡ abs_diff (a * u) (b * u)
abs_diff_times a b u = add-mul (a - b) (b - a) u ∙ ap₂ (λ x y. x + y) (sub_times a b u) (sub_times b a u)
