-- Two's complement: minus a number, within 64 bits and then within the width.
use Rattle.std.proofs.Common.{◌≡◌, ℕ, ◌+◌, ◌-◌, ◌*◌, ◌%◌, ◌^◌, ◌<◌, ◌≤◌, true, leb, pos, ◌-ℤ◌, neg_ℤ, sym, ap, ◌∙◌, add-mul, one-mul, arith}
use Rattle.std.proofs.lemmas.Nat.{pow_pos, pow-add, mod-mul-add}
use Rattle.std.proofs.lemmas.Int.{ints}
use Rattle.std.proofs.lemmas.Bool.{cond-true, le-leb}
use Rattle.fixed.specs.Fixeds.{value}

-- the lowest digits of minus b
pub complement : (width b n : ℕ) → width ≤ 64 → 0 < b → b < 2 ^ width → n + b ≡ 2 ^ 64 → n % 2 ^ width ≡ 2 ^ width - b
complement width b n h p l e =
    let q = 2 ^ (64 - width) in
    let u = 2 ^ width in
    let s : 64 ≡ 64 - width + width = omega arith in
    let t : 2 ^ 64 ≡ q * u = ap (λ x. 2 ^ x) s ∙ pow-add 2 (64 - width) width in
    let v : 0 < q = pow_pos (64 - width) in
    let c : q - 1 + 1 ≡ q = omega arith in
    let d : (q - 1) * u + 1 * u ≡ q * u = sym (add-mul (q - 1) 1 u) ∙ ap (λ x. x * u) c in
    let o = one-mul u in
    let f : n ≡ (q - 1) * u + (u - b) = omega arith in
    let z : u - b < u = omega arith in
    ap (λ x. x % u) f ∙ mod-mul-add (q - 1) u (u - b) z

-- the value of a pattern in the upper half
pub upper_value : (width bits : ℕ) → bits < 2 ^ width → 2 ^ (width - 1) ≤ bits → neg_ℤ (pos (2 ^ width - bits)) ≡ value true width bits
upper_value width bits l h =
    let e : neg_ℤ (pos (2 ^ width - bits)) ≡ pos bits -ℤ pos (2 ^ width) = omega (arith, ints) in
    e ∙ sym (cond-true (leb (2 ^ (width - 1)) bits) _ _ (le-leb _ _ h))
