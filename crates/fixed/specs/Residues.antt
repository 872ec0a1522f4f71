-- Whole numbers modulo a power of two.
use Rattle.std.specs.Prelude.{◌≡◌, ℕ, suc, ◌+◌, ◌-◌, ◌*◌, ◌/◌, ◌%◌, ◌^◌, ◌<◌, ◌≤◌, Bool, true, false, ℤ, pos, negsuc, ◌+ℤ◌, neg_ℤ, unsigned_abs, refl}
use Rattle.std.proofs.Common.{sym, ap, ◌∙◌, mul_assoc, mul-one, mul-le-mul_left, mod-lt, div-add-mod', arith}
use Rattle.std.proofs.Math.Nat.{add-mul-mod_self_right, mul-add-mod_self_right}
use Rattle.std.proofs.Math.Pow.{ones_lt, ones_split}
use Rattle.std.specs.Int.{int_rem_euclid}
use Rattle.std.proofs.lemmas.Nat.{pow_pos, mod-mul-add}
use Rattle.std.proofs.lemmas.Int.{ints, int_rem_euclid_is}
use Rattle.forms.specs.Loads.{signed as with_sign}
use Rattle.forms.proofs.Exponents.{pow_split}
use Rattle.fixed.specs.Writings.{modulo}

-- the lowest digits of a word of ones
pub ones_low : (k : ℕ) → k ≤ 64 → (2 ^ 64 - 1) % 2 ^ k ≡ 2 ^ k - 1
ones_low k h =
    let e : 64 ≡ 64 - k + k = omega arith in
    ap (λ x. (2 ^ x - 1) % 2 ^ k) e ∙ ap (λ x. x % 2 ^ k) (ones_split (64 - k) k) ∙ mod-mul-add (2 ^ (64 - k) - 1) (2 ^ k) (2 ^ k - 1) (ones_lt k)

-- it is below the modulus
pub modulo_lt : (z : ℤ) (u : ℕ) → 0 < u → modulo z u < u
modulo_lt (pos n) u h = mod-lt n h
modulo_lt (negsuc n) u h = omega arith

euclid : (z : ℤ) (u : ℕ) → pos (modulo z u) ≡ int_rem_euclid z (pos u)
euclid (pos n) u = refl
euclid (negsuc n) u = ap pos (omega arith)

-- by a natural number in the same class
pub modulo_is : (z : ℤ) (u k m : ℕ) → 0 < u → z +ℤ pos (k * u) ≡ pos m → modulo z u ≡ m % u
modulo_is z u k m h e = ap unsigned_abs (euclid z u ∙ int_rem_euclid_is z (pos u) u k m h refl e)

-- and there is one
pub lifted : (z : ℤ) (u : ℕ) → 0 < u → (m : ℕ) × (z +ℤ pos (unsigned_abs z * u) ≡ pos m)
lifted (pos n) u h = (n + n * u, refl)
lifted (negsuc n) u h =
    let l : suc n * 1 ≤ suc n * u = mul-le-mul_left (suc n) h in
    let o = mul-one (suc n) in
    (suc n * u - suc n, omega (arith, ints))

-- a multiple of the modulus makes no difference
pub modulo_add : (z z' : ℤ) (u j : ℕ) → 0 < u → z' ≡ z +ℤ pos (j * u) → modulo z' u ≡ modulo z u
modulo_add z z' u j h e =
    let k = unsigned_abs z in
    let (m, l) = lifted z u h in
    let l' : z' +ℤ pos (k * u) ≡ pos (m + j * u) = omega (arith, ints) in
    modulo_is z' u k (m + j * u) h l' ∙ add-mul-mod_self_right m j u ∙ sym (modulo_is z u k m h l)

-- nor does a multiple of it as a modulus before
pub modulo_modulo : (z : ℤ) (j u : ℕ) → 0 < j * u → 0 < u → modulo z (j * u) % u ≡ modulo z u
modulo_modulo z j u p h =
    let v = j * u in
    let k = unsigned_abs z in
    let (m, l) = lifted z v p in
    let l' : z +ℤ pos (k * j * u) ≡ pos m = ap (λ x. z +ℤ pos x) (mul_assoc k j u) ∙ l in
    let s : m ≡ m / v * j * u + m % v = sym (div-add-mod' m v) ∙ ap (λ x. x + m % v) (sym (mul_assoc (m / v) j u)) in
    ap (λ x. x % u) (modulo_is z v k m p l) ∙ sym (ap (λ x. x % u) s ∙ mul-add-mod_self_right (m / v * j) u (m % v)) ∙ sym (modulo_is z u (k * j) m h l')

-- from 64 digits down to fewer
pub modulo_word : (z : ℤ) (w : ℕ) → w ≤ 64 → modulo z (2 ^ 64) % 2 ^ w ≡ modulo z (2 ^ w)
modulo_word z w h =
    let e = pow_split 64 w h in
    let p : 0 < 2 ^ (64 - w) * 2 ^ w = omega arith in
    ap (λ x. modulo z x % 2 ^ w) e ∙ modulo_modulo z (2 ^ (64 - w)) (2 ^ w) p (pow_pos w)

-- what lies above the lowest 64 digits of a size makes no difference modulo fewer
pub modulo_low : (b : Bool) (n w : ℕ) → w ≤ 64 → modulo (with_sign b (n % 2 ^ 64)) (2 ^ w) ≡ modulo (with_sign b n) (2 ^ w)
modulo_low b n w h = go b
  where
    j : ℕ
    j = n / 2 ^ 64 * 2 ^ (64 - w)

    split : n ≡ j * 2 ^ w + n % 2 ^ 64
    split =
        sym (div-add-mod' n (2 ^ 64))
        ∙ ap (λ x. x + n % 2 ^ 64) (ap (λ x. n / 2 ^ 64 * x) (pow_split 64 w h) ∙ sym (mul_assoc (n / 2 ^ 64) (2 ^ (64 - w)) (2 ^ w)))

    go : (b : Bool) → modulo (with_sign b (n % 2 ^ 64)) (2 ^ w) ≡ modulo (with_sign b n) (2 ^ w)
    go false = sym (modulo_add (pos (n % 2 ^ 64)) (pos n) (2 ^ w) j (pow_pos w) (omega (arith, ints, split)))
    go true = modulo_add (neg_ℤ (pos n)) (neg_ℤ (pos (n % 2 ^ 64))) (2 ^ w) j (pow_pos w) (omega (arith, ints, split))
