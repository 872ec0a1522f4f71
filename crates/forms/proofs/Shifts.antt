-- What shifts and masks of a 64-bit word keep and lose.
use Rattle.std.proofs.Common.{◌≡◌, ℕ, ◌+◌, ◌-◌, ◌*◌, ◌/◌, ◌%◌, ◌^◌, ◌<◌, ◌≤◌, ltb, leb, sym, ap, ◌∙◌, mul-le-mul_right, mod-eq_of_lt, one-mul, arith, pow_mono}
use lib.Bits.{bit_and}
use Rattle.std.proofs.lemmas.Nat.{one_shl, and_mask, pow_pos, field_of, shl-shr, mod_below, shl_below}
use Rattle.std.proofs.lemmas.Bool.{le-leb, lt-ltb}
use Rattle.std.proofs.lemmas.Bool.Decides.{nat_tests}

pub shl_kept : (a k : ℕ) → a * 2 ^ k < 2 ^ 64 → (a * 2 ^ k) % 2 ^ 64 ≡ a * 2 ^ k
shl_kept a k h = mod-eq_of_lt h

-- the digits that are left, moved back, are the lowest of a
pub shl_back : (a k : ℕ) → k < 64 → (a * 2 ^ k) % 2 ^ 64 / 2 ^ k ≡ a % 2 ^ (64 - k)
shl_back a k h =
    let e : 64 ≡ 64 - k + k = omega arith in
    ap (λ x. (a * 2 ^ k) % 2 ^ x / 2 ^ k) e ∙ field_of (a * 2 ^ k) (64 - k) k ∙ ap (λ x. x % 2 ^ (64 - k)) (shl-shr a k)

-- a shift that comes back as it was has lost nothing
pub shl_whole_back : (a k : ℕ) → k < 64 → (a * 2 ^ k) % 2 ^ 64 / 2 ^ k ≡ a → a * 2 ^ k < 2 ^ 64
shl_whole_back a k h b =
    let m = mod_below a (2 ^ (64 - k)) (pow_pos (64 - k)) in
    let s = shl_back a k h in
    let l = shl_below a (64 - k) k (omega arith) in
    let e : 64 ≡ 64 - k + k = omega arith in
    let p : 2 ^ 64 ≡ 2 ^ (64 - k + k) = ap (λ x. 2 ^ x) e in
    omega arith

-- and one that has lost nothing comes back as it was
pub shl_kept_back : (a k : ℕ) → a * 2 ^ k < 2 ^ 64 → (a * 2 ^ k) % 2 ^ 64 / 2 ^ k ≡ a
shl_kept_back a k h = ap (λ x. x / 2 ^ k) (shl_kept a k h) ∙ shl-shr a k

-- no size but 0 stands a shift by 64 or more
pub shl_far : (a k : ℕ) → 0 < a → 64 ≤ k → 2 ^ 64 ≤ a * 2 ^ k
shl_far a k p h =
    let m : 2 ^ 64 ≤ 2 ^ k = pow_mono h in
    let n : 1 * 2 ^ k ≤ a * 2 ^ k = mul-le-mul_right (2 ^ k) p in
    omega (arith, one-mul (2 ^ k))

-- the greatest number of k digits
pub ones_cover : (n k : ℕ) → leb n (2 ^ k - 1) ≡ ltb n (2 ^ k)
ones_cover n k = let p = pow_pos k in grind (arith, nat_tests)

-- 64 places or more hold every word
pub wide : (n k : ℕ) → n < 2 ^ 64 → 64 ≤ k → n < 2 ^ k
wide n k h l = let m : 2 ^ 64 ≤ 2 ^ k = pow_mono l in omega arith

-- and the lowest of them are all that it has
pub wide_low : (n k : ℕ) → n < 2 ^ 64 → 64 ≤ k → n % 2 ^ 64 ≡ n % 2 ^ k
wide_low n k h l = let w = wide n k h l in mod-eq_of_lt h ∙ sym (mod-eq_of_lt w)

-- a mask of k ones takes the lowest k digits
pub ones_take : (n k : ℕ) → k < 64 → bit_and n (1 * 2 ^ k % 2 ^ 64 - 1) ≡ n % 2 ^ k
ones_take n k h = ap (λ x. bit_and n (x - 1)) (one_shl k 64 h) ∙ and_mask n k

-- a whole word of ones takes every digit
pub word_take : (n k : ℕ) → n < 2 ^ 64 → 64 ≤ k → n % 2 ^ k ≡ bit_and n (2 ^ 64 - 1)
word_take n k h l = sym (and_mask n 64 ∙ wide_low n k h l)

-- and covers every word
pub word_cover : (n k : ℕ) → n < 2 ^ 64 → 64 ≤ k → ltb n (2 ^ k) ≡ leb n (2 ^ 64 - 1)
word_cover n k h l = lt-ltb n (2 ^ k) (wide n k h l) ∙ sym (le-leb n (2 ^ 64 - 1) (omega arith))
