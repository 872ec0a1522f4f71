-- The exponent of an amount, and powers of two as amounts.
use Rattle.std.proofs.Common.{◌≡◌, ℕ, zero, suc, ◌+◌, ◌-◌, ◌*◌, ◌^◌, ◌<◌, ◌≤◌, ℤ, pos, ◌+ℤ◌, ◌-ℤ◌, ◌<ℤ◌, sym, ap, ◌∙◌, subst, ⊎_elim, mul_comm, pow-suc, arith, pow_mono}
use lib.Ieee.{size}
use lib.Ieee.Digits.{size-lt, size-le, size_reaches}
use Rattle.std.proofs.lemmas.Nat.{pow-add}
use Rattle.std.proofs.lemmas.Int.{ints}
use Rattle.std.proofs.lemmas.Bool.{cases_lt}
use Rattle.forms.specs.Loads.{nat_of}
use Rattle.forms.specs.Amounts.{exponent, Within, InRange}
use Rattle.forms.proofs.Orders.{nat_of_up}

-- 2^(k + 1) is twice 2^k
pub twice : (k : ℕ) → 2 ^ suc k ≡ 2 * 2 ^ k
twice k = pow-suc 2 k ∙ mul_comm (2 ^ k) 2

-- 2^k is twice 2^(k - 1)
pub twice_less : (k : ℕ) → 0 < k → 2 ^ k ≡ 2 * 2 ^ (k - 1)
twice_less k h = let e : k ≡ suc (k - 1) = omega arith in ap (λ x. 2 ^ x) e ∙ twice (k - 1)

-- 2^i is 2^(i - j) times 2^j
pub pow_split : (i j : ℕ) → j ≤ i → 2 ^ i ≡ 2 ^ (i - j) * 2 ^ j
pow_split i j h = let e : i ≡ i - j + j = omega arith in ap (λ x. 2 ^ x) e ∙ pow-add 2 (i - j) j

-- powers are in the order of their exponents
pub pow_up : (i j : ℕ) → i ≤ j → 2 ^ i ≤ 2 ^ j
pow_up i j h = pow_mono h

-- and exponents in that of their powers
pub pow_back : (i j : ℕ) → 2 ^ i < 2 ^ j → i < j
pow_back i j h = ⊎_elim (λ l. l) (λ l. absurd (let m = pow_up j i l in omega arith)) (cases_lt i j)

-- the places of 2^e and 2^g, which are their binary logarithms as amounts, are in the order of e and g
pub places_ordered : (e g : ℤ) → InRange e → e <ℤ g → nat_of (e +ℤ pos 1074) < nat_of (g +ℤ pos 1074)
places_ordered e g r h = omega (arith, ints, nat_of_up)

-- an amount other than 0 has digits
some_digits : (n : ℕ) → 0 < n → (k : ℕ) → n < 2 ^ k → 0 < k
some_digits n h zero l = absurd (omega arith)
some_digits n h (suc k) l = omega arith

-- what the exponent of an amount is
pub within : (n : ℕ) (e : ℤ) → 0 < n → exponent n ≡ e → Within n e
within n e h q =
    let l = size-lt n in
    let s = some_digits n h (size n) l in
    let k : nat_of (e +ℤ pos 1074) ≡ size n - 1 = omega (arith, ints, nat_of_up) in
    let t = twice_less (size n) s in
    record {
      at_least = subst (λ x. 2 ^ x ≤ n) (sym k) (size_reaches n (size n - 1) (omega arith));
      below = subst (λ x. n < 2 * 2 ^ x) (sym k) (omega arith);
    }

-- there is no other such number
pub exponent_at : (n k : ℕ) → 2 ^ k ≤ n → n < 2 ^ suc k → exponent n ≡ pos k -ℤ pos 1074
exponent_at n k l u =
    let a : size n ≤ suc k = size-le n (suc k) u in
    let b : k < size n = let s = size-lt n in pow_back k (size n) (omega arith) in
    omega (arith, ints)
