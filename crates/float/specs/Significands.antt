-- Significands of p + 1 digits at their places: what they say of multiples of 2^g, how long the nearest multiple is, and which amounts they cannot be.
use Rattle.std.specs.Prelude.{◌≡◌, ℕ, suc, ◌+◌, ◌-◌, ◌*◌, ◌^◌, ◌<◌, ◌≤◌, max, ◌≢◌}
use Rattle.std.proofs.Common.{sym, ap, ◌∙◌, ⊎_elim, mul_assoc, add-mul, one-mul, zero-mul, mul-le-mul, mul-le-mul_right, mul-lt-mul_of_pos_right, lt_of_mul-lt-mul_right, le_of_mul-le-mul_right, arith}
use Rattle.std.proofs.lemmas.Nat.{pow_pos, pow-add}
use Rattle.std.proofs.lemmas.Bool.{cases_lt}
use Rattle.forms.proofs.Exponents.{twice, pow_split, pow_up, pow_back}
use Rattle.forms.proofs.Nearests.{Near}

-- a significand at the place i lies below the power after its longest
pub bounded : (s p i : ℕ) → s < 2 * 2 ^ p → s * 2 ^ i < 2 ^ (suc p + i)
bounded s p i h =
    let b : s * 2 ^ i < 2 * 2 ^ p * 2 ^ i = mul-lt-mul_of_pos_right h (pow_pos i) in
    let e : 2 ^ (suc p + i) ≡ 2 * 2 ^ p * 2 ^ i = pow-add 2 (suc p) i ∙ ap (λ x. x * 2 ^ i) (twice p) in
    omega arith

-- a significand one place up is worth twice as much
pub next_place : (s f k : ℕ) → s * 2 ^ (f + (k + 1)) ≡ s * 2 * 2 ^ (f + k)
next_place s f k =
    let e : f + (k + 1) ≡ suc (f + k) = omega arith in ap (λ x. s * 2 ^ x) e ∙ ap (λ x. s * x) (twice (f + k)) ∙ sym (mul_assoc s 2 (2 ^ (f + k)))

-- a significand from the place f up that makes 2^e or more is a multiple of 2^g
pub whole_at : (s p f k e g : ℕ) → g ≡ max (e - p) f → s < 2 * 2 ^ p → 2 ^ e ≤ s * 2 ^ (f + k) → s * 2 ^ (f + k) ≡ s * 2 ^ (f + k - g) * 2 ^ g
whole_at s p f k e g q h l =
    let b = bounded s p (f + k) h in
    let x : e < suc p + (f + k) = pow_back e (suc p + (f + k)) (omega arith) in
    let y : g ≤ f + k = omega arith in
    ap (λ x. s * x) (pow_split (f + k) g y) ∙ sym (mul_assoc s (2 ^ (f + k - g)) (2 ^ g))

-- none from the place f up makes less than 2^f, but for 0
pub none_below : (s f k : ℕ) → 0 < s * 2 ^ (f + k) → s * 2 ^ (f + k) < 2 ^ f → ⊥
none_below s f k h l =
    ⊎_elim
    (λ z. let e : s ≡ 0 = omega arith in let o : s * 2 ^ (f + k) ≡ 0 = ap (λ x. x * 2 ^ (f + k)) e ∙ zero-mul (2 ^ (f + k)) in omega arith)
    (λ z.
    let m : 1 * 2 ^ f ≤ s * 2 ^ (f + k) = mul-le-mul z (pow_up f (f + k) (omega arith)) in
    let o = one-mul (2 ^ f) in
    omega arith)
    (cases_lt s 1)

-- a number near n over 2^g is 2^(p + 1) at most, where n is below twice 2^e
pub not_longer : (p e g n m : ℕ) → e ≤ p + g → n < 2 * 2 ^ e → Near n (2 ^ g) m → m ≤ 2 * 2 ^ p
not_longer p e g n m h l r =
    let o = r.not_over in
    let u = pow_up e (p + g) h in
    let d : 2 ^ (p + g) ≡ 2 ^ p * 2 ^ g = pow-add 2 p g in
    let a = add-mul (4 * 2 ^ p) 1 (2 ^ g) in
    let b = mul_assoc 4 (2 ^ p) (2 ^ g) in
    let i = one-mul (2 ^ g) in
    let j = mul_assoc 2 m (2 ^ g) in
    let c : 2 * m < 4 * 2 ^ p + 1 = lt_of_mul-lt-mul_right (2 ^ g) (omega arith) in
    omega arith

-- and 2^p at least, where n is 2^e or more and g lies p below e
pub not_shorter : (p e g n m : ℕ) → e ≡ p + g → 2 ^ e ≤ n → Near n (2 ^ g) m → 2 ^ p ≤ m
not_shorter p e g n m h l r =
    let o = r.not_under in
    let d : 2 ^ e ≡ 2 ^ p * 2 ^ g = ap (λ x. 2 ^ x) h ∙ pow-add 2 p g in
    let a = add-mul (2 * m) 1 (2 ^ g) in
    let b = mul_assoc 2 m (2 ^ g) in
    let i = one-mul (2 ^ g) in
    let j = mul_assoc 2 (2 ^ p) (2 ^ g) in
    let c : 2 * 2 ^ p ≤ 2 * m + 1 = le_of_mul-le-mul_right {k = 2 ^ g} (omega arith) (pow_pos g) in
    omega arith

-- a significand m, d above the place f, whose packed bits reach the top exponent field is none that a field below the top has
pub not_shown : (s p f k d m top : ℕ) → s < 2 * 2 ^ p → k + 2 ≤ top → m ≤ 2 * 2 ^ p → (0 < d → 2 ^ p ≤ m) → top * 2 ^ p ≤ d * 2 ^ p + m → s * 2 ^ (f + k) ≢ m * 2 ^ (f + d)
not_shown s p f k d m top h l short full o e =
    let b = bounded s p (f + k) h in
    ⊎_elim
    (λ (x : d + 1 < top).
    -- m is 2^(p + 1), and d + 2 is the top
    let t : (d + 2) * 2 ^ p ≤ top * 2 ^ p = mul-le-mul_right (2 ^ p) (omega arith) in
    let u = add-mul d 2 (2 ^ p) in
    let m_is : m ≡ 2 * 2 ^ p = omega arith in
    let v : top ≤ d + 2 =
    ⊎_elim (λ (y : top < d + 3). omega arith)
    (λ y. absurd
    (let z : (d + 3) * 2 ^ p ≤ top * 2 ^ p = mul-le-mul_right (2 ^ p) y in
    let i = add-mul d 3 (2 ^ p) in
    let w = pow_pos p in
    omega arith))
    (cases_lt top (d + 3)) in
    let i : m * 2 ^ (f + d) ≡ 2 ^ (suc p + (f + d)) = ap (λ x. x * 2 ^ (f + d)) (m_is ∙ sym (twice p)) ∙ sym (pow-add 2 (suc p) (f + d)) in
    let g = pow_up (suc p + (f + k)) (suc p + (f + d)) (omega arith) in
    omega arith)
    (λ x.
    let q : 2 ^ p ≤ m = full (omega arith) in
    let i : 2 ^ p * 2 ^ (f + d) ≤ m * 2 ^ (f + d) = mul-le-mul_right (2 ^ (f + d)) q in
    let a = pow-add 2 p (f + d) in
    let g = pow_up (suc p + (f + k)) (p + (f + d)) (omega arith) in
    omega arith)
    (cases_lt (d + 1) top)
