-- The whole number nearest to n over u: what is true of it, and how it comes about.
use Rattle.std.proofs.Common.{◌≡◌, ℕ, ◌+◌, ◌*◌, ◌/◌, ◌%◌, ◌<◌, ◌≤◌, Bool, true, false, cond, ◌&&◌, ◌||◌, eqb, ltb, ◌⊎◌, sym, ap, ◌∙◌, subst, inl, inr, ⊎_elim, add-zero, mod-lt, mul_assoc, add-mul, mul-lt-mul_of_pos_right, one-mul, div-add-mod', zero-mul, arith}
use lib.Arith.{digits_div, digits_mod}
use Rattle.std.proofs.lemmas.Bool.{cases_lt, cases_order, lt-ltb, le-ltb, eq-eqb, ne_eqb, or_from, or_left, or_right, and_from, and_left, and_right}
use Rattle.forms.specs.Amounts.{nearest}

-- the rest r leaves the quotient q as it is
abbrev pub Down : ℕ → ℕ → ℕ → Type 0
Down u q r = (2 * r < u) ⊎ ((2 * r ≡ u) × (q % 2 ≡ 0))

-- the rest r moves the quotient q up
abbrev pub Up : ℕ → ℕ → ℕ → Type 0
Up u q r = (u < 2 * r) ⊎ ((2 * r ≡ u) × (q % 2 ≡ 1))

nearest_at :
    (n u q r : ℕ) → n ≡ q * u + r → r < u → (b : Bool) → (ltb u (2 * r) || (eqb (2 * r) u && eqb (q % 2) 1)) ≡ b
    → nearest n u ≡ q + cond b 1 0
nearest_at n u q r e h b t =
    let d : n / u ≡ q = ap (λ x. x / u) e ∙ digits_div q h in
    let m : n % u ≡ r = ap (λ x. x % u) e ∙ digits_mod q h in
    ap (λ x. x + cond (ltb u (2 * (n % u)) || (eqb (2 * (n % u)) u && eqb (x % 2) 1)) 1 0) d
    ∙ ap (λ x. q + cond (ltb u (2 * x) || (eqb (2 * x) u && eqb (q % 2) 1)) 1 0) m
    ∙ ap (λ x. q + cond x 1 0) t

pub nearest_down : (n u q r : ℕ) → n ≡ q * u + r → r < u → Down u q r → nearest n u ≡ q
nearest_down n u q r e h d =
    nearest_at n u q r e h false
    (⊎_elim
    (λ l. or_from (ltb u (2 * r)) _ (le-ltb u (2 * r) (omega arith)) (and_left (eqb (2 * r) u) (eqb (q % 2) 1) (ne_eqb (2 * r) u (λ x. omega arith))))
    (λ l.
    let a = l.0 in
    let b = l.1 in
    or_from (ltb u (2 * r)) _ (le-ltb u (2 * r) (omega arith)) (and_right (eqb (2 * r) u) (eqb (q % 2) 1) (ne_eqb (q % 2) 1 (λ x. omega arith))))
    d)
    ∙ add-zero q

pub nearest_up : (n u q r : ℕ) → n ≡ q * u + r → r < u → Up u q r → nearest n u ≡ q + 1
nearest_up n u q r e h d =
    nearest_at n u q r e h true
    (⊎_elim
    (λ l. or_left (ltb u (2 * r)) _ (lt-ltb u (2 * r) l))
    (λ l. or_right (ltb u (2 * r)) _ (and_from (eqb (2 * r) u) (eqb (q % 2) 1) (eq-eqb (2 * r) u l.0) (eq-eqb (q % 2) 1 l.1)))
    d)

-- it is one or the other
pub down_or_up : (u q r : ℕ) → Down u q r ⊎ Up u q r
down_or_up u q r =
    ⊎_elim
    (λ (e : 2 * r ≡ u).
    ⊎_elim (λ (z : q % 2 < 1). let y : q % 2 ≡ 0 = omega arith in inl (inr (e, y))) (λ z. let y : q % 2 ≡ 1 = omega arith in inr (inr (e, y)))
    (cases_lt (q % 2) 1))
    (⊎_elim (λ l. inl (inl l)) (λ l. inr (inl l)))
    (cases_order (2 * r) u)

-- m over u is no farther from n than half a u
pub record Near (n u m : ℕ) : Type 0 where
  pub not_over : 2 * (m * u) ≤ 2 * n + u
  pub not_under : 2 * n ≤ 2 * (m * u) + u

pub near : (n u : ℕ) → 0 < u → Near n u (nearest n u)
near n u h =
    let q = n / u in
    let r = n % u in
    let e : n ≡ q * u + r = sym (div-add-mod' n u) in
    let l : r < u = mod-lt n h in
    let o = add-mul q 1 u in
    let p = one-mul u in
    ⊎_elim
    (λ d. subst (Near n u) (sym (nearest_down n u q r e l d))
    (⊎_elim (λ z. record { not_over = omega arith; not_under = omega arith }) (λ z. let y = z.0 in record { not_over = omega arith; not_under = omega arith }) d))
    (λ d. subst (Near n u) (sym (nearest_up n u q r e l d))
    (⊎_elim (λ z. record { not_over = omega arith; not_under = omega arith }) (λ z. let y = z.0 in record { not_over = omega arith; not_under = omega arith }) d))
    (down_or_up u q r)

-- a common factor falls out
pub nearest_scaled : (n u k : ℕ) → 0 < u → 0 < k → nearest (n * k) (u * k) ≡ nearest n u
nearest_scaled n u k h z =
    let q = n / u in
    let r = n % u in
    let e : n ≡ q * u + r = sym (div-add-mod' n u) in
    let l : r < u = mod-lt n h in
    let e' : n * k ≡ q * (u * k) + r * k = ap (λ x. x * k) e ∙ add-mul (q * u) r k ∙ ap (λ x. x + r * k) (mul_assoc q u k) in
    let l' : r * k < u * k = mul-lt-mul_of_pos_right l z in
    let two : 2 * r * k ≡ 2 * (r * k) = mul_assoc 2 r k in
    ⊎_elim
    (λ d. nearest_down (n * k) (u * k) q (r * k) e' l'
    (⊎_elim (λ x. let y : 2 * r * k < u * k = mul-lt-mul_of_pos_right x z in inl (omega arith)) (λ x. inr (sym two ∙ ap (λ i. i * k) x.0, x.1)) d)
    ∙ sym (nearest_down n u q r e l d))
    (λ d. nearest_up (n * k) (u * k) q (r * k) e' l'
    (⊎_elim (λ x. let y : u * k < 2 * r * k = mul-lt-mul_of_pos_right x z in inl (omega arith)) (λ x. inr (sym two ∙ ap (λ i. i * k) x.0, x.1)) d)
    ∙ sym (nearest_up n u q r e l d))
    (down_or_up u q r)

-- a multiple is nearest to itself
pub nearest_whole : (m u : ℕ) → 0 < u → nearest (m * u) u ≡ m
nearest_whole m u h = nearest_down (m * u) u m 0 (sym (add-zero (m * u))) h (inl h)

-- less than half a u is nearest to 0
pub nearest_none : (n u : ℕ) → 2 * n < u → nearest n u ≡ 0
nearest_none n u h = nearest_down n u 0 n (let z = zero-mul u in omega arith) (omega arith) (inl h)
