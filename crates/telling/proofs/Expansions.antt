-- Decimal digits are exact.
use Rattle.std.proofs.Common.{◌≡◌, ℕ, zero, suc, ◌+◌, ◌*◌, ◌/◌, ◌%◌, ◌^◌, ◌<◌, ◌∷◌, length, sym, ap, ◌∙◌, mul_assoc, mul_comm, add-mul, pow-suc, mod-lt, refl, subst, ◌==◌, div-add-mod', arith}
use Rattle.std.proofs.Math.Nat.{div-lt_iff_lt-mul}
use Rattle.std.proofs.lemmas.Bool.{cond-false}
use Rattle.std.proofs.lemmas.Bool.Decides.{nat_tests}
use Rattle.std.proofs.lemmas.Nat.{pow_pos}
use Rattle.std.proofs.lemmas.List.Elements.{All-nil, All-cons}
use Rattle.forms.proofs.Exponents.{twice}
use Rattle.telling.specs.Decimals.{digits}
use Rattle.telling.specs.Exact.{number_of, Exact}

-- one more digit in front
step : (d v r rest q t n : ℕ) → n ≡ d * q + r → n ≡ rest * 5 → v * q ≡ r * t → (d * t + v) * (2 * q) ≡ rest * (10 * t)
step d v r rest q t n e f h =
    let a : d * t * q ≡ d * q * t = mul_assoc d t q ∙ ap (λ x. d * x) (mul_comm t q) ∙ sym (mul_assoc d q t) in
    let b : (d * t + v) * q ≡ d * t * q + v * q = add-mul (d * t) v q in
    let g : (d * q + r) * t ≡ d * q * t + r * t = add-mul (d * q) r t in
    let i : (d * q + r) * t ≡ rest * 5 * t = ap (λ x. x * t) (sym e ∙ f) in
    let j : (d * t + v) * (2 * q) ≡ 2 * ((d * t + v) * q) = sym (mul_assoc (d * t + v) 2 q) ∙ ap (λ x. x * q) (mul_comm (d * t + v) 2) ∙ mul_assoc 2 (d * t + v) q in
    let k : rest * 5 * t ≡ 5 * (rest * t) = ap (λ x. x * t) (mul_comm rest 5) ∙ mul_assoc 5 rest t in
    let l : rest * (10 * t) ≡ 10 * (rest * t) = sym (mul_assoc rest 10 t) ∙ ap (λ x. x * t) (mul_comm rest 10) ∙ mul_assoc 10 rest t in
    omega arith

pub expansion : (places rest : ℕ) → rest < 2 ^ places → Exact places rest (digits places rest)
expansion zero rest l = record { small = All-nil (λ d. d < 10); equal = omega arith }
expansion (suc places) zero l = record { small = All-nil (λ d. d < 10); equal = omega arith }
expansion (suc places) (suc m) l =
    let q = 2 ^ places in
    let n = suc m * 5 in
    let p : 0 < q = pow_pos places in
    let w = twice places in
    let r = n % q in
    let s : n / q * q + r ≡ n = div-add-mod' n q in
    let h = expansion places r (mod-lt n p) in
    let t = 10 ^ length (digits places r) in
    let ds = digits places r in
    let e : digits (suc places) (suc m) ≡ n / q ∷ ds = cond-false (suc m == 0) _ _ (grind (arith, nat_tests)) in
    let d : n / q < 10 = (div-lt_iff_lt-mul {k = q} {x = n} {y = 10} p).1 (omega arith) in
    let u : 10 ^ suc (length ds) ≡ 10 * t = pow-suc 10 (length ds) ∙ mul_comm t 10 in
    subst (Exact (suc places) (suc m)) (sym e) record {
      small = All-cons (λ d. d < 10) (n / q) ds d h.small;
      equal = ap (λ x. (n / q * t + number_of ds) * x) w ∙ step (n / q) (number_of ds) r (suc m) q t n (sym s) refl h.equal ∙ ap (λ x. suc m * x) (sym u);
    }
