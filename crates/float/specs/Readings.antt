-- What the bits of a float read as, and what a float shows: significands of at most prec digits, at places from the finest one up.
use Rattle.std.specs.Prelude.{◌≡◌, ℕ, ◌+◌, ◌-◌, ◌*◌, ◌/◌, ◌%◌, ◌^◌, ◌<◌, ◌≤◌, Bool, true, false, cond, ◌⊎◌, ℤ, pos, ◌+ℤ◌, ◌-ℤ◌, Ok, Err, ◌==◌, nat_lt, unsigned_abs, refl}
use Rattle.std.proofs.Common.{sym, ap, subst₂, ◌∙◌, inl, inr, ⊎_elim, zero-mul, add-zero, mod-eq_of_lt, add-mul, one-mul, lt_of_mul-lt-mul_right, arith}
use Rattle.std.proofs.Math.Arith.{digits_lt, digits_div, digits_mod}
use Rattle.std.proofs.lemmas.Nat.{pow_pos, mod_below}
use Rattle.std.proofs.lemmas.Int.{ints}
use Rattle.std.proofs.lemmas.Bool.{cases_lt, eqb-false, lt-ltb, le-leb, lt-leb, eq-eqb, ne_eqb, cond-true, cond-false}
use Rattle.forms.specs.declared.load.Load.{Load}
use Rattle.forms.specs.declared.load.Reading.TheVariants.{NoNumber, Finite}
use Rattle.forms.specs.declared.refusal.Cause.TheVariants.{BitsTooWide}
use Rattle.forms.specs.Refusals.{Refused, refused}
use Rattle.forms.specs.Loads.{nat_of, signed, load_of, worth, endless}
use Rattle.forms.specs.Forms.{ReadsAs, Shown}
use Rattle.forms.proofs.Exponents.{twice_less}
use Rattle.forms.proofs.Orders.{nat_of_up}
use Rattle.float.specs.Formats.{Lawful, exp_max, exp_min}
use Rattle.float.specs.Floats.{sign_of, biased_of, trailing_of, of_fields, float_of, float_reads}
use Rattle.float.specs.Writings.{sign_bit, infinity, packed}
use Rattle.float.specs.Fields.{exponents, exp_max_some, sign_place}
use Rattle.forms.proofs.Soundness.{worth_load_of, signed_units, signed_size}
use Rattle.float.specs.Significands.{next_place}

-- the place of the finest load's digit
abbrev pub finest : ℕ → ℕ → ℕ
finest width prec = 1076 - prec - exp_max width prec

-- ---- what a significand is worth

-- a load made from a sign, a size and a scale
worth_of : (n : Bool) (s : ℕ) (scale : ℤ) → worth (load_of (signed n s) scale) ≡ signed n (s * 2 ^ nat_of (pos 1074 -ℤ scale))
worth_of n s scale = worth_load_of (signed n s) scale ∙ sym (signed_units n s (2 ^ nat_of (pos 1074 -ℤ scale)))

-- a significand of prec digits under an exponent that lies k above the least one
worth_scaled :
    (width prec k s : ℕ) (n : Bool) (e : ℤ) → Lawful width prec → e ≡ exp_min width prec +ℤ pos k
    → worth (load_of (signed n s) (pos (prec - 1) -ℤ e)) ≡ signed n (s * 2 ^ (finest width prec + k))
worth_scaled width prec k s n e h q =
    let m = exp_max_some width prec h in
    let p : nat_of (pos 1074 -ℤ (pos (prec - 1) -ℤ e)) ≡ finest width prec + k = omega (arith, ints, nat_of_up) in
    worth_of n s (pos (prec - 1) -ℤ e) ∙ ap (λ x. signed n (s * 2 ^ x)) p

-- ---- what is shown

-- an amount as a significand of at most prec digits, so far above the finest place; the exponent field is neither all ones nor more
pub record Digits (width prec x : ℕ) : Type 0 where
  pub significand : ℕ
  pub above : ℕ
  pub amount : x ≡ significand * 2 ^ (finest width prec + above)
  pub short : significand < 2 * 2 ^ (prec - 1)
  pub low : above + 2 ≤ 2 ^ (width - prec) - 1

-- which load a number is
number :
    (t a f n z : Bool) (r : Refused) (u v l : Load) → cond t (Ok (cond a (cond f (endless n) NoNumber) (cond z (Finite u) (Finite v)))) (Err r) ≡ Ok (Finite l)
    → (a ≡ false) × ((u ≡ l) ⊎ ((z ≡ false) × (v ≡ l)))
number false a f n z r u v l e = absurd (let o : ◌≡◌ {A = ℕ} 0 1 = cc in omega arith)
number true true false n z r u v l e = absurd (let o : ◌≡◌ {A = ℕ} 0 1 = cc in omega arith)
number true true true false z r u v l e = absurd (let o : ◌≡◌ {A = ℕ} 0 1 = cc in omega arith)
number true true true true z r u v l e = absurd (let o : ◌≡◌ {A = ℕ} 0 1 = cc in omega arith)
number true false f n true r u v l e = (refl, inl (cc))
number true false f n false r u v l e = (refl, inr (refl, (cc)))

-- a significand under an exponent that lies k above the least one
digits_of :
    (width prec k s : ℕ) (n : Bool) (e x : ℤ) (l : Load) → Lawful width prec → e ≡ exp_min width prec +ℤ pos k
    → load_of (signed n s) (pos (prec - 1) -ℤ e) ≡ l → worth l ≡ x → s < 2 * 2 ^ (prec - 1) → k + 2 ≤ 2 ^ (width - prec) - 1
    → Digits width prec (unsigned_abs x)
digits_of width prec k s n e x l h q i v short low =
    record {
      significand = s;
      above = k;
      amount = ap unsigned_abs (sym v ∙ sym (ap worth i) ∙ worth_scaled width prec k s n e h q) ∙ signed_size n (s * 2 ^ (finest width prec + k));
      short = short;
      low = low;
    }

-- every load shown is such an amount, its sign aside
pub shown : (width prec : ℕ) → Lawful width prec → (x : ℤ) → Shown (float_reads width prec) x → Digits width prec (unsigned_abs x)
shown width prec h x w =
    let bits = w.0 in
    let l = w.1.0 in
    let v = w.1.2 in
    let n = sign_of width bits in
    let b = biased_of width prec bits in
    let t = trailing_of prec bits in
    let p = 2 ^ (prec - 1) in
    let top = 2 ^ (width - prec) - 1 in
    let e : ℤ = pos b -ℤ pos (exp_max width prec) in
    let least = load_of (signed n t) (pos (prec - 1) -ℤ exp_min width prec) in
    let full = load_of (signed n (p + t)) (pos (prec - 1) -ℤ e) in
    let q = exponents width prec h in
    let m = exp_max_some width prec h in
    let t_short : t < p = mod_below bits p (pow_pos (prec - 1)) in
    let b_short : b < 2 ^ (width - prec) = mod_below (bits / p) (2 ^ (width - prec)) (pow_pos (width - prec)) in
    let (a, c) = number (nat_lt bits (2 ^ width)) (b == top) (t == 0) n (b == 0) (refused BitsTooWide) least full l w.1.1 in
    let not_top = eqb-false b top a in
    ⊎_elim
    (λ i. digits_of width prec 0 t n (exp_min width prec) x l h (omega (arith, ints)) i v (omega arith) (omega arith))
    (λ i.
    let some = eqb-false b 0 i.0 in
    digits_of width prec (b - 1) (p + t) n e x l h (omega (arith, ints)) i.1 v (omega arith) (omega arith))
    c

-- ---- what bits read as

-- a sign over bits that leave it free
pub sign_kept : (width : ℕ) (n : Bool) (b : ℕ) → b < 2 ^ (width - 1) → sign_of width (sign_bit width n + b) ≡ n
sign_kept width true b h = le-leb (2 ^ (width - 1)) (sign_bit width true + b) (omega arith)
sign_kept width false b h = lt-leb (2 ^ (width - 1)) (sign_bit width false + b) (omega arith)

-- the sign bit, in units of the trailing significand
sign_units : (width prec : ℕ) → Lawful width prec → (n : Bool) → sign_bit width n ≡ cond n (2 ^ (width - prec)) 0 * 2 ^ (prec - 1)
sign_units width prec h true = sign_place width prec h
sign_units width prec h false = sym (zero-mul (2 ^ (prec - 1)))

-- which does not show in the exponent field
under_sign : (n : Bool) (b q : ℕ) → b < q → (cond n q 0 + b) % q ≡ b
under_sign true b q h = ap (λ x. (x + b) % q) (sym (one-mul q)) ∙ digits_mod 1 h
under_sign false b q h = ap (λ x. x % q) (omega arith) ∙ mod-eq_of_lt h

-- a sign, an exponent field and a trailing significand
reads_fields :
    (width prec : ℕ) → Lawful width prec → (n : Bool) (b t : ℕ) → b < 2 ^ (width - prec) → t < 2 ^ (prec - 1)
    → float_reads width prec (sign_bit width n + (b * 2 ^ (prec - 1) + t)) ≡ Ok (of_fields width prec n b t)
reads_fields width prec h n b t i j =
    let p = 2 ^ (prec - 1) in
    let q = 2 ^ (width - prec) in
    let bits = sign_bit width n + (b * p + t) in
    let half = sign_place width prec h in
    let all = twice_less width (omega arith) in
    let under : b * p + t < q * p = digits_lt i j in
    let s = sign_units width prec h n in
    let a = add-mul (cond n q 0) b p in
    let high : sign_bit width n ≤ q * p = elim n as (λ n. sign_bit width n ≤ q * p) [ true ↦ omega arith | false ↦ omega arith ] in
    let digits : bits ≡ (cond n q 0 + b) * p + t = omega arith in
    let sign : sign_of width bits ≡ n = sign_kept width n (b * p + t) (omega arith) in
    let biased : biased_of width prec bits ≡ b = ap (λ x. x / p % q) digits ∙ ap (λ x. x % q) (digits_div (cond n q 0 + b) j) ∙ under_sign n b q i in
    let trailing : trailing_of prec bits ≡ t = ap (λ x. x % p) digits ∙ digits_mod (cond n q 0 + b) j in
    cond-true (nat_lt bits (2 ^ width)) (Ok (float_of width prec bits)) (Err (refused BitsTooWide)) (lt-ltb bits (2 ^ width) (omega arith))
    ∙ ap (λ x. Ok (of_fields width prec x (biased_of width prec bits) (trailing_of prec bits))) sign
    ∙ ap (λ x. Ok (of_fields width prec n x (trailing_of prec bits))) biased
    ∙ ap (λ x. Ok (of_fields width prec n b x)) trailing

-- an exponent field of all ones and no trailing significand
pub reads_infinity : (width prec : ℕ) → Lawful width prec → (n : Bool) → float_reads width prec (sign_bit width n + infinity width prec) ≡ Ok (endless n)
reads_infinity width prec h n =
    let top = 2 ^ (width - prec) - 1 in
    let z = pow_pos (width - prec) in
    ap (λ x. float_reads width prec (sign_bit width n + x)) (sym (add-zero (infinity width prec)))
    ∙ reads_fields width prec h n top 0 (omega arith) (pow_pos (prec - 1))
    ∙ ap Ok (cond-true (top == top) (endless n) _ (eq-eqb top top refl))

-- an exponent field of 0
pub reads_least :
    (width prec t : ℕ) (n : Bool) → Lawful width prec → t < 2 ^ (prec - 1)
    → ReadsAs (float_reads width prec) (sign_bit width n + (0 * 2 ^ (prec - 1) + t)) (signed n (t * 2 ^ (finest width prec + 0)))
reads_least width prec t n h l =
    let top = 2 ^ (width - prec) - 1 in
    let q = exponents width prec h in (
      load_of (signed n t) (pos (prec - 1) -ℤ exp_min width prec),
      reads_fields width prec h n 0 t (omega arith) l ∙ ap Ok (cond-false (0 == top) _ _ (ne_eqb 0 top (λ e. omega arith))),
      worth_scaled width prec 0 t n (exp_min width prec) h (omega (arith, ints)),
    )

-- an exponent field of k + 1, which is not all ones
reads_full :
    (width prec k t : ℕ) (n : Bool) → Lawful width prec → k + 1 < 2 ^ (width - prec) - 1 → t < 2 ^ (prec - 1)
    → ReadsAs (float_reads width prec) (sign_bit width n + ((k + 1) * 2 ^ (prec - 1) + t)) (signed n ((2 ^ (prec - 1) + t) * 2 ^ (finest width prec + k)))
reads_full width prec k t n h j l =
    let top = 2 ^ (width - prec) - 1 in
    let s = 2 ^ (prec - 1) + t in
    let e : ℤ = pos (k + 1) -ℤ pos (exp_max width prec) in (
      load_of (signed n s) (pos (prec - 1) -ℤ e),
      reads_fields width prec h n (k + 1) t (omega arith) l
          ∙ ap Ok (cond-false (k + 1 == top) _ _ (ne_eqb (k + 1) top (λ e. omega arith)))
          ∙ ap Ok (cond-false (k + 1 == 0) _ _ (ne_eqb (k + 1) 0 (λ e. omega arith))),
      worth_scaled width prec k s n e h (omega (arith, ints)),
    )

-- a packed significand below infinity
pub reads_packed :
    (width prec above s : ℕ) (n : Bool) → Lawful width prec → s ≤ 2 * 2 ^ (prec - 1) → (0 < above → 2 ^ (prec - 1) ≤ s) → packed prec above s < infinity width prec
    → ReadsAs (float_reads width prec) (sign_bit width n + packed prec above s) (signed n (s * 2 ^ (finest width prec + above)))
reads_packed width prec above s n h short full fits =
    let p = 2 ^ (prec - 1) in
    let f = finest width prec in
    let R : ℕ → ℕ → Type 0 = λ x y. ReadsAs (float_reads width prec) (sign_bit width n + x) (signed n y) in
    let below : (b t : ℕ) → packed prec above s ≡ b * p + t → b < 2 ^ (width - prec) - 1 = λ b t e. lt_of_mul-lt-mul_right p (omega arith) in
    let a = add-mul above 1 p in
    let a' = add-mul (above + 1) 1 p in
    let o = one-mul p in
    ⊎_elim
    (λ (l : s < p).
    let z : above ≡ 0 = ⊎_elim (λ (x : above < 1). omega arith) (λ x. absurd (let y = full x in omega arith)) (cases_lt above 1) in
    subst₂ R (ap (λ x. x * p + s) (sym z)) (ap (λ x. s * 2 ^ (f + x)) (sym z)) (reads_least width prec s n h l))
    (λ (l : p ≤ s).
    ⊎_elim
    (λ (m : s < 2 * p).
    let e : packed prec above s ≡ (above + 1) * p + (s - p) = omega arith in
    let v : p + (s - p) ≡ s = omega arith in
    subst₂ R (sym e) (ap (λ x. x * 2 ^ (f + above)) v) (reads_full width prec above (s - p) n h (below (above + 1) (s - p) e) (omega arith)))
    (λ (m : 2 * p ≤ s).
    let e : packed prec above s ≡ (above + 1 + 1) * p + 0 = omega arith in
    let v : (p + 0) * 2 ≡ s = omega arith in
    subst₂ R (sym e) (next_place (p + 0) f above ∙ ap (λ x. x * 2 ^ (f + above)) v)
    (reads_full width prec (above + 1) 0 n h (below (above + 1 + 1) 0 e) (pow_pos (prec - 1))))
    (cases_lt s (2 * p)))
    (cases_lt s p)
