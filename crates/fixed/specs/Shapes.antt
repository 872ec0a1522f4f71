-- The laws of a form, of every fixed form.
use Rattle.std.specs.Prelude.{◌≡◌, ℕ, zero, suc, ◌-◌, ◌*◌, ◌%◌, ◌^◌, ◌<◌, ◌≤◌, Bool, true, false, cond, ◌||◌, ℤ, pos, negsuc, ◌+ℤ◌, ◌-ℤ◌, ◌*ℤ◌, neg_ℤ, Ok, Err, nat_le, nat_lt, unsigned_abs, refl}
use Rattle.std.proofs.Common.{sym, ap, ap₂, subst, ◌∙◌, ⊎_elim, zero-mul, one-mul, mod-eq_of_lt, mul-pos, mul-le-mul_right, arith}
use Rattle.std.proofs.Math.Nat.{eq_of_mul-eq-mul_right}
use Rattle.std.proofs.lemmas.Nat.{pow_pos}
use Rattle.std.proofs.lemmas.Int.{ints}
use Rattle.std.proofs.lemmas.Bool.{both_ways, ltb-true, lt-ltb, le-leb, lt-leb, cases_lt, cases_Bool, cond-true}
use Rattle.std.proofs.lemmas.Bool.Decides.{nat_tests}
use Rattle.forms.specs.declared.load.Load.{Load}
use Rattle.forms.specs.declared.load.Reading.{Reading}
use Rattle.forms.specs.declared.load.Reading.TheVariants.{Finite}
use Rattle.forms.specs.declared.refusal.Cause.TheVariants.{BitsTooWide}
use Rattle.forms.specs.Refusals.{Refused, refused}
use Rattle.forms.specs.Loads.{nat_of, signed as with_sign, load_of, worth}
use Rattle.forms.specs.Amounts.{unit}
use Rattle.forms.specs.Forms.{form_of, grains, rounded, ReadsAs, Shown, Coarse, Faithful, Laws, Rounds}
use Rattle.forms.proofs.Exponents.{pow_up, twice_less}
use Rattle.forms.proofs.Orders.{nat_of_up}
use Rattle.forms.proofs.Soundness.{worth_load_of, signed_units}
use Rattle.fixed.specs.declared.form.Fixed.{Fixed}
use Rattle.fixed.specs.Fixeds.{value, fixed_reads}
use Rattle.fixed.specs.Widths.{lawful}
use Rattle.fixed.specs.Writings.{modulo, outside, fixed_writes, fixed_writing, meaning, Wraps}
use Rattle.fixed.specs.Ranges.{Within, within, not_outside, value_zero, value_within, value_modulo}
use Rattle.fixed.specs.Residues.{modulo_lt, modulo_low}

-- what the laws need of a lawful form
pub record Bounds (width fraction : ℕ) : Type 0 where
  pub some : 0 < width
  pub word : width ≤ 64
  pub short : fraction ≤ 64

pub bounds : (width fraction : ℕ) → lawful width fraction ≡ true → Bounds width fraction
bounds width fraction e =
    record { some = grind (arith, nat_tests); word = grind (arith, nat_tests); short = grind (arith, nat_tests) }

-- ---- amounts

-- 2^-fraction as an amount
abbrev step : ℕ → ℕ
step fraction = unit (neg_ℤ (pos fraction))

-- what a whole number over 2^fraction is worth
worth_load : (v : ℤ) (fraction : ℕ) → fraction ≤ 64 → worth (load_of v (pos fraction)) ≡ v *ℤ pos (step fraction)
worth_load v fraction h =
    let e : nat_of (pos 1074 -ℤ pos fraction) ≡ nat_of (neg_ℤ (pos fraction) +ℤ pos 1074) = omega (arith, ints, nat_of_up) in
    worth_load_of v (pos fraction) ∙ ap (λ x. v *ℤ pos (2 ^ x)) e

-- the size of so many units
abs_times : (v : ℤ) (u : ℕ) → unsigned_abs (v *ℤ pos u) ≡ unsigned_abs v * u
abs_times (pos n) u = refl
abs_times (negsuc n) u = omega (arith, ints)

-- a common factor falls out
times_cancel : (v v' : ℤ) (u : ℕ) → 0 < u → v *ℤ pos u ≡ v' *ℤ pos u → v ≡ v'
times_cancel (pos m) (pos n) u h e = ap pos (eq_of_mul-eq-mul_right u h m n (ap unsigned_abs e))
times_cancel (pos m) (negsuc n) u h e = absurd (let p : 0 < suc n * u = mul-pos (omega arith) h in omega (arith, ints))
times_cancel (negsuc m) (pos n) u h e = absurd (let p : 0 < suc m * u = mul-pos (omega arith) h in omega (arith, ints))
times_cancel (negsuc m) (negsuc n) u h e =
    let p : suc m * u ≡ suc n * u = omega (arith, ints) in
    let q : suc m ≡ suc n = eq_of_mul-eq-mul_right u h (suc m) (suc n) p in
    omega (arith, ints)

-- ---- what is read

-- bits of the width read as their value
reads_value : (s : Bool) (width fraction bits : ℕ) → fraction ≤ 64 → bits < 2 ^ width → ReadsAs (fixed_reads s width fraction) bits (value s width bits *ℤ pos (step fraction))
reads_value s width fraction bits h l = (
  load_of (value s width bits) (pos fraction),
  cond-true (nat_lt bits (2 ^ width)) _ _ (lt-ltb bits (2 ^ width) l),
  worth_load (value s width bits) fraction h,
)

-- and every load shown is one of those
pub record Valued (s : Bool) (width fraction : ℕ) (x : ℤ) : Type 0 where
  pub bits : ℕ
  pub short : bits < 2 ^ width
  pub worth_is : x ≡ value s width bits *ℤ pos (step fraction)

read_within : (t : Bool) (r : Reading) (e : Refused) (l : Load) → cond t (Ok r) (Err e) ≡ Ok (Finite l) → (t ≡ true) × (r ≡ Finite l)
read_within true r e l h = (refl, (cc))
read_within false r e l h = absurd (let o : ◌≡◌ {A = ℕ} 0 1 = cc in omega arith)

shown_value : (s : Bool) (width fraction : ℕ) → fraction ≤ 64 → (x : ℤ) → Shown (fixed_reads s width fraction) x → Valued s width fraction x
shown_value s width fraction h x (bits, (l, e, w)) =
    let v = value s width bits in
    let (t, r) = read_within (nat_lt bits (2 ^ width)) (Finite (load_of v (pos fraction))) (refused BitsTooWide) l e in
    let q : load_of v (pos fraction) ≡ l = cc in
    record { bits = bits; short = ltb-true bits (2 ^ width) t; worth_is = sym w ∙ ap worth (sym q) ∙ worth_load v fraction h }

-- ---- what is written

-- a number that is not outside has at most 64 digits
within_word : (s : Bool) (width : ℕ) (b : Bool) (n : ℕ) → 0 < width → width ≤ 64 → Within s width (with_sign b n) → n < 2 ^ 64
within_word true width true n h w r =
    let u = pow_up width 64 w in let t = twice_less width h in let p = pow_pos (width - 1) in omega (arith, ints)
within_word true width false n h w r =
    let u = pow_up width 64 w in let t = twice_less width h in let p = pow_pos (width - 1) in omega (arith, ints)
within_word false width true n h w r = omega (arith, ints)
within_word false width false n h w r = let u = pow_up width 64 w in let p = pow_pos width in omega (arith, ints)

-- 64 digits and the mark say all of a size that matters
pub writes_whole : (s : Bool) (width : ℕ) (b : Bool) (n : ℕ) → 0 < width → width ≤ 64 → fixed_writes s width b (n % 2 ^ 64) (nat_le (2 ^ 64) n) ≡ (modulo (with_sign b n) (2 ^ width), outside s width (with_sign b n))
writes_whole s width b n h w =
    ⊎_elim
    (λ (l : n < 2 ^ 64). ap₂ (λ x y. fixed_writes s width b x y) (mod-eq_of_lt l) (lt-leb (2 ^ 64) n l))
    (λ (l : 2 ^ 64 ≤ n).
    let o : outside s width (with_sign b n) ≡ true =
    ⊎_elim (λ e. e) (λ e. absurd (let f = within_word s width b n h w (within s width (with_sign b n) e) in omega arith)) (cases_Bool (outside s width (with_sign b n))) in
    ap₂ (λ x y. (x, y || outside s width (with_sign b (n % 2 ^ 64)))) (modulo_low b n width w) (le-leb (2 ^ 64) n l)
    ∙ ap (λ x. (modulo (with_sign b n) (2 ^ width), x)) (sym o))
    (cases_lt n (2 ^ 64))

-- the third law, of a size of whole units
whole_faithful :
    (s : Bool) (width fraction : ℕ) → Bounds width fraction → (b : Bool) (n : ℕ)
    → Faithful (fixed_reads s width fraction) (with_sign b (n * step fraction)) (modulo (with_sign b n) (2 ^ width), outside s width (with_sign b n))
whole_faithful s width fraction h b n =
    let v = with_sign b n in
    let k = modulo v (2 ^ width) in
    let u = step fraction in
    let e : with_sign b (n * u) ≡ v *ℤ pos u = signed_units b n u in
    record {
      fits = λ o.
          let r = value_modulo s width v h.some (within s width v o) in
          subst (ReadsAs (fixed_reads s width fraction) k) (ap (λ x. x *ℤ pos u) r ∙ sym e)
          (reads_value s width fraction k h.short (modulo_lt v (2 ^ width) (pow_pos width)));
      over = λ o sh.
          let z = shown_value s width fraction h.short _ sh in
          let r : value s width z.bits ≡ v = times_cancel (value s width z.bits) v u (pow_pos _) (sym z.worth_is ∙ e) in
          let i = subst (Within s width) r (value_within s width z.bits h.some z.short) in
          both_ways (outside s width v) (not_outside s width v i) o;
    }

-- no multiple of u lies between 0 and u
none_between : (m u : ℕ) → 0 < m * u → m * u < u → ⊥
none_between zero u p l = let z = zero-mul u in omega arith
none_between (suc m) u p l =
    let a : 1 * u ≤ suc m * u = mul-le-mul_right u (omega arith) in let o = one-mul u in omega arith

-- the first two laws
fixed_coarse : (s : Bool) (width fraction : ℕ) → Bounds width fraction → (e : ℤ) → Coarse (fixed_reads s width fraction) e (neg_ℤ (pos fraction))
fixed_coarse s width fraction h e =
    let u = step fraction in
    record {
      whole = λ x sh _.
          let z = shown_value s width fraction h.short x sh in
          let v = value s width z.bits in
          (unsigned_abs v, ap unsigned_abs z.worth_is ∙ abs_times v u);
      none_finer = λ _ x sh p q.
          let z = shown_value s width fraction h.short x sh in
          let v = value s width z.bits in
          let w : unsigned_abs x ≡ unsigned_abs v * u = ap unsigned_abs z.worth_is ∙ abs_times v u in
          none_between (unsigned_abs v) u (omega arith) (omega arith);
    }

-- a form that is lawful keeps the laws
pub fixed_laws : (s : Bool) (width fraction : ℕ) → lawful width fraction ≡ true → Laws (form_of (fixed_reads s width fraction) (fixed_writing s width fraction))
fixed_laws s width fraction k =
    let h = bounds width fraction k in
    let w = fixed_writing s width fraction in
    record {
      ranged = λ e _. record { low = omega (arith, ints); high = omega (arith, ints) };
      coarse = λ e _. fixed_coarse s width fraction h e;
      faithful = λ b n _ _.
          subst (Faithful (fixed_reads s width fraction) (rounded w b n)) (sym (writes_whole s width b (grains w n) h.some h.word))
          (whole_faithful s width fraction h b (grains w n));
      zero_reads = subst (ReadsAs (fixed_reads s width fraction) 0) (ap (λ x. x *ℤ pos (step fraction)) (value_zero s width) ∙ ap pos (zero-mul (step fraction)))
          (reads_value s width fraction 0 h.short (pow_pos width));
    }

-- and every form is lawful
pub laws_of : (f : Fixed) → Laws (meaning f)
laws_of f = fixed_laws f.signed f.width f.fraction f.is_lawful

-- what is written for an amount is what its whole number is written as
pub asked_wraps :
    (f : Fixed) (b : Bool) (e : ℤ) (low : ℕ) (more : Bool) (r : ℕ × Bool) → r ≡ (meaning f).writing.write b e low more
    → (n : ℕ) → Rounds (meaning f).writing e low more n → Wraps f.signed f.width (with_sign b (grains (meaning f).writing n)) r
asked_wraps f b e low more r q n a =
    let h = bounds f.width f.fraction f.is_lawful in
    let m = grains (meaning f).writing n in
    let t : r ≡ (modulo (with_sign b m) (2 ^ f.width), outside f.signed f.width (with_sign b m)) =
    q ∙ ap₂ (λ x y. fixed_writes f.signed f.width b x y) a.digits a.mark ∙ writes_whole f.signed f.width b m h.some h.word in
    record { bits = ap (λ x. x.0) t; flag = ap (λ x. x.1) t }
