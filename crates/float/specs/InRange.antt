-- Every number of a lawful format is in range.
use Rattle.std.specs.Prelude.{◌≡◌, ℕ, ◌+◌, ◌-◌, ◌/◌, ◌^◌, ◌<◌, ◌≤◌, Bool, true, false, cond, ℤ, pos, negsuc, ◌-ℤ◌, ◌≤ℤ◌, Ok, Err, ◌==◌, nat_lt, refl}
use Rattle.std.proofs.Common.{sym, subst, arith, pow_mono}
use Rattle.std.proofs.lemmas.Nat.{pow_pos, mod_below}
use Rattle.std.proofs.lemmas.Int.{ints}
use Rattle.std.proofs.lemmas.Bool.{eqb-false}
use Rattle.forms.specs.declared.load.Reading.TheVariants.{NoNumber}
use Rattle.forms.specs.declared.refusal.Cause.TheVariants.{BitsTooWide}
use Rattle.forms.specs.Refusals.{refused}
use Rattle.forms.specs.Loads.{signed, endless, Sound, SoundReading}
use Rattle.forms.proofs.Exponents.{twice_less}
use Rattle.forms.proofs.Soundness.{sound_load_of, signed_size}
use Rattle.float.specs.Formats.{Lawful, exp_max, exp_min}
use Rattle.float.specs.Floats.{sign_of, biased_of, trailing_of, scaled, of_fields, float_of, float_reads}
use Rattle.float.specs.Fields.{exponents, exp_max_some}

endless_sound : (s : Bool) → SoundReading (endless s)
endless_sound false = tt
endless_sound true = tt

scaled_sound : (prec n : ℕ) (s : Bool) (e : ℤ) → n < 2 ^ 64 → negsuc 999 ≤ℤ (pos (prec - 1) -ℤ e) → (pos (prec - 1) -ℤ e) ≤ℤ pos 1074 → SoundReading (scaled prec s n e)
scaled_sound prec n s e h l u =
    sound_load_of (signed s n) (pos (prec - 1) -ℤ e) (subst (λ x. x < 2 ^ 64) (sym (signed_size s n)) h) l u

-- a significand has at most 63 digits
short : (width prec t : ℕ) → Lawful width prec → t < 2 ^ (prec - 1) → 2 ^ (prec - 1) + t < 2 ^ 64
short width prec t h l =
    let w : prec ≤ 63 = omega arith in
    let m : 2 ^ prec ≤ 2 ^ 63 = pow_mono w in
    let d = twice_less prec (omega arith) in
    omega arith

fields_sound : (width prec b t : ℕ) (s : Bool) → Lawful width prec → b < 2 ^ (width - prec) → t < 2 ^ (prec - 1) → SoundReading (of_fields width prec s b t)
fields_sound width prec b t s h l u = top (b == 2 ^ (width - prec) - 1) refl
  where
    least : (e : Bool) → (b == 0) ≡ e → (b == 2 ^ (width - prec) - 1) ≡ false → SoundReading (cond e (scaled prec s t (exp_min width prec)) (scaled prec s (2 ^ (prec - 1) + t) (pos b -ℤ pos (exp_max width prec))))
    least true e f =
        let k = short width prec t h u in
        let m = exp_max_some width prec h in
        scaled_sound prec t s (exp_min width prec) (omega arith) (omega (arith, ints)) (omega (arith, ints))
    least false e f =
        let k = short width prec t h u in
        let m = exp_max_some width prec h in
        let x = exponents width prec h in
        let n = eqb-false b 0 e in
        let o = eqb-false b (2 ^ (width - prec) - 1) f in
        scaled_sound prec (2 ^ (prec - 1) + t) s (pos b -ℤ pos (exp_max width prec)) k (omega (arith, ints)) (omega (arith, ints))

    whole : (e : Bool) → SoundReading (cond e (endless s) NoNumber)
    whole true = endless_sound s
    whole false = tt

    top : (e : Bool) → (b == 2 ^ (width - prec) - 1) ≡ e → SoundReading (cond e (cond (t == 0) (endless s) NoNumber) (cond (b == 0) (scaled prec s t (exp_min width prec)) (scaled prec s (2 ^ (prec - 1) + t) (pos b -ℤ pos (exp_max width prec)))))
    top true e = whole (t == 0)
    top false e = least (b == 0) refl e

pub float_sound : (width prec bits : ℕ) → Lawful width prec → Sound (float_reads width prec bits)
float_sound width prec bits h = go (nat_lt bits (2 ^ width))
  where
    inner : SoundReading (float_of width prec bits)
    inner =
        fields_sound width prec (biased_of width prec bits) (trailing_of prec bits) (sign_of width bits) h
        (mod_below (bits / 2 ^ (prec - 1)) (2 ^ (width - prec)) (pow_pos (width - prec)))
        (mod_below bits (2 ^ (prec - 1)) (pow_pos (prec - 1)))

    go : (e : Bool) → Sound (cond e (Ok (float_of width prec bits)) (Err (refused BitsTooWide)))
    go true = inner
    go false = tt
