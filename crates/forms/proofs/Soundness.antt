-- Loads that are made in range are in range, and worth what they are made of. Sizes with a sign.
use Rattle.std.proofs.Common.{◌≡◌, ℕ, zero, suc, ◌*◌, ◌^◌, ◌<◌, Bool, true, false, ℤ, pos, negsuc, ◌-ℤ◌, ◌*ℤ◌, neg_ℤ, nat_abs, ◌≤ℤ◌, sym, refl, ap, ◌∙◌, zero-mul, arith}
use Rattle.std.proofs.lemmas.Int.{ints}
use Rattle.forms.specs.Loads.{nat_of, signed, load_of, worth, SoundLoad}

-- the load worth v / 2^scale
pub sound_load_of : (v scale : ℤ) → nat_abs v < 2 ^ 64 → negsuc 999 ≤ℤ scale → scale ≤ℤ pos 1074 → SoundLoad (load_of v scale)
sound_load_of (pos zero) scale h l u =
    record { size_fits = omega arith; scale_low = omega (arith, ints); scale_high = omega (arith, ints); zero_scale = λ e. refl; zero_sign = λ e. refl }
sound_load_of (pos (suc n)) scale h l u =
    record { size_fits = h; scale_low = l; scale_high = u; zero_scale = λ e. absurd (omega arith); zero_sign = λ e. absurd (omega arith) }
sound_load_of (negsuc n) scale h l u =
    record { size_fits = h; scale_low = l; scale_high = u; zero_scale = λ e. absurd (omega arith); zero_sign = λ e. absurd (omega arith) }

-- what a load is worth that is made of v and a scale
pub worth_load_of : (v scale : ℤ) → worth (load_of v scale) ≡ v *ℤ pos (2 ^ nat_of (pos 1074 -ℤ scale))
worth_load_of (pos zero) scale = ap pos (sym (zero-mul (2 ^ nat_of (pos 1074 -ℤ scale))))
worth_load_of (pos (suc n)) scale = refl
worth_load_of (negsuc n) scale = refl

-- a size of so many units, with a sign
pub signed_units : (b : Bool) (n u : ℕ) → signed b (n * u) ≡ signed b n *ℤ pos u
signed_units false n u = refl
signed_units true zero u = ap (λ x. neg_ℤ (pos x)) (zero-mul u) ∙ sym (ap pos (zero-mul u))
signed_units true (suc n) u = refl

-- a sign leaves the size as it is
pub signed_size : (b : Bool) (n : ℕ) → nat_abs (signed b n) ≡ n
signed_size false n = refl
signed_size true zero = refl
signed_size true (suc n) = refl
