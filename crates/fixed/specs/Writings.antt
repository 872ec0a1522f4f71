-- How a fixed form writes whole numbers: modulo 2^width, flagged where they lie outside what its bits stand for.
use Rattle.std.specs.Prelude.{◌≡◌, ℕ, suc, ◌-◌, ◌%◌, ◌^◌, ◌<◌, Bool, true, false, cond, ◌||◌, ℤ, pos, negsuc, neg_ℤ, ◌≤ℤ◌, MatchBool, int_lt}
use Rattle.forms.specs.Loads.{signed as with_sign}
use Rattle.forms.specs.Forms.{Writing, Meaning, form_of}
use Rattle.fixed.specs.declared.form.Fixed.{Fixed}
use Rattle.fixed.specs.Fixeds.{value, fixed_reads}

-- v modulo u, from 0 to u - 1
abbrev pub modulo : ℤ → ℕ → ℕ
modulo (pos n) u = n % u
modulo (negsuc n) u = u - suc (n % u)

-- the least whole number that bits of this width stand for
abbrev pub lowest : Bool → ℕ → ℤ
lowest true width = neg_ℤ (pos (2 ^ (width - 1)))
lowest false width = pos 0

-- the greatest
abbrev pub highest : Bool → ℕ → ℤ
highest true width = pos (2 ^ (width - 1) - 1)
highest false width = pos (2 ^ width - 1)

-- the outermost: the least for a negative sign, else the greatest
abbrev pub extreme : Bool → ℕ → Bool → ℤ
extreme signed width negative = cond negative (lowest signed width) (highest signed width)

-- v lies below the least or above the greatest
abbrev pub outside : Bool → ℕ → ℤ → Bool
outside signed width v = int_lt v (lowest signed width) || int_lt (highest signed width) v

-- what is written for a sign, the lowest 64 digits and the mark that there are more
abbrev pub fixed_writes : Bool → ℕ → Bool → ℕ → Bool → ℕ × Bool
fixed_writes signed width negative low more =
    (modulo (with_sign negative low) (2 ^ width), more || outside signed width (with_sign negative low))

-- the bits of the least or the greatest
abbrev pub fixed_edge : Bool → ℕ → Bool → ℕ
fixed_edge signed width negative = modulo (extreme signed width negative) (2 ^ width)

-- how a form of this sign, width and fraction writes: its grain is 2^-fraction for every exponent
abbrev pub fixed_writing : Bool → ℕ → ℕ → Writing
fixed_writing signed width fraction =
    record {
      grain = λ e. neg_ℤ (pos fraction);
      write = λ negative e low more. fixed_writes signed width negative low more;
      zero = 0;
      edge = fixed_edge signed width;
    }

-- the form of this sign, width and fraction, by its meaning
abbrev pub fixed_form : Bool → ℕ → ℕ → Meaning
fixed_form signed width fraction = form_of (fixed_reads signed width fraction) (fixed_writing signed width fraction)

-- what a form means
abbrev pub meaning : Fixed → Meaning
meaning f = fixed_form f.signed f.width f.fraction

-- v is written so: modulo 2^width, and flagged exactly if it lies outside
pub record Wraps (signed : Bool) (width : ℕ) (v : ℤ) (r : ℕ × Bool) : Type 0 where
  pub bits : r.0 ≡ modulo v (2 ^ width)
  pub flag : r.1 ≡ outside signed width v

-- bits of the width, and no others stand for a number further out on that side
pub record Outermost (signed : Bool) (width : ℕ) (negative : Bool) (r : ℕ) : Type 0 where
  pub fits : r < 2 ^ width
  pub last : (bits : ℕ) → bits < 2 ^ width → MatchBool negative (value signed width r ≤ℤ value signed width bits) (value signed width bits ≤ℤ value signed width r)
