-- Rows worked out by hand: a conversion or a comparison, and what the definitions must give for it.
use Rattle.std.specs.Prelude.{◌≡◌, ℕ, Bool, true, false, List, [], ◌∷◌, Ok}
use Rattle.forms.specs.declared.cmp.Comparison.{Comparison}
use Rattle.forms.specs.declared.cmp.Comparison.TheVariants.{Less, Equal as Same, Unordered}
use Rattle.forms.specs.declared.direction.Direction.{Direction}
use Rattle.forms.specs.declared.direction.Direction.TheVariants.{Below, Equal, Above}
use Rattle.forms.specs.Comparisons.{compared}
use Rattle.forms.specs.Forms.{Meaning}
use Rattle.forms.specs.Conversions.{converted, converted_clamped}
use Rattle.fixed.specs.Writings.{fixed_form}
use Rattle.float.specs.Writings.{float_form}

-- the signed fixed form of this width and fraction
abbrev pub i : ℕ → ℕ → Meaning
i = fixed_form true

-- the unsigned one
abbrev pub u : ℕ → ℕ → Meaning
u = fixed_form false

abbrev pub f16 : Meaning
f16 = float_form 16 11

abbrev pub f32 : Meaning
f32 = float_form 32 24

abbrev pub f64 : Meaning
f64 = float_form 64 53

-- the flag
abbrev pub fits : Bool
fits = false

abbrev pub over : Bool
over = true

-- a row: bits of one form into another, with the plain answer and the clamped bits; or bits of one form against those of another
pub data Row : Type 0 where
  into : Meaning → ℕ → Meaning → ℕ × Direction × Bool → ℕ → Row
  against : Meaning → ℕ → Meaning → ℕ → Comparison → Row

-- it is what the definitions give
abbrev pub Holds : Row → Type 0
Holds (into source bits form plain clamped) =
    (converted form (source.reads bits) ≡ Ok plain) × (converted_clamped form (source.reads bits) ≡ Ok clamped)
Holds (against left x right y comparison) = compared (left.reads x) (right.reads y) ≡ Ok comparison

-- every row does
abbrev pub Hold : List Row → Type 0
Hold [] = Unit {0}
Hold (r ∷ rs) = Holds r × Hold rs

abbrev pub table : List Row
table =
    into (u 16 0) 0x0801 f16 (0x6800, Below, fits) 0x6800
    ∷ into (u 16 0) 0x0803 f16 (0x6802, Above, fits) 0x6802
    ∷ into (u 16 0) 0xffef f16 (0x7bff, Below, fits) 0x7bff
    ∷ into (u 16 0) 0xffff f16 (0x7c00, Above, over) 0x7c00
    ∷ into (i 64 64) 0xffffffffffffffff f16 (0x8000, Above, fits) 0x8000
    ∷ into f32 0x3f000000 (u 8 0) (0x00, Below, fits) 0x00
    ∷ into f32 0xbf000000 (u 8 0) (0x00, Above, fits) 0x00
    ∷ into f32 0xbf800000 (u 8 0) (0xff, Equal, over) 0x00
    ∷ into f32 0x437f8000 (u 8 0) (0x00, Above, over) 0xff
    ∷ into f32 0x43000000 (i 8 0) (0x80, Equal, over) 0x7f
    ∷ into f32 0x7f7fffff (u 64 64) (0, Equal, over) 0xffffffffffffffff
    ∷ against (i 64 0) 0x7fffffffffffffff f64 0x43f0000000000000 Less
    ∷ against (u 8 0) 0x00 f16 0x8000 Same
    ∷ against (u 8 0) 0x00 f16 0x7e00 Unordered
    ∷ []
