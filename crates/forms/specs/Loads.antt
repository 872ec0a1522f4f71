-- What a load is worth, and what every source promises of the loads it reads.
-- Amounts are whole numbers of 2^-1074, the finest unit that any scale up to 1,074 needs, so nothing here is a fraction.
use Rattle.std.specs.Prelude.{◌≡◌, ℕ, zero, suc, ◌*◌, ◌^◌, ◌<◌, Bool, true, false, ℤ, pos, negsuc, ◌-ℤ◌, neg_ℤ, ◌≤ℤ◌, Ok, Err, Result}
use Rattle.forms.specs.declared.load.Load.{Load}
use Rattle.forms.specs.declared.load.Reading.{Reading}
use Rattle.forms.specs.declared.load.Reading.TheVariants.{NoNumber, EndlessUp, EndlessDown, Finite}
use Rattle.forms.specs.Refusals.{Refused}

-- a whole number as a natural one, and 0 for one below 0
abbrev pub nat_of : ℤ → ℕ
nat_of (pos n) = n
nat_of (negsuc n) = 0

-- n with a sign
abbrev pub signed : Bool → ℕ → ℤ
signed false n = pos n
signed true n = neg_ℤ (pos n)

-- the load worth v / 2^scale
abbrev pub load_of : ℤ → ℤ → Load
load_of (pos zero) scale = record { negative = false; size = 0; scale = pos 0 }
load_of (pos (suc n)) scale = record { negative = false; size = suc n; scale = scale }
load_of (negsuc n) scale = record { negative = true; size = suc n; scale = scale }

-- the endless reading of a sign
abbrev pub endless : Bool → Reading
endless false = EndlessUp
endless true = EndlessDown

-- size / 2^scale in units of 2^-1074, for a scale up to 1,074
abbrev pub weight : Load → ℕ
weight l = l.size * 2 ^ nat_of (pos 1074 -ℤ l.scale)

-- what a load is worth, in those units
abbrev pub worth : Load → ℤ
worth l = signed l.negative (weight l)

-- a load in range: size below 2^64, scale from -1,000 to 1,074, and 0 with scale 0 and no sign
pub record SoundLoad (l : Load) : Type 0 where
  pub size_fits : l.size < 2 ^ 64
  pub scale_low : negsuc 999 ≤ℤ l.scale
  pub scale_high : l.scale ≤ℤ pos 1074
  pub zero_scale : l.size ≡ 0 → l.scale ≡ pos 0
  pub zero_sign : l.size ≡ 0 → l.negative ≡ false

-- a reading in range
abbrev pub SoundReading : Reading → Type 0
SoundReading NoNumber = Unit {0}
SoundReading EndlessUp = Unit {0}
SoundReading EndlessDown = Unit {0}
SoundReading (Finite l) = SoundLoad l

-- what a source promises of every answer
abbrev pub Sound : Result Reading Refused → Type 0
Sound (Err e) = Unit {0}
Sound (Ok r) = SoundReading r
