-- What is printed of loads and readings.
use Rattle.std.specs.Prelude.{ℕ, Bool, ◌||◌, pos, List, [], ◌++◌, cond, codes, int_lt}
use Rattle.std.specs.Fmt.{decimal, signed_decimal}
use Rattle.forms.specs.declared.load.Load.{Load}
use Rattle.forms.specs.declared.load.Reading.{Reading}
use Rattle.forms.specs.declared.load.Reading.TheVariants.{NoNumber, EndlessUp, EndlessDown, Finite}
use Rattle.forms.specs.Loads.{nat_of}
use Rattle.telling.specs.Decimals.{decimal_text}

-- the sign of a number, for one below 0
abbrev pub sign_text : Bool → List ℕ
sign_text negative = cond negative (codes "-") []

-- a load as its size and scale
abbrev pub power_text : Load → List ℕ
power_text l = sign_text l.negative ++ decimal l.size ++ codes "/2^" ++ signed_decimal l.scale

-- a load in kilonewtons, with every decimal digit where the scale is from 0 to 60
abbrev pub amount_text : Load → List ℕ
amount_text l =
    cond (int_lt l.scale (pos 0) || int_lt (pos 60) l.scale) (power_text l ++ codes " kN")
    (sign_text l.negative ++ decimal_text l.size (nat_of l.scale) ++ codes " kN (" ++ power_text l ++ codes ")")

-- a reading in words
abbrev pub reading_text : Reading → List ℕ
reading_text NoNumber = codes "no number"
reading_text EndlessUp = codes "endless up"
reading_text EndlessDown = codes "endless down"
reading_text (Finite l) = amount_text l
