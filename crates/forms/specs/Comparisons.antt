-- How two readings compare.
use Rattle.std.specs.Prelude.{Bool, true, false, cond, ℤ, Ok, Err, Result, int_lt}
use Rattle.forms.specs.declared.load.Reading.{Reading}
use Rattle.forms.specs.declared.load.Reading.TheVariants.{NoNumber, EndlessUp, EndlessDown, Finite}
use Rattle.forms.specs.declared.cmp.Comparison.{Comparison}
use Rattle.forms.specs.declared.cmp.Comparison.TheVariants.{Less, Equal, More, Unordered}
use Rattle.std.specs.declared.cmp.Ordering.{Ordering}
use Rattle.std.specs.declared.cmp.Ordering.TheVariants.{Less as Before, Equal as Level, Greater as After}
use Rattle.forms.specs.Refusals.{Refused}
use Rattle.forms.specs.Loads.{worth}

-- the comparison that an order of two numbers is
abbrev pub from_ordering : Ordering → Comparison
from_ordering Before = Less
from_ordering Level = Equal
from_ordering After = More

-- the comparison of two amounts
abbrev pub ordered : ℤ → ℤ → Comparison
ordered x y = cond (int_lt x y) Less (cond (int_lt y x) More Equal)

-- of two readings: endless up is more than every load and equal to itself, endless down mirrors it, and no number is unordered with everything, itself too
abbrev pub against : Reading → Reading → Comparison
against NoNumber y = Unordered
against EndlessUp NoNumber = Unordered
against EndlessUp EndlessUp = Equal
against EndlessUp EndlessDown = More
against EndlessUp (Finite m) = More
against EndlessDown NoNumber = Unordered
against EndlessDown EndlessUp = Less
against EndlessDown EndlessDown = Equal
against EndlessDown (Finite m) = Less
against (Finite l) NoNumber = Unordered
against (Finite l) EndlessUp = Less
against (Finite l) EndlessDown = More
against (Finite l) (Finite m) = ordered (worth l) (worth m)

-- of what two sources read: the left refusal first, then the right one
abbrev pub compared : Result Reading Refused → Result Reading Refused → Result Comparison Refused
compared (Err e) s = Err e
compared (Ok x) (Err e) = Err e
compared (Ok x) (Ok y) = Ok (against x y)

-- whether it is equal
abbrev pub is_equal : Comparison → Bool
is_equal Less = false
is_equal Equal = true
is_equal More = false
is_equal Unordered = false

-- the answer of equality from that of comparison
abbrev pub equality : Result Comparison Refused → Result Bool Refused
equality (Err e) = Err e
equality (Ok o) = Ok (is_equal o)

-- the comparison with left and right exchanged
abbrev pub mirrored : Comparison → Comparison
mirrored Less = More
mirrored Equal = Equal
mirrored More = Less
mirrored Unordered = Unordered
