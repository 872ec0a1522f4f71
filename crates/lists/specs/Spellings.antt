-- The words of the list, by what they say.
use Rattle.std.specs.Prelude.{ℕ, Bool, true, false, List, codes}
use Rattle.lists.specs.declared.tally.LineKind.{LineKind}
use Rattle.lists.specs.declared.tally.LineKind.TheVariants.{Kind, NegAbs, Compare, ToFloat, FromFloat, Convert}

-- of a number below 0, and of any other
abbrev pub sign_word : Bool → List ℕ
sign_word true = codes "-"
sign_word false = codes "+"

-- of two's complement, and of no sign
abbrev pub signedness_word : Bool → List ℕ
signedness_word true = codes "i"
signedness_word false = codes "u"

abbrev pub equality_word : Bool → List ℕ
equality_word true = codes "eq"
equality_word false = codes "ne"

-- of a set flag, and of one that is not set
abbrev pub flag_word : Bool → List ℕ
flag_word true = codes "over"
flag_word false = codes "fits"

abbrev pub kind_word : LineKind → List ℕ
kind_word Kind = codes "kind"
kind_word NegAbs = codes "neg_abs"
kind_word Compare = codes "compare"
kind_word ToFloat = codes "to_float"
kind_word FromFloat = codes "from_float"
kind_word Convert = codes "convert"
