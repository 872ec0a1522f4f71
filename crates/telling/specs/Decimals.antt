-- Numbers over a power of two in decimal digits.
use Rattle.std.specs.Prelude.{ℕ, zero, suc, ◌*◌, ◌/◌, ◌%◌, ◌^◌, ◌==◌, List, [], ◌∷◌, ◌++◌, cond, codes, flat_map}
use Rattle.std.specs.Fmt.{decimal}
use Rattle.telling.specs.declared.digits.Digits.{Digits}

-- the decimal digits of rest / 2^places after the point, up to the last that is not 0: rest × 10 / 2^places is rest × 5 / 2^(places - 1)
abbrev pub digits : ℕ → ℕ → List ℕ
digits zero rest = []
digits (suc places) rest = cond (rest == 0) [] (rest * 5 / 2 ^ places ∷ digits places (rest * 5 % 2 ^ places))

-- those that are still to come
abbrev pub digits_left : Digits → List ℕ
digits_left d = digits d.places d.rest

-- the point between the whole part of a number and the rest, where there is a rest
abbrev pub point_text : ℕ → List ℕ
point_text rest = cond (rest == 0) [] (codes ".")

-- size / 2^places: the whole part, and what is left after a point
abbrev pub decimal_text : ℕ → ℕ → List ℕ
decimal_text size places =
    decimal (size / 2 ^ places) ++ point_text (size % 2 ^ places) ++ flat_map decimal (digits places (size % 2 ^ places))
