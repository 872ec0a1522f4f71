-- What decimal digits stand for.
use Rattle.std.specs.Prelude.{◌≡◌, ℕ, ◌+◌, ◌*◌, ◌^◌, ◌<◌, List, [], ◌∷◌, length, All}

-- the whole number of these digits
abbrev pub number_of : List ℕ → ℕ
number_of [] = 0
number_of (d ∷ ds) = d * 10 ^ length ds + number_of ds

-- digits, and after a point they stand for rest / 2^places
pub record Exact (places rest : ℕ) (ds : List ℕ) : Type 0 where
  pub small : All (λ d. d < 10) ds
  pub equal : number_of ds * 2 ^ places ≡ rest * 10 ^ length ds
