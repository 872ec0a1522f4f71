-- What the next words of a line say.
use Rattle.std.specs.Prelude.{◌≡◌, ℕ, List, ℤ, Ok, Option}
use Rattle.std.specs.Int.{w32}
use Rattle.std.specs.Borrow.{Bor}
use Rattle.std.specs.Str.Parse.{ParsesUnsigned, ParsesSigned}
use Rattle.lists.specs.declared.line.Malformed.{Malformed}
use Rattle.lists.specs.Cuts.{Takes}

-- what is left of a line
abbrev pub Left : Type 0
Left = Option (Bor (List ℕ))

-- the next word is one of which P holds
pub record Next (P : List ℕ → Type 0) (before after : Left) : Type 0 where
  pub word : Bor (List ℕ)
  pub taken : Takes {E = Malformed} before (Ok word) after
  pub says : P word.now

-- first the one is said, then the other
pub record Then (P Q : Left → Left → Type 0) (before after : Left) : Type 0 where
  pub between : Left
  pub first : P before between
  pub second : Q between after

-- ---- words

abbrev pub Spelt : List ℕ → Left → Left → Type 0
Spelt text = Next (λ w. w ≡ text)

abbrev pub Hex : ℕ → Left → Left → Type 0
Hex n = Next (λ w. ParsesUnsigned {E = Malformed} 64 16 w (Ok n))

abbrev pub Natural : ℕ → Left → Left → Type 0
Natural n = Next (λ w. ParsesUnsigned {E = Malformed} 32 10 w (Ok n))

abbrev pub Integer : ℤ → Left → Left → Type 0
Integer z = Next (λ w. ParsesSigned {E = Malformed} w32 10 w (Ok z))
