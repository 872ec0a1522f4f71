-- How a line is cut into words, one space between two.
use Rattle.std.specs.Prelude.{◌≡◌, ℕ, ◌<◌, Bool, true, false, List, ◌∷◌, ◌++◌, length, is_some, Some, None, Ok, Err, codes, Option, Result, ◌≢◌, slice_index}
use Rattle.std.specs.Borrow.{Bor}

-- there is no space
abbrev pub Unspaced : List ℕ → Type 0
Unspaced w = (i : ℕ) → i < length w → slice_index w i ≢ 32

-- of what is left of a line, the first word is taken, and what follows its space is left then; of nothing, none is
abbrev pub Takes : {E : Type 0} → Option (Bor (List ℕ)) → Result (Bor (List ℕ)) E → Option (Bor (List ℕ)) → Type 0
Takes None (Ok w) after = ⊥
Takes None (Err e) after = is_some after ≡ false
Takes (Some t) (Err e) after = ⊥
Takes (Some t) (Ok w) None = (t.now ≡ w.now) × Unspaced w.now
Takes (Some t) (Ok w) (Some u) = (t.now ≡ w.now ++ (32 ∷ u.now)) × Unspaced w.now

-- what is told by a line: of an altered one what follows its `not`, and of any other all of it
abbrev pub Marked : List ℕ → Bool → List ℕ → Type 0
Marked line true told = line ≡ codes "not " ++ told
Marked line false told = (told ≡ line) × ((rest : List ℕ) → line ≢ codes "not " ++ rest)
