-- What an exact amount becomes in a form, plain and clamped, and what direct conversion of a reading answers.
use Rattle.std.specs.Prelude.{◌≡◌, ℕ, zero, suc, ◌%◌, ◌≤◌, Bool, true, false, cond, ◌≢◌, ℤ, pos, negsuc, Ok, Err, Result, int_lt, unsigned_abs}
use Rattle.forms.specs.declared.direction.Direction.{Direction}
use Rattle.forms.specs.declared.direction.Direction.TheVariants.{Below, Equal, Above}
use Rattle.forms.specs.declared.load.Reading.{Reading}
use Rattle.forms.specs.declared.load.Reading.TheVariants.{NoNumber, EndlessUp, EndlessDown, Finite}
use Rattle.forms.specs.declared.refusal.Cause.TheVariants.{NoNumber as for_no_number, Endless as for_endless}
use Rattle.forms.specs.Refusals.{Refused, refused}
use Rattle.forms.specs.Loads.{signed, worth}
use Rattle.forms.specs.Amounts.{distance}
use Rattle.forms.specs.Forms.{Meaning, grains, rounded, written, ReadsAs, Shown}

-- how the amount y stands to the exact amount x
abbrev pub standing : ℤ → ℤ → Direction
standing y x = cond (int_lt y x) Below (cond (int_lt x y) Above Equal)

-- how an answer that reads so stands to the exact amount: one that reads as endless, an infinity, is above or below every amount, and any other is set by d
abbrev pub facing : Result Reading Refused → Direction → Direction
facing (Err e) d = d
facing (Ok NoNumber) d = d
facing (Ok EndlessUp) d = Above
facing (Ok EndlessDown) d = Below
facing (Ok (Finite l)) d = d

-- the answer for an amount other than 0, by its sign and size: what is written, and how M × 2^g stands to it
abbrev pub answered : Meaning → Bool → ℕ → ℕ × Direction × Bool
answered f negative n = (
  (written f.writing negative n).0,
  facing (f.reads (written f.writing negative n).0) (standing (rounded f.writing negative n) (signed negative n)),
  (written f.writing negative n).1,
)

-- what an exact amount becomes in a form: bits, direction and flag
abbrev pub plain : Meaning → ℤ → ℕ × Direction × Bool
plain f (pos zero) = (f.writing.zero, Equal, false)
plain f (pos (suc n)) = answered f false (suc n)
plain f (negsuc n) = answered f true (suc n)

-- whether an amount is below 0
abbrev pub is_negative : ℤ → Bool
is_negative (pos n) = false
is_negative (negsuc n) = true

-- the same, clamped: bits, which are the edge of the amount's sign where the plain answer is flagged
abbrev pub clamped : Meaning → ℤ → ℕ
clamped f x = cond (plain f x).2 (f.writing.edge (is_negative x)) (plain f x).0

-- ---- conversion

-- what plain conversion into a form answers where a source reads so
abbrev pub converted : Meaning → Result Reading Refused → Result (ℕ × Direction × Bool) Refused
converted f (Err e) = Err e
converted f (Ok NoNumber) = Err (refused for_no_number)
converted f (Ok EndlessUp) = Err (refused for_endless)
converted f (Ok EndlessDown) = Err (refused for_endless)
converted f (Ok (Finite l)) = Ok (plain f (worth l))

-- what clamped conversion answers
abbrev pub converted_clamped : Meaning → Result Reading Refused → Result ℕ Refused
converted_clamped f (Err e) = Err e
converted_clamped f (Ok NoNumber) = Err (refused for_no_number)
converted_clamped f (Ok EndlessUp) = Ok (f.writing.edge false)
converted_clamped f (Ok EndlessDown) = Ok (f.writing.edge true)
converted_clamped f (Ok (Finite l)) = Ok (clamped f (worth l))

-- ---- the law of an answer

-- M × 2^g, for an exact amount x, and 0 for 0
abbrev pub closest : Meaning → ℤ → ℤ
closest f x = rounded f.writing (is_negative x) (unsigned_abs x)

-- the bits read as M × 2^g; every load that the form shows lies at least as far from the exact amount x; and where another lies equally far, M is even
pub record Nearest (f : Meaning) (x : ℤ) (bits : ℕ) : Type 0 where
  pub reads_as : ReadsAs f.reads bits (closest f x)
  pub no_nearer : (y : ℤ) → Shown f.reads y → distance (closest f x) x ≤ distance y x
  pub even : (y : ℤ) → Shown f.reads y → y ≢ closest f x → distance y x ≡ distance (closest f x) x → grains f.writing (unsigned_abs x) % 2 ≡ 0

-- the law of an answer: unflagged, its bits are nearest; flagged, the form does not show M × 2^g
pub record NearestAnswer (f : Meaning) (x : ℤ) (a : ℕ × Direction × Bool) : Type 0 where
  pub fits : a.2 ≡ false → Nearest f x a.0
  pub over : a.2 ≡ true → Shown f.reads (closest f x) → ⊥

-- the law of a conversion, where a source reads so
abbrev pub NearestConversion : {E : Type 0} → Meaning → Result Reading Refused → Result (ℕ × Direction × Bool) E → Type 0
NearestConversion f (Ok (Finite l)) (Ok a) = NearestAnswer f (worth l) a
NearestConversion f (Ok (Finite l)) (Err e) = Unit {0}
NearestConversion f (Ok NoNumber) r = Unit {0}
NearestConversion f (Ok EndlessUp) r = Unit {0}
NearestConversion f (Ok EndlessDown) r = Unit {0}
NearestConversion f (Err e) r = Unit {0}
