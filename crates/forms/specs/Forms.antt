-- What a form means: how it reads bits and how it writes amounts. The three laws of every form.
use Rattle.std.specs.Prelude.{◌≡◌, ℕ, ◌*◌, ◌%◌, ◌^◌, ◌<◌, ◌≤◌, Bool, true, false, ℤ, pos, ◌<ℤ◌, Ok, Result, nat_le, unsigned_abs}
use Rattle.forms.specs.declared.load.Load.{Load}
use Rattle.forms.specs.declared.load.Reading.{Reading}
use Rattle.forms.specs.declared.load.Reading.TheVariants.{Finite}
use Rattle.forms.specs.Refusals.{Refused}
use Rattle.forms.specs.Loads.{signed, worth}
use Rattle.forms.specs.Amounts.{exponent, unit, InRange, nearest}

-- how a form writes: the grain for an exponent; the bits and the flag for a sign, an exponent, the lowest 64 binary digits of a whole number and
-- the mark that it has more than 64; the bits for 0; and the edge, which is the clamped answer of a sign
pub record Writing : Type 0 where
  pub grain : ℤ → ℤ
  pub write : Bool → ℤ → ℕ → Bool → ℕ × Bool
  pub zero : ℕ
  pub edge : Bool → ℕ

-- what a form means: how it reads and how it writes
pub record Meaning : Type 0 where
  pub reads : ℕ → Result Reading Refused
  pub writing : Writing

abbrev pub form_of : (ℕ → Result Reading Refused) → Writing → Meaning
form_of reads writing = record { reads = reads; writing = writing }

-- ---- rounding

-- M: how many grains an amount of this size is rounded to
abbrev pub grains : Writing → ℕ → ℕ
grains w n = nearest n (unit (w.grain (exponent n)))

-- M × 2^g, with a sign
abbrev pub rounded : Writing → Bool → ℕ → ℤ
rounded w negative n = signed negative (grains w n * unit (w.grain (exponent n)))

-- the bits and the flag written for it
abbrev pub written : Writing → Bool → ℕ → ℕ × Bool
written w negative n = w.write negative (exponent n) (grains w n % 2 ^ 64) (nat_le (2 ^ 64) (grains w n))

-- ---- the laws

-- the bits read as a load that is worth x
abbrev pub ReadsAs : (ℕ → Result Reading Refused) → ℕ → ℤ → Type 0
ReadsAs reads bits x = (l : Load) × (reads bits ≡ Ok (Finite l)) × (worth l ≡ x)

-- a form shows a load if some bits read as it
abbrev pub Shown : (ℕ → Result Reading Refused) → ℤ → Type 0
Shown reads x = (bits : ℕ) × ReadsAs reads bits x

-- the first two laws, of the grain g for the exponent e: every load shown that is 2^e or more, its sign aside, is a whole multiple of 2^g; and where
-- g > e, no load shown lies strictly between 0 and 2^g, its sign aside
pub record Coarse (reads : ℕ → Result Reading Refused) (e g : ℤ) : Type 0 where
  pub whole : (x : ℤ) → Shown reads x → unit e ≤ unsigned_abs x → (k : ℕ) × (unsigned_abs x ≡ k * unit g)
  pub none_finer : e <ℤ g → (x : ℤ) → Shown reads x → 0 < unsigned_abs x → unsigned_abs x < unit g → ⊥

-- the third law, of what is written for a load worth x: it is flagged exactly if the form does not show that load, and reads as it otherwise
pub record Faithful (reads : ℕ → Result Reading Refused) (x : ℤ) (r : ℕ × Bool) : Type 0 where
  pub fits : r.1 ≡ false → ReadsAs reads r.0 x
  pub over : r.1 ≡ true → Shown reads x → ⊥

-- what every form keeps
pub record Laws (f : Meaning) : Type 0 where
  pub ranged : (e : ℤ) → InRange e → InRange (f.writing.grain e)
  pub coarse : (e : ℤ) → InRange e → Coarse f.reads e (f.writing.grain e)
  pub faithful : (negative : Bool) (n : ℕ) → 0 < n → InRange (exponent n) → Faithful f.reads (rounded f.writing negative n) (written f.writing negative n)
  pub zero_reads : ReadsAs f.reads f.writing.zero (pos 0)

-- ---- how write is called

-- what is handed to write is what the rounding of an amount of size n gives
pub record Rounds (w : Writing) (e : ℤ) (low : ℕ) (more : Bool) (n : ℕ) : Type 0 where
  pub some : 0 < n
  pub place : exponent n ≡ e
  pub ranged : InRange e
  pub digits : low ≡ grains w n % 2 ^ 64
  pub mark : more ≡ nat_le (2 ^ 64) (grains w n)

-- it is so of some amount
abbrev pub Asked : Writing → ℤ → ℕ → Bool → Type 0
Asked w e low more = (n : ℕ) × Rounds w e low more n
