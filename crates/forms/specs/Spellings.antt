-- The words for answers, as they are printed and read, and what a refusal is called.
use Rattle.std.specs.Prelude.{◌≡◌, ◌≢◌, List, ℕ, ◌++◌, Ok, Err, codes, decimal, Result}
use Rattle.forms.specs.declared.cmp.Comparison.{Comparison}
use Rattle.forms.specs.declared.cmp.Comparison.TheVariants.{Less, Equal, More, Unordered}
use Rattle.forms.specs.declared.direction.Direction.{Direction}
use Rattle.forms.specs.declared.direction.Direction.TheVariants.{Below, Equal as Exact, Above}
use Rattle.forms.specs.declared.refusal.Cause.{Cause}
use Rattle.forms.specs.declared.refusal.Cause.TheVariants.{UnlawfulForm, UnlawfulFactor, BitsTooWide, NoNumber, Endless, ScaleTooLow, ColumnFull, MalformedLine, BufferTooShort}
use Rattle.forms.specs.declared.refusal.Refusal.{Refusal}
use Rattle.forms.specs.Refusals.{number_of}

-- what is read of a word is spelt so, and a word that is refused spells nothing
abbrev pub Spells : {A E : Type 0} → (A → List ℕ) → List ℕ → Result A E → Type 0
Spells spelling word (Ok a) = word ≡ spelling a
Spells {A} spelling word (Err e) = (a : A) → word ≢ spelling a

abbrev pub comparison_word : Comparison → List ℕ
comparison_word Less = codes "less"
comparison_word Equal = codes "equal"
comparison_word More = codes "more"
comparison_word Unordered = codes "none"

abbrev pub direction_word : Direction → List ℕ
direction_word Below = codes "below"
direction_word Exact = codes "equal"
direction_word Above = codes "above"

-- what a cause is called
abbrev pub cause_text : Cause → List ℕ
cause_text UnlawfulForm = codes "there is no fixed form of that width and fraction"
cause_text UnlawfulFactor = codes "a purchase counts 2, 4 or 8 times"
cause_text BitsTooWide = codes "there are more bits than the form has"
cause_text NoNumber = codes "the bits stand for no number"
cause_text Endless = codes "the bits stand for something endless"
cause_text ScaleTooLow = codes "the load is out of range under that purchase"
cause_text ColumnFull = codes "the column is full"
cause_text MalformedLine = codes "the line is malformed"
cause_text BufferTooShort = codes "the answer buffer is too short"

-- a refusal by its number and depth, and what they mean
abbrev pub refusal_text : Refusal → List ℕ
refusal_text r = codes "refused " ++ (decimal (number_of r.cause) ++ (codes " at depth " ++ (decimal r.depth ++ (codes ": " ++ cause_text r.cause))))
