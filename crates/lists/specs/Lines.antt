-- What a line says, word by word, and when it agrees.
use Rattle.std.specs.Prelude.{◌≡◌, ℕ, Bool, true, false, List, pos, is_some, Some, Ok, Err, codes, Decides, Result}
use Rattle.std.specs.Borrow.{Bor}
use Rattle.std.specs.Option.{option_map}
use Rattle.forms.specs.declared.load.Reading.{Reading}
use Rattle.forms.specs.declared.load.Reading.TheVariants.{NoNumber, EndlessUp, EndlessDown, Finite}
use Rattle.forms.specs.Spellings.{comparison_word, direction_word}
use Rattle.fixed.specs.Fixeds.{fixed_reads}
use Rattle.fixed.specs.Widths.{lawful}
use Rattle.float.specs.Floats.{float_reads}
use Rattle.kinds.specs.declared.format_name.FormatName.{FormatName}
use Rattle.kinds.specs.declared.form_name.FormName.{FormName}
use Rattle.kinds.specs.declared.form_name.FormName.TheVariants.{Fixed as fixed_form, Float as float_form}
use Rattle.kinds.specs.Names.{width_of, prec_of, meaning_of}
use Rattle.kinds.specs.Spellings.{format_word}
use Rattle.lists.specs.declared.answers.Side.{Side}
use Rattle.lists.specs.declared.answers.Answers.{Answers}
use Rattle.lists.specs.declared.claims.Claim.{Claim}
use Rattle.lists.specs.declared.claims.Claim.TheVariants.{Kind as kind, NegAbs as neg_abs, Compare as compare, ToFloat as to_float, FromFloat as from_float, Convert as convert}
use Rattle.lists.specs.declared.claims.NoClaim.{NoClaim}
use Rattle.lists.specs.declared.claims.NoClaim.TheVariants.{Malformed as malformed, Unlawful as unlawful}
use Rattle.lists.specs.declared.conversions.Conversion.{Conversion}
use Rattle.lists.specs.declared.conversions.Conversion.TheVariants.{NoNumber as Nothing, Endless, Finite as Written, Bits}
use Rattle.lists.specs.declared.tally.LineKind.{LineKind}
use Rattle.lists.specs.declared.tally.LineKind.TheVariants.{Kind, NegAbs, Compare, ToFloat, FromFloat, Convert}
use Rattle.lists.specs.declared.tally.Verdict.{Verdict}
use Rattle.lists.specs.declared.tally.Verdict.TheVariants.{Agrees, Differs, Refused, Accepted, Malformed as no_line}
use Rattle.lists.specs.Cuts.{Marked}
use Rattle.lists.specs.Words.{Left, Then, Spelt, Hex, Natural, Integer}
use Rattle.lists.specs.Spellings.{sign_word, signedness_word, equality_word, flag_word, kind_word}
use Rattle.lists.specs.Answers.{BothAnswered}
use Rattle.lists.specs.Conversions.{Converts}

-- ---- parts of lines

-- `nan`, `infinite SIGN` or `finite SIGN SIZE SCALE`
abbrev pub SaysReading : Reading → Left → Left → Type 0
SaysReading NoNumber = Spelt (codes "nan")
SaysReading EndlessUp = Then (Spelt (codes "infinite")) (Spelt (sign_word false))
SaysReading EndlessDown = Then (Spelt (codes "infinite")) (Spelt (sign_word true))
SaysReading (Finite l) = Then (Spelt (codes "finite")) (Then (Spelt (sign_word l.negative)) (Then (Hex l.size) (Integer l.scale)))

-- i|u WIDTH
abbrev pub SaysWidth : Bool → ℕ → Left → Left → Type 0
SaysWidth signed width = Then (Spelt (signedness_word signed)) (Natural width)

-- i|u WIDTH FRACTION, or the name of a float's format
abbrev pub SaysForm : FormName → Left → Left → Type 0
SaysForm (fixed_form f) = Then (SaysWidth f.signed f.width) (Natural f.fraction)
SaysForm (float_form n) = Spelt (format_word n)

-- FLOAT BITS
abbrev pub SaysFloat : Side FormatName → Left → Left → Type 0
SaysFloat float = Then (Spelt (format_word float.form)) (Hex float.bits)

-- COMPARISON COMPARISON EQUALITY EQUALITY, each there and then back
abbrev pub SaysAnswers : Answers → Left → Left → Type 0
SaysAnswers a =
    Then (Spelt (comparison_word a.there.comparison))
    (Then (Spelt (comparison_word a.back.comparison)) (Then (Spelt (equality_word a.there.equal)) (Spelt (equality_word a.back.equal))))

-- `nan`, `infinite CLAMPED` or `BITS DIRECTION FLAG CLAMPED`, and never bits alone
abbrev pub SaysConversion : Conversion → Left → Left → Type 0
SaysConversion Nothing = Spelt (codes "nan")
SaysConversion (Endless clamped) = Then (Spelt (codes "infinite")) (Hex clamped)
SaysConversion (Written bits direction over clamped) =
    Then (Hex bits) (Then (Spelt (direction_word direction)) (Then (Spelt (flag_word over)) (Hex clamped)))
SaysConversion (Bits bits) = λ before after. ⊥

-- ---- lines

abbrev pub kind_of : Claim → LineKind
kind_of (kind float reading) = Kind
kind_of (neg_abs fixed load) = NegAbs
kind_of (compare fixed float answers) = Compare
kind_of (to_float fixed float) = ToFloat
kind_of (from_float float fixed said) = FromFloat
kind_of (convert source form said) = Convert

-- the words after the first; a whole number's form has no digits after the point, and neither has what it stands for
abbrev pub Says : Claim → Left → Left → Type 0
Says (kind float reading) = Then (SaysFloat float) (SaysReading reading)
Says (neg_abs fixed load) =
    λ before after.
    Then (SaysWidth fixed.form.signed fixed.form.width) (Then (Hex fixed.bits) (Then (Spelt (sign_word load.negative)) (Hex load.size))) before after
    × (fixed.form.fraction ≡ 0)
    × (load.scale ≡ pos 0)
Says (compare fixed float answers) = Then (SaysForm (fixed_form fixed.form)) (Then (Hex fixed.bits) (Then (SaysFloat float) (SaysAnswers answers)))
Says (to_float fixed float) = Then (SaysForm (fixed_form fixed.form)) (Then (Hex fixed.bits) (SaysFloat float))
Says (from_float float fixed said) = Then (SaysFloat float) (Then (SaysForm (fixed_form fixed)) (SaysConversion said))
Says (convert source form said) = Then (SaysForm source.form) (Then (Hex source.bits) (Then (SaysForm form) (SaysConversion said)))

-- the forms answer so
abbrev pub Holds : Claim → Type 0
Holds (kind float reading) = float_reads (width_of float.form) (prec_of float.form) float.bits ≡ Ok reading
Holds (neg_abs fixed load) = fixed_reads fixed.form.signed fixed.form.width fixed.form.fraction fixed.bits ≡ Ok (Finite load)
Holds (compare fixed float answers) =
    BothAnswered (fixed_reads fixed.form.signed fixed.form.width fixed.form.fraction fixed.bits) (float_reads (width_of float.form) (prec_of float.form) float.bits) answers
Holds (to_float fixed float) = Converts (meaning_of (float_form float.form)) ((meaning_of (fixed_form fixed.form)).reads fixed.bits) (Bits float.bits)
Holds (from_float float fixed said) = Converts (meaning_of (fixed_form fixed)) ((meaning_of (float_form float.form)).reads float.bits) said
Holds (convert source form said) = Converts (meaning_of form) ((meaning_of source.form).reads source.bits) said

-- what is left of a line makes this claim, which is of this kind, and nothing follows
pub record Claims (sort : LineKind) (left : Left) (claim : Claim) : Type 0 where
  pub is_kind : kind_of claim ≡ sort
  pub after : Left
  pub says : Says claim left after
  pub whole : is_some after ≡ false

-- what is left of a line names a fixed form that there is not, which a line of the first kind never does; of the kinds that ask for conversions
-- nothing is said
abbrev pub Unlawful : LineKind → Left → Type 0
Unlawful Kind left = ⊥
Unlawful NegAbs left = (signed : Bool) × (width : ℕ) × (after : Left) × SaysWidth signed width left after × (lawful width 0 ≡ false)
Unlawful Compare left =
    (signed : Bool) × (width : ℕ) × (fraction : ℕ) × (after : Left) × Then (SaysWidth signed width) (Natural fraction) left after × (lawful width fraction ≡ false)
Unlawful ToFloat left = Unit {0}
Unlawful FromFloat left = Unit {0}
Unlawful Convert left = Unit {0}

-- what is read of a line is its claim, or that there is no such form; of a malformed one nothing is said
abbrev pub Read : LineKind → Left → Result Claim NoClaim → Type 0
Read sort left (Ok claim) = Claims sort left claim
Read sort left (Err malformed) = Unit {0}
Read sort left (Err unlawful) = Unlawful sort left

-- what is left of a line makes a claim of this kind; it agrees exactly if the claim holds
pub record Agreed (sort : LineKind) (left : Left) (agrees : Bool) : Type 0 where
  pub claim : Claim
  pub claims : Claims sort left claim
  pub decides : Decides agrees (Holds claim)

-- a line is of a kind by its first word, and agrees or not by what follows, as a list's lines do
pub record Found (Agreeing : LineKind → Left → Bool → Type 0) (line : List ℕ) (sort : LineKind) (agrees : Bool) : Type 0 where
  pub start : Left
  pub is_line : option_map (λ (t : Bor (List ℕ)). t.now) start ≡ Some line
  pub rest : Left
  pub first : Spelt (kind_word sort) start rest
  pub agreed : Agreeing sort rest agrees

-- the same of what a line tells that is altered or not
pub record Told (Agreeing : LineKind → Left → Bool → Type 0) (altered : Bool) (line : List ℕ) (sort : LineKind) (agrees : Bool) : Type 0 where
  pub told : List ℕ
  pub marked : Marked line altered told
  pub found : Found Agreeing told sort agrees

-- the verdict on a line comes from what it tells; of a malformed one nothing is said
abbrev pub VerdictFor : (LineKind → Left → Bool → Type 0) → List ℕ → Verdict → Type 0
VerdictFor Agreeing line (Agrees sort) = Told Agreeing false line sort true
VerdictFor Agreeing line (Differs sort) = Told Agreeing false line sort false
VerdictFor Agreeing line Refused = (sort : LineKind) × Told Agreeing true line sort false
VerdictFor Agreeing line Accepted = (sort : LineKind) × Told Agreeing true line sort true
VerdictFor Agreeing line no_line = Unit {0}
