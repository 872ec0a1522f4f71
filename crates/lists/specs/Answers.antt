-- What a line asks of the forms.
use Rattle.std.specs.Prelude.{◌≡◌, Ok, Result}
use Rattle.forms.specs.declared.load.Reading.{Reading}
use Rattle.forms.specs.Refusals.{Refused}
use Rattle.forms.specs.Comparisons.{compared, equality}
use Rattle.lists.specs.declared.answers.Answer.{Answer}
use Rattle.lists.specs.declared.answers.Answers.{Answers}

-- two sides compare as the answer says, and are equal where it says so
abbrev pub Answered : Result Reading Refused → Result Reading Refused → Answer → Type 0
Answered left right a =
    (compared left right ≡ Ok a.comparison) × (equality (compared left right) ≡ Ok a.equal)

-- they do so there and back
abbrev pub BothAnswered : Result Reading Refused → Result Reading Refused → Answers → Type 0
BothAnswered left right a = Answered left right a.there × Answered right left a.back
