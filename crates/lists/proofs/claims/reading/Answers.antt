use Rattle.std.proofs.Common.{Bool, true, false, codes, sym, subst, rules}
use Rattle.forms.specs.declared.load.Reading.{Reading}
use Rattle.forms.specs.Loads.{endless}
use Rattle.lists.specs.Spellings.{sign_word}
use Rattle.lists.specs.Words.{Left, Then, Spelt}
use Rattle.lists.specs.Lines.{SaysReading}
use Rattle.lists.proofs.claims.reading.Goals as goal

-- the word and the sign say the reading of that sign
endless_said : (negative : Bool) (before after : Left) → Then (Spelt (codes "infinite")) (Spelt (sign_word negative)) before after → SaysReading (endless negative) before after
endless_said true before after said = said
endless_said false before after said = said

pub returns-in_ok-negative-in-infinite : goal.returns-in_ok-negative-in-infinite
returns-in_ok-negative-in-infinite c =
    subst (λ (x : Reading). SaysReading x c.args.words.now.rest c.word-in-infinite.new.self.rest) (sym c.endless.ensures)
    (endless_said c.in_ok-negative-in-infinite.negative c.args.words.now.rest c.word-in-infinite.new.self.rest (search rules))
