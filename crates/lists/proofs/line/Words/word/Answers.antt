use Rattle.std.proofs.Common.{Some, None, refl, lit<}
use Rattle.std.proofs.lemmas.Str.Pattern.{split_parts}
use Rattle.lists.proofs.line.Words.word.Goals as goal

pub returns-in-Some-split_once : goal.returns-in-Some-split_once
returns-in-Some-split_once c =
    rw c.in-Some.is (split_parts 32 c.in-Some.line.now (Some (c.in-Some-split_once.word, c.in-Some-split_once.rest)) c.in-Some-split_once.ensures.cases (lit< tt))

pub returns-in-None : goal.returns-in-None
returns-in-None c = rw c.in-Some.is (refl, split_parts 32 c.in-Some.line.now None c.in-None.ensures.cases (lit< tt))
