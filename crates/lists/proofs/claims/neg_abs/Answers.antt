use Rattle.std.proofs.Common.{refl, rules}
use Rattle.lists.specs.declared.tally.LineKind.TheVariants.{NegAbs}
use Rattle.lists.proofs.Lawless.{read_unlawful}
use Rattle.lists.proofs.claims.neg_abs.Goals as goal

pub returns : goal.returns
returns c =
    let built = c.in_ok-form.ensures in
    record {
      is_kind = refl;
      after = c.word-5.new.self.rest;
      says = (record { between = c.word-2.new.self.rest; first = search rules; second = search rules }, built.2, refl);
      whole = search rules;
    }

pub returns-in_err-form : goal.returns-in_err-form
returns-in_err-form c =
    read_unlawful NegAbs c.args.words.now.rest c.from_residual-in_err-form.result (search rules)
    (c.in_ok-signed.signed, c.in_ok-width.width, c.word-2.new.self.rest, search rules, c.in_err-form.ensures.0)
