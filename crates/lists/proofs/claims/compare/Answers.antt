use Rattle.std.proofs.Common.{refl, rules}
use Rattle.lists.specs.declared.tally.LineKind.TheVariants.{Compare}
use Rattle.lists.proofs.Lawless.{read_unlawful}
use Rattle.lists.proofs.claims.compare.Goals as goal

pub returns : goal.returns
returns c =
    record {
      is_kind = refl;
      after = c.both_answers.new.words.rest;
      says =
          record {
            between = c.word-3.new.self.rest;
            first = record { between = c.word-2.new.self.rest; first = search rules; second = search rules };
            second = search rules;
          };
      whole = search rules;
    }

pub returns-in_err-form : goal.returns-in_err-form
returns-in_err-form c =
    read_unlawful Compare c.args.words.now.rest c.from_residual-in_err-form.result (search rules)
    (c.in_ok-signed.signed, c.in_ok-width.width, c.in_ok-fraction.fraction, c.word-3.new.self.rest, record { between = c.word-2.new.self.rest; first = search rules; second = search rules }, c.in_err-form.ensures.0)
