use Rattle.std.proofs.Common.{sym, ◌∙◌}
use Rattle.std.proofs.lemmas.Bool.{cond-true, cond-false}
use Rattle.forms.specs.declared.cmp.Comparison.TheVariants.{Less, More}
use Rattle.forms.proofs.Orders.{ordered_apart, ordered_by_sizes}
use Rattle.forms.proofs.cmp.cmp_aligned.Goals as goal

pub returns-then-lhs : goal.returns-then-lhs
returns-then-lhs c =
    sym (ordered_apart c.args.lhs.load c.args.rhs.load c.args.lhs.sound c.args.rhs.sound c.if-lhs-rhs.true ∙ cond-true _ Less More c.if-lhs.true)

pub returns-else-lhs : goal.returns-else-lhs
returns-else-lhs c =
    sym (ordered_apart c.args.lhs.load c.args.rhs.load c.args.lhs.sound c.args.rhs.sound c.if-lhs-rhs.true ∙ cond-false _ Less More c.if-lhs.false)

pub returns-then-lhs-2 : goal.returns-then-lhs-2
returns-then-lhs-2 c =
    let o = ordered_by_sizes c.args.lhs.load c.args.rhs.load _ c.args.lhs.sound c.args.rhs.sound c.requires c.if-lhs-rhs.false c.cmp_sizes-sizes.ensures in
    c.reverse.ensures.value ∙ sym (o ∙ cond-true c.args.lhs.load.negative _ _ c.if-lhs-2.true)

pub returns-else-lhs-2 : goal.returns-else-lhs-2
returns-else-lhs-2 c =
    let o = ordered_by_sizes c.args.lhs.load c.args.rhs.load _ c.args.lhs.sound c.args.rhs.sound c.requires c.if-lhs-rhs.false c.cmp_sizes-sizes.ensures in
    sym (o ∙ cond-false c.args.lhs.load.negative _ _ c.if-lhs-2.false)
