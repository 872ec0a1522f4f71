use Rattle.std.proofs.Common.{◌≡◌, Bool, true, false, cond, eqb, sym, refl, ap, ◌∙◌}
use Rattle.forms.specs.declared.cmp.Comparison.TheVariants.{Less, More}
use Rattle.forms.specs.Comparisons.{is_equal}
use Rattle.forms.proofs.Orders.{moved, moved_is, same_sign, ordered_apart, ordered_aligned, equal_mirrored}
use Rattle.forms.proofs.cmp.eq_aligned.Goals as goal

never_equal : (b : Bool) → false ≡ is_equal (cond b Less More)
never_equal true = refl
never_equal false = refl

pub returns-then-lhs-rhs : goal.returns-then-lhs-rhs
returns-then-lhs-rhs c =
    never_equal c.args.lhs.load.negative
    ∙ ap is_equal (sym (ordered_apart c.args.lhs.load c.args.rhs.load c.args.lhs.sound c.args.rhs.sound c.if-lhs-rhs.true))

pub returns : goal.returns
returns c =
    let l = c.args.lhs.load in
    let r = c.args.rhs.load in
    let s = same_sign l.negative r.negative c.if-lhs-rhs.false in
    let o = ordered_aligned l r c.args.lhs.sound c.requires s in
    c.eq_sizes.ensures
    ∙ ap (eqb l.size) (moved_is l r c.args.lhs.sound c.args.rhs.sound c.requires)
    ∙ sym (ap is_equal o ∙ equal_mirrored l.negative l.size (moved l r))
