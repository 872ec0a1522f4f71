-- What a form that keeps the laws may promise of a write.
use Rattle.std.proofs.Common.{◌≡◌, ℕ, Bool, ℤ, sym, ◌∙◌, subst, ap₂}
use Rattle.forms.specs.Amounts.{exponent, InRange}
use Rattle.forms.specs.Forms.{Meaning, rounded, Faithful, Laws, Rounds}

-- the third law, of what a write gives that is asked for an amount
pub asked_faithful :
    (f : Meaning) → Laws f → (negative : Bool) (e : ℤ) (low : ℕ) (more : Bool) (r : ℕ × Bool) → r ≡ f.writing.write negative e low more
    → (n : ℕ) → Rounds f.writing e low more n → Faithful f.reads (rounded f.writing negative n) r
asked_faithful f k negative e low more r q n a =
    let P : ℤ → Type 0 = λ z. r ≡ f.writing.write negative z low more in
    let s : r ≡ f.writing.write negative (exponent n) low more = subst P (sym a.place) q in
    subst (Faithful f.reads (rounded f.writing negative n)) (sym (s ∙ ap₂ (λ x y. f.writing.write negative (exponent n) x y) a.digits a.mark))
    (k.faithful negative n a.some (subst (λ z. InRange z) (sym a.place) a.ranged))
