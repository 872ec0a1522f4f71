-- Lines that are counted one after another, as they come.
use Rattle.std.specs.Str.Lossy.{utf8_lossy}
use Rattle.std.proofs.Common.{◌≡◌, ℕ, List, [], ◌∷◌, Option, Some, None, Result, Ok, Err, IfOk, IfSome, Bor, refl, subst}
use Rattle.std.specs.List.{FoldsTo}
use Rattle.std.specs.Iterator.{AlwaysYields}
use Rattle.std.specs.Str.Iter.{lines_steps, lines_rest}
use Rattle.std.specs.Str.Lines.{lines}
use Rattle.std.specs.declared.str.Lines.{Lines}
use Rattle.std.proofs.lemmas.Iterator.Splits.{YieldsList-from_lines}
use Rattle.lists.specs.declared.tally.Tally.{Tally}
use Rattle.lists.specs.declared.tally.Verdict.{Verdict}
use Rattle.lists.specs.Tallies.{nothing, tallied, TalliedBy}

module _ (Gives : List ℕ → Verdict → Type 0) where
  abbrev Counts : Tally → List ℕ → Tally → Type 0
  Counts before line after = (v : Verdict) × Gives line v × (after ≡ tallied v before)

  -- from this tally on, the lines that are still to come make the tally of all
  pub record Leads (all : List (List ℕ)) (s : Lines) (t : Tally) : Type 0 where
    pub still : List (List ℕ)
    pub come : AlwaysYields lines_steps (λ x. x.now) s still
    pub leads : (last : Tally) → FoldsTo Counts t still last → TalliedBy Gives all last

  pub begins : (text : List ℕ) (s : Lines) (t : Tally) → lines_rest s ≡ text → t ≡ nothing → Leads (lines text) s t
  begins text s t e n =
      record { still = lines text; come = (YieldsList-from_lines text e).runs; leads = λ last h. subst (λ z. FoldsTo Counts z (lines text) last) n h }

  module _ (all : List (List ℕ)) (s u : Lines) (t : Tally) (h : Leads all s t) where
    pub goes : (x : Bor (List ℕ)) (after : Tally) (v : Verdict) → lines_steps s (Some x) u → Gives x.now v → after ≡ tallied v t → Leads all u after
    goes x after v step g e = go h.still h.come h.leads
      where
        go : (ys : List (List ℕ)) → AlwaysYields lines_steps (λ x. x.now) s ys → ((last : Tally) → FoldsTo Counts t ys last → TalliedBy Gives all last) → Leads all u after
        go [] a f = absurd (a x u step)
        go (y ∷ ys) a f =
            let m = a.1 x u step in
            record { still = ys; come = m.1; leads = λ last k. f last (after, (v, subst (λ z. Gives z v) m.0 g, e), k) }

    pub ends : lines_steps s None u → TalliedBy Gives all t
    ends step = go h.still h.come h.leads
      where
        go : (ys : List (List ℕ)) → AlwaysYields lines_steps (λ x. x.now) s ys → ((last : Tally) → FoldsTo Counts t ys last → TalliedBy Gives all last) → TalliedBy Gives all t
        go [] a f = f t refl
        go (y ∷ ys) a f = absurd (a.0 u step)

-- ---- a list that is read of an input

-- what is tallied of a text is tallied of what the input had, where it says what
pub of_input :
    {E : Type 0} (Gives : List ℕ → Verdict → Type 0) (r : Result Tally E) (had : Option (List ℕ)) (text : List ℕ)
    → IfSome had (λ bytes. text ≡ utf8_lossy bytes) → IfOk r (TalliedBy Gives (lines text))
    → IfOk r (λ tally. IfSome had (λ bytes. TalliedBy Gives (lines (utf8_lossy bytes)) tally))
of_input Gives (Err e) had text h p = tt
of_input Gives (Ok tally) None text h p = tt
of_input Gives (Ok tally) (Some bytes) text h p = subst (λ z. TalliedBy Gives (lines z) tally) h p
