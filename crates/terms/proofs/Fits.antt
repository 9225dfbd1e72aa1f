-- What limits that are allowed are at most, and that no length of a listing area changes what fits.
use mathlib.Core.Path.{◌≡◌, refl, sym, ◌∙◌}
use mathlib.Core.Bool.{Bool, true, ◌&&◌}
use mathlib.Core.List.{List}
use Prim.Native.Nat.{ℕ}
use lib.Dec.{ltb, leb}
use borrow.Author.Tests.{leb-true}
use Rattle.rules.proofs.Bools.{and_left, and_right}
use Rattle.rules.specs.Limits as rules
use Rattle.rules.specs.Limits.{within, allowed, fits}
use Rattle.state.specs.declared.Limits.{Limits}
use Rattle.terms.specs.Terms.{Ceilings, terms_of}
use Rattle.state.specs.Limits.{limits_of}

pub ceilings : (l : Limits) (x : Bool) → x ≡ allowed (limits_of l) → x ≡ true → Ceilings l
unfolding allowed limits_of within
ceilings l x f g =
    let e = sym f ∙ g in
    let a = and_left _ _ e in
    let e₁ = and_right (ltb 0 l.variables && leb l.variables 4096) _ e in
    let b = and_left _ _ e₁ in
    let e₂ = and_right (ltb 0 l.clauses && leb l.clauses 16384) _ e₁ in
    let c = and_left _ _ e₂ in
    let d = and_right (ltb 0 l.literals && leb l.literals 8192) _ e₂ in
    record {
      variables = leb-true _ _ (and_right (ltb 0 l.variables) _ a);
      clauses = leb-true _ _ (and_right (ltb 0 l.clauses) _ b);
      literals = leb-true _ _ (and_right (ltb 0 l.literals) _ c);
      waiting = leb-true _ _ (and_right (ltb 0 l.waiting) _ d);
    }

-- whatever the listing area's length
pub same_fits : (l : rules.Limits) (lent : List ℕ) (listing : ℕ) → fits (terms_of l lent listing) ≡ fits (terms_of l lent 0)
unfolding fits terms_of
same_fits l lent listing = refl
