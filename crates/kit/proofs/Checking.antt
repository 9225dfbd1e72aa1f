-- `check` against the definitions, with all six areas.
use mathlib.Core.Path.{◌≡◌, refl}
use mathlib.Core.List.{List, [], ◌∷◌}
use Prim.Native.Nat.{ℕ}
use lib.ListN.{length}
use Rattle.state.specs.declared.Limits.{Limits}
use Rattle.state.specs.Limits.{limits_of}
use Rattle.terms.specs.declared.Answer.{Answer}
use Rattle.terms.specs.declared.Lent.{Lent}
use Rattle.terms.specs.Terms.{lent_of, four_limits}
use Rattle.checking.specs.Areas.{Zeroed}
use Rattle.checking.specs.Checking.{Checked}
use Rattle.kit.specs.Checking.{Served}
use Rattle.kit.specs.Running.{LendsAll}

pub lent_is : (x : Lent) (m u t c s w : List ℕ) → LendsAll x m u t c s w → lent_of x ≡ length m ∷ length u ∷ length t ∷ length c ∷ length s ∷ length w ∷ []
unfolding lent_of
lent_is x m u t c s w h = rw (h.marks, h.unions, h.tables, h.clauses, h.state, h.waiting) refl

pub served : (job : List ℕ) (v n l k : ℕ) (x : Lent) (r : Answer) (m u t c s w m' u' t' c' s' w' : List ℕ) → LendsAll x m u t c s w → Zeroed c c' → Zeroed s s' → Zeroed w w'
    → Checked job (limits_of (record { variables = v; clauses = n; literals = l; waiting = k })) (lent_of x) r m u t m' u' t'
    → Served job (four_limits v n l k) r m u t c s w m' u' t' c' s' w'
unfolding limits_of four_limits
served job v n l k x r m u t c s w m' u' t' c' s' w' e a b d h =
    record {
      answer = rw (lent_is x m u t c s w e) at h.gives;
      marks = h.marks.is;
      unions = h.unions.is;
      catalogue = h.tables.is;
      clauses = a.is;
      state = b.is;
      waiting = d.is;
    }
