-- 01, "Clauses by word". A clause is its word and its variables (an exclusion also the part and which reason); the literals follow from them.
use Rattle.std.specs.Prelude.{List, [], ◌∷◌, ◌++◌, map, ℕ, length}
use Rattle.rules.specs.Literal.{Literal, pos, neg}

-- which of a part's two reasons an exclusion gives
pub data Reason : Type 0 where
  exclusion : Reason
  unknown_dependencies : Reason

-- Two words have two forms each, which set and report differently: `requires` (an owner's, a gate's own) and `any` (for a gate, for one-of-name).
pub data Clause : Type 0 where
  install : Clause
  requires : (owner : ℕ) (conditions : List Literal) (candidates : List ℕ) → Clause
  gated : (gate : ℕ) (candidates : List ℕ) → Clause
  excluded : (variable part : ℕ) (reason : Reason) → Clause
  constrains : (owner part : ℕ) → Clause
  forbid : (part : ℕ) (helper : Literal) → Clause
  aux_out : (part violation : ℕ) → Clause
  aux_owner : (owner violation : ℕ) → Clause
  lock : (part : ℕ) → Clause
  any_gate : (gate owner : ℕ) → Clause
  any_one : (one part : ℕ) → Clause

unfoldable pub literals : Clause → List Literal
literals install = pos 0 ∷ []
literals (requires o ks ps) = neg o ∷ (ks ++ map pos ps)
literals (gated g ps) = neg g ∷ map pos ps
literals (excluded x p w) = neg x ∷ []
literals (constrains o p) = neg o ∷ neg p ∷ []
literals (forbid p l) = neg p ∷ l ∷ []
literals (aux_out p v) = neg p ∷ pos v ∷ []
literals (aux_owner o v) = neg o ∷ neg v ∷ []
literals (lock p) = neg 0 ∷ neg p ∷ []
literals (any_gate g o) = pos g ∷ neg o ∷ []
literals (any_one y p) = pos y ∷ neg p ∷ []

-- 01, Limits: "condition literals (those standing in the stored requires clauses, repeats counted)"
unfoldable pub condition_literals : Clause → ℕ
condition_literals install = 0
condition_literals (requires o ks ps) = length ks
condition_literals (gated g ps) = 0
condition_literals (excluded x p w) = 0
condition_literals (constrains o p) = 0
condition_literals (forbid p l) = 0
condition_literals (aux_out p v) = 0
condition_literals (aux_owner o v) = 0
condition_literals (lock p) = 0
condition_literals (any_gate g o) = 0
condition_literals (any_one y p) = 0

-- 01, "`n` asserted false variable": of an exclusion, and of a `requires` with no literal but the owner's
unfoldable pub owner_alone : ℕ → List Literal → List ℕ → List ℕ
owner_alone o [] [] = o ∷ []
owner_alone o [] (p ∷ ps) = []
owner_alone o (k ∷ ks) ps = []

unfoldable pub asserted : Clause → List ℕ
asserted install = []
asserted (requires o ks ps) = owner_alone o ks ps
asserted (gated g ps) = []
asserted (excluded x p w) = x ∷ []
asserted (constrains o p) = []
asserted (forbid p l) = []
asserted (aux_out p v) = []
asserted (aux_owner o v) = []
asserted (lock p) = []
asserted (any_gate g o) = []
asserted (any_one y p) = []
