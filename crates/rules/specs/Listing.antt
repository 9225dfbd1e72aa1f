-- 01, The kit listing, to the byte: "One space parts fields, a line feed ends lines".
use Rattle.std.specs.Prelude.{true, false, cond, List, [], ◌∷◌, ◌++◌, map, ℕ, zero, suc, ◌+◌, ◌/◌, ◌%◌, ltb, length}
use Rattle.std.proofs.Math.Option.{Option, none, some}
use Prim.Native.Char.{code}
use Prim.Native.String.{String}
use Rattle.rules.specs.Lists.{filter, concat_map, up_to}
use Rattle.rules.specs.Literal.{Literal}
use Rattle.rules.specs.Clause.{Clause, install, requires, gated, excluded, constrains, forbid, aux_out, aux_owner, lock, any_gate, any_one, Reason, exclusion, unknown_dependencies, literals, asserted}
use Rattle.rules.specs.Catalogue.{Owner, root, part, Goal, range, union, Catalogue, part_at, requirement_at, condition_at, exclusion_reason}
use Rattle.rules.specs.Conditions.{disjunct_at, is_condition}
use Rattle.rules.specs.Decisions.{Decision}
use Rattle.rules.specs.Variables.{Origin, chosen, one, violation, gate}
use Rattle.rules.specs.State.{State}

unfoldable pub ascii : String → List ℕ
ascii String.[] = []
ascii (String.◌∷◌ c s) = code c ∷ ascii s

-- a number in decimal, at most k digits of it; n has at most n + 1
unfoldable pub digits : ℕ → ℕ → List ℕ → List ℕ
digits zero n acc = acc
digits (suc k) n acc = elim (ltb n 10) [ true ↦ (48 + n) ∷ acc | false ↦ digits k (n / 10) ((48 + n % 10) ∷ acc) ]

unfoldable pub decimal : ℕ → List ℕ
decimal n = digits (suc n) n []

unfoldable pub line : List (List ℕ) → List ℕ
line [] = 10 ∷ []
line (f ∷ []) = f ++ (10 ∷ [])
line (f ∷ g ∷ fs) = f ++ (32 ∷ line (g ∷ fs))

unfoldable pub signed : Literal → List ℕ
signed l = cond l.positive 43 45 ∷ decimal l.variable

-- "An owner prints as root or the part's number, a value as 0 or 1"
unfoldable pub owner_field : Owner → List ℕ
owner_field root = ascii "root"
owner_field (part p) = decimal p

unfoldable pub goal_fields : Goal → List (List ℕ)
goal_fields (range r) = ascii "range" ∷ decimal r ∷ []
goal_fields (union u) = ascii "union" ∷ decimal u ∷ []

unfoldable pub origin_fields : Origin → List (List ℕ)
origin_fields (chosen root) = ascii "root" ∷ []
origin_fields (chosen (part p)) = ascii "part" ∷ decimal p ∷ []
origin_fields (Origin.forbid n j) = ascii "forbid" ∷ decimal n ∷ []
origin_fields (one n) = ascii "one" ∷ decimal n ∷ []
origin_fields (violation r) = ascii "violation" ∷ decimal r ∷ []
origin_fields (gate g) = ascii "gate" ∷ goal_fields g

unfoldable pub clause_field : Option ℕ → List ℕ
clause_field none = ascii "-"
clause_field (some i) = decimal i

unfoldable pub decision_line : Decision → List ℕ
decision_line d = line (ascii "d" ∷ decimal d.variable ∷ decimal (cond d.value 1 0) ∷ decimal d.level ∷ clause_field d.clause ∷ [])

-- a line for each, numbered from i
unfoldable pub numbered : {A : Type 0} → List ℕ → (A → List (List ℕ)) → ℕ → List A → List ℕ
numbered w f i [] = []
numbered w f i (x ∷ xs) = line (w ∷ decimal i ∷ f x) ++ numbered w f (suc i) xs

-- a line for each variable that a clause asserts false
unfoldable pub assertions : ℕ → List Clause → List ℕ
assertions i [] = []
assertions i (k ∷ ks) = concat_map (λ x. line (ascii "n" ∷ decimal x ∷ decimal i ∷ [])) (asserted k) ++ assertions (suc i) ks

module _ (c : Catalogue) where
  -- the number behind an exclusion's reason
  unfoldable pub reason_number : Reason → ℕ → ℕ
  reason_number exclusion p = exclusion_reason c p
  reason_number unknown_dependencies p = (part_at c p).unknown_reason

  unfoldable pub word_fields : Clause → List (List ℕ)
  word_fields install = ascii "install" ∷ []
  word_fields (requires o ks ps) = ascii "requires" ∷ []
  word_fields (gated g ps) = ascii "requires" ∷ []
  word_fields (excluded x p w) = ascii "excluded" ∷ decimal (reason_number w p) ∷ []
  word_fields (constrains o p) = ascii "constrains" ∷ []
  word_fields (forbid p l) = ascii "forbid" ∷ []
  word_fields (aux_out p v) = ascii "aux-out" ∷ []
  word_fields (aux_owner o v) = ascii "aux-owner" ∷ []
  word_fields (lock p) = ascii "lock" ∷ []
  word_fields (any_gate g o) = ascii "any" ∷ []
  word_fields (any_one y p) = ascii "any" ∷ []

  unfoldable pub clause_fields : Clause → List (List ℕ)
  clause_fields k = word_fields k ++ map signed (literals k)

  -- "`w` condition, owner, form word, number, ranges"; "by rising condition, within one .. in order of arrival"
  unfoldable pub waiting_line : ℕ → ℕ × ℕ → List ℕ
  waiting_line k e =
      let q = requirement_at c e.0 in
      line (ascii "w" ∷ decimal k ∷ owner_field q.owner ∷ (goal_fields q.goal ++ map decimal (disjunct_at c e.0 e.1)))

  unfoldable pub waiting_lines : List (ℕ × ℕ) → ℕ → List ℕ
  waiting_lines es k = concat_map (waiting_line k) (filter (λ (e : ℕ × ℕ). is_condition k (condition_at c e.0)) es)

  unfoldable pub listing : State → List ℕ
  listing s =
      numbered (ascii "v") origin_fields 0 s.variables
      ++ (numbered (ascii "c") clause_fields 0 s.clauses
      ++ (concat_map (λ o. line (ascii "o" ∷ owner_field o ∷ [])) s.opening.owners
      ++ (concat_map (λ n. line (ascii "p" ∷ decimal n ∷ [])) s.opening.names
      ++ (concat_map (λ (e : ℕ × ℕ). line (ascii "x" ∷ decimal e.0 ∷ decimal e.1 ∷ [])) s.conflicts
      ++ (assertions 0 s.clauses
      ++ (concat_map decision_line s.decisions
      ++ concat_map (waiting_lines s.opening.waiting) (up_to 0 (length c.conditions))))))))
