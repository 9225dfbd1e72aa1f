-- The helper variables of a name and the forbid clauses over them, in a job: they are, in their order, those of the joins of its tracked parts, one
-- after another (AtMostOne.Encoded). So at the start, and kept by every event.
use mathlib.Core.Path.{◌≡◌, refl, sym, ◌∙◌, ap}
use mathlib.Core.Logic.{⊎_elim}
use mathlib.Core.Bool.{Bool, true, false, cond, true≢false}
use mathlib.Core.List.Memᴰ
use mathlib.Core.List.{List, [], ◌∷◌, ◌++◌, map, map-append, append-nil}
use Prim.Native.Nat.{ℕ, suc, ◌+◌, ◌^◌, ◌<◌}
use native.Mathlib.Nat.{zero-add}
use native.Mathlib.Omega.{arith}
use lib.Dec.{eqb, ltb}
use lib.ListN.{length, get_or, length-map, get_or-append}
use borrow.Author.Tests.{eqb-true, eq-eqb, lt-ltb, le-ltb}
use Rattle.rules.specs.Lists.{filter, snoc, list_if, unless, fold, up_to}
use Rattle.rules.specs.Clause.{Clause, install, requires, gated, excluded, constrains, aux_out, aux_owner, lock, any_gate, any_one, literals}
use Rattle.rules.specs.AtMostOne.{helpers_after, helpers_for, join_clauses}
use Rattle.rules.specs.Catalogue.{root, part, Owner, Goal, Catalogue, name_of}
use Rattle.rules.specs.Candidates.{non_matching, locked_out, excluded_parts}
use Rattle.rules.specs.Variables.{Origin, chosen, forbid, one, violation, gate, known, variable_of, with_variable, with_variables, part_origin, part_variable}
use Rattle.rules.specs.Opening.{Task, owner, name, condition, requirement, constraint, tracked_of}
use Rattle.rules.specs.Encoding.{Shape, direct, through_gate, on_firing, shape_of, helpers_of, joins, origins, requirement_clauses, constraint_clauses, task_origins, task_clauses, clauses}
use Rattle.rules.specs.Called.{◌∈◌, constraint_range}
use Rattle.rules.proofs.Bools.{by_cases}
use Rattle.rules.proofs.Each.{unless_cases}
use Rattle.rules.proofs.ListLaws.{All, all_append, up_to_end}
use Rattle.rules.proofs.MemberLaws.{of_list_if, in_filter, of_filter, filter_append, filter_pass, map_same, all_in, all_list_if, all_map, length_snoc}
use Rattle.rules.proofs.Grows.{Prefix, with_variables_prefix}
use Rattle.rules.proofs.Places.{stands, keeps_variable, with_variables_known}
use Rattle.rules.proofs.Known.{in_known, of_known, unchanged}
use Rattle.rules.proofs.TrackedOf.{of_tracked_of, own_name, other_name}
use Rattle.rules.proofs.AtMostOne.{with_helper, Encoded as Joins, another}
use Rattle.rules.proofs.Asked.{Asks, for_owner, for_gate, for_violation, for_one, asks}
use Rattle.rules.proofs.JoinClauses.{join_only}
use Rattle.rules.proofs.Encoded.{by_joining, Encoded, every_literal_below}
use Rattle.rules.proofs.Joined.{helpers_length, helpers_place, in_helpers, of_helpers}

-- ---- the helpers and the forbid clauses of a name

-- a helper of name n
unfoldable pub helper_of : ℕ → Origin → Bool
helper_of n (chosen o) = false
helper_of n (forbid m j) = eqb m n
helper_of n (one m) = false
helper_of n (violation r) = false
helper_of n (gate g) = false

-- a forbid clause over a helper of name n
unfoldable pub forbid_of : List Origin → ℕ → Clause → Bool
forbid_of vs n install = false
forbid_of vs n (requires o ks ps) = false
forbid_of vs n (gated g ps) = false
forbid_of vs n (excluded x p w) = false
forbid_of vs n (constrains o p) = false
forbid_of vs n (Clause.forbid x l) = helper_of n (get_or vs l.variable (chosen root))
forbid_of vs n (aux_out p v) = false
forbid_of vs n (aux_owner o v) = false
forbid_of vs n (lock p) = false
forbid_of vs n (any_gate g o) = false
forbid_of vs n (any_one y p) = false

-- the forbid clauses of name n are those of the joins of the parts ps
abbrev pub JoinsOf : List Origin → List Clause → ℕ → List ℕ → Type 0
JoinsOf vs ks n ps = Joins (map (part_variable vs) ps) (map (variable_of vs) (helpers_of n (length ps))) (filter (forbid_of vs n) ks)

pub record HelpersOf (c : Catalogue) (tracked : List ℕ) (vs : List Origin) (ks : List Clause) (n : ℕ) : Type 0 where
  pub variables : filter (helper_of n) vs ≡ helpers_of n (length (tracked_of c n tracked))
  pub clauses : JoinsOf vs ks n (tracked_of c n tracked)

-- ---- filters

module _ {A : Type 0} where
  -- filter's step
  abbrev kept_if : Bool → A → List A → List A
  kept_if b x xs = elim b [ true ↦ x ∷ xs | false ↦ xs ]

  filter_same : (f g : A → Bool) (xs : List A) → ((x : A) → x ∈ xs → f x ≡ g x) → filter f xs ≡ filter g xs
  unfolding filter
  filter_same f g [] h = refl
  filter_same f g (x ∷ xs) h =
      ap (λ b. kept_if b x (filter f xs)) (h x (Memᴰ.head refl)) ∙ ap (kept_if (g x) x) (filter_same f g xs (λ y m. h y (Memᴰ.tail m)))

  filter_all : (b : Bool) (xs : List A) → filter (λ _. b) xs ≡ list_if b xs
  unfolding filter list_if
  filter_all true [] = refl
  filter_all true (x ∷ xs) = ap (λ ys. x ∷ ys) (filter_all true xs)
  filter_all false [] = refl
  filter_all false (x ∷ xs) = filter_all false xs

  -- all pass, or none
  pub filter_const : (b : Bool) (f : A → Bool) (xs : List A) → ((x : A) → x ∈ xs → f x ≡ b) → filter f xs ≡ list_if b xs
  filter_const b f xs h = filter_same f (λ _. b) xs h ∙ filter_all b xs

  filter_none : (f : A → Bool) (xs ys : List A) → ((y : A) → y ∈ ys → f y ≡ false) → filter f (xs ++ ys) ≡ filter f xs
  unfolding list_if
  filter_none f xs ys h = filter_append f xs ys ∙ rw (filter_const false f ys h, list_if) (append-nil _)

-- ---- origins are named: which of the variables pass a test

with_variables_append : (os ps vs : List Origin) → with_variables (os ++ ps) vs ≡ with_variables ps (with_variables os vs)
unfolding with_variables fold
with_variables_append [] ps vs = refl
with_variables_append (o ∷ os) ps vs = with_variables_append os ps (with_variable o vs)

module _ (f : Origin → Bool) where
  filter_unnamed : (os vs : List Origin) → ((x : Origin) → x ∈ os → f x ≡ false) → filter f (with_variables os vs) ≡ filter f vs
  unfolding with_variables fold with_variable snoc
  filter_unnamed [] vs h = refl
  filter_unnamed (o ∷ os) vs h =
      filter_unnamed os (with_variable o vs) (λ x m. h x (Memᴰ.tail m))
      ∙ unless_cases (λ us. filter f us ≡ filter f vs) _ _ vs (λ _. refl)
      (λ _. filter_none f vs (o ∷ []) (λ x m. rw (Memᴰ.eq_of_singleton m) (h o (Memᴰ.head refl))))

  filter_added : (b : Bool) (y : Origin) (vs : List Origin) → f y ≡ true → known vs y ≡ false
      → filter f (with_variables (list_if b (y ∷ [])) vs) ≡ filter f vs ++ list_if b (y ∷ [])
  unfolding with_variables fold with_variable list_if snoc unless
  filter_added true y vs e u = rw (u, unless) (filter_append f vs (y ∷ []) ∙ ap (λ ys. filter f vs ++ ys) (filter_pass f y e))
  filter_added false y vs e u = sym (append-nil _)

  -- those that pass are named again, and one more of them, if at all
  filter_named : (b : Bool) (y : Origin) (vs : List Origin) → f y ≡ true → known vs y ≡ false
      → filter f (with_variables (filter f vs ++ list_if b (y ∷ [])) vs) ≡ filter f vs ++ list_if b (y ∷ [])
  filter_named b y vs e u =
      rw (with_variables_append (filter f vs) (list_if b (y ∷ [])) vs, unchanged (filter f vs) vs (λ x m. in_known vs (of_filter f vs m).0))
      (filter_added b y vs e u)

-- ---- one part more: one helper more, if they are too few

-- part k, the first being part 0, wants a helper of its own
abbrev wants_helper : ℕ → Bool
wants_helper k = ltb (2 ^ helpers_for k) (suc k)

helpers_next : (n k : ℕ) → helpers_of n (suc k) ≡ helpers_of n k ++ list_if (wants_helper k) (forbid n (helpers_for k) ∷ [])
unfolding helpers_of helpers_for helpers_after
helpers_next n k = go (wants_helper k) (helpers_for k)
  where
    go : (b : Bool) (h : ℕ) → map (forbid n) (up_to 0 (cond b (suc h) h)) ≡ map (forbid n) (up_to 0 h) ++ list_if b (forbid n h ∷ [])
    go true h = unfold list_if in ap (map (forbid n)) (up_to_end 0 h) ∙ (map-append (forbid n) (up_to 0 h) ((0 + h) ∷ []) ∙ rw (zero-add h))
    go false h = unfold list_if in sym (append-nil _)

-- the same, of the helpers' variables
with_helper_law : (f : Origin → ℕ) (n k : ℕ) (xs : List ℕ) → length xs ≡ k
    → with_helper xs (map f (helpers_of n k)) (f (forbid n (helpers_for k))) ≡ map f (helpers_of n (suc k))
unfolding with_helper helpers_for helpers_after
with_helper_law f n k xs e = rw (e, helpers_length n k f, helpers_next n k, more (wants_helper k) (helpers_for k)) (go (wants_helper k) (forbid n (helpers_for k)))
  where
    more : (b : Bool) (h : ℕ) → ltb h (cond b (suc h) h) ≡ b
    more true h = lt-ltb h (suc h) (omega arith)
    more false h = le-ltb h h (omega arith)

    go : (b : Bool) (y : Origin) → cond b (map f (helpers_of n k) ++ (f y ∷ [])) (map f (helpers_of n k)) ≡ map f (helpers_of n k ++ list_if b (y ∷ []))
    go true y = unfold list_if in sym (map-append f (helpers_of n k) (y ∷ []))
    go false y = unfold list_if in rw (append-nil (helpers_of n k))

-- the helper that the next part may want is not there yet
next_unknown : (n k : ℕ) (us : List Origin) → filter (helper_of n) us ≡ helpers_of n k → known us (forbid n (helpers_for k)) ≡ false
unfolding helper_of
next_unknown n k us e =
    by_cases (known us (forbid n (helpers_for k)))
    (λ q. absurd (beyond (of_helpers n k (rw (← e) (in_filter (helper_of n) us (of_known us q) (eq-eqb n n refl))))))
    (λ q. q)
  where
    beyond : (j : ℕ) × (j < helpers_for k) × (forbid n j ≡ forbid n (helpers_for k)) → ⊥
    beyond r = let l = r.1 in let q = r.2 in let same : r.0 ≡ helpers_for k = cc in omega arith

-- ---- a task makes no helper and no forbid clause

asks_none : {c : Catalogue} {t : Task} {x : Origin} (n : ℕ) → Asks c t x → helper_of n x ≡ false
unfolding helper_of
asks_none n for_owner = refl
asks_none n (for_gate e) = refl
asks_none n (for_violation e) = refl
asks_none n (for_one e i r m) = refl

module _ (c : Catalogue) (old new vs : List Origin) (n : ℕ) where
  abbrev Other : Clause → Type 0
  Other k = forbid_of vs n k ≡ false

  requirement_none : (f : Shape) (o : Owner) (g : Goal) (q : ℕ) (is : List ℕ) → All Other (requirement_clauses c old new f o g q is)
  unfolding requirement_clauses forbid_of
  requirement_none direct o g q is = (refl, tt)
  requirement_none through_gate o g q is = all_append Other (list_if _ _) _ (all_list_if Other _ _ (λ _. (refl, tt))) (refl, tt)
  requirement_none on_firing o g q is = all_map Other _ is (λ i m. refl)

  constraint_none : (b : Bool) (o : Owner) (r : ℕ) → All Other (constraint_clauses c old new b o r)
  unfolding constraint_clauses forbid_of
  constraint_none true o r = all_map Other _ (non_matching c r) (λ p m. refl)
  constraint_none false o r = all_append Other (list_if _ _) _ (all_list_if Other _ _ (λ _. all_map Other _ (non_matching c r) (λ p m. refl))) (refl, tt)

  task_none : (t : Task) → All Other (task_clauses c old new t)
  unfolding task_clauses forbid_of
  task_none (owner root) = tt
  task_none (owner (part p)) = all_list_if Other _ _ (λ _. (refl, tt))
  task_none (name m) = all_append Other (map _ (locked_out c m)) _ (all_map Other _ (locked_out c m) (λ p i. refl)) (all_map Other _ (excluded_parts c m) (λ p i. refl))
  task_none (condition q) = tt
  task_none (requirement q is) = requirement_none (shape_of c q) _ _ q is
  task_none (constraint k) = constraint_none _ _ (constraint_range c k)

-- ---- more variables, and clauses of other kinds or names

module _ {c : Catalogue} {log : List Task} {before : ℕ} {tracked : List ℕ} {vs : List Origin} {ks : List Clause}
    (e : Encoded c log before tracked vs ks) (n : ℕ) where
  clause_moved : {ws : List Origin} → Prefix vs ws → (k : Clause) → k ∈ ks → forbid_of ws n k ≡ forbid_of vs n k
  unfolding forbid_of literals
  clause_moved p install m = refl
  clause_moved p (requires o ls ps) m = refl
  clause_moved p (gated g ps) m = refl
  clause_moved p (excluded x q w) m = refl
  clause_moved p (constrains o q) m = refl
  clause_moved p (Clause.forbid x l) m =
      let below = every_literal_below e m (Memᴰ.tail (Memᴰ.head refl)) in
      rw p.is (ap (helper_of n) (get_or-append vs p.more (chosen root) l.variable below))
  clause_moved p (aux_out q v) m = refl
  clause_moved p (aux_owner o v) m = refl
  clause_moved p (lock q) m = refl
  clause_moved p (any_gate g o) m = refl
  clause_moved p (any_one y q) m = refl

  joins_moved : {ws : List Origin} → Prefix vs ws → HelpersOf c tracked vs ks n → JoinsOf ws ks n (tracked_of c n tracked)
  joins_moved {ws} p h =
      let ps = tracked_of c n tracked in
      rw (
        map_same (part_variable ws) (part_variable vs) ps (λ q m. same _ (e.numbered.named_known (by_joining (of_tracked_of c n tracked m).0))),
        map_same (variable_of ws) (variable_of vs) (helpers_of n (length ps)) (λ x m. same x (in_known vs (of_filter (helper_of n) vs (rw h.variables m)).0)),
        filter_same (forbid_of ws n) (forbid_of vs n) ks (clause_moved p),
      ) h.clauses
    where
      same : (x : Origin) → known vs x ≡ true → variable_of ws x ≡ variable_of vs x
      same x q = (keeps_variable p x q).1

  pub others_made : (os : List Origin) (added : List Clause) → ((x : Origin) → x ∈ os → helper_of n x ≡ false)
      → filter (forbid_of (with_variables os vs) n) added ≡ [] → HelpersOf c tracked vs ks n → HelpersOf c tracked (with_variables os vs) (ks ++ added) n
  others_made os added u v h = record {
    variables = filter_unnamed (helper_of n) os vs u ∙ h.variables;
    clauses = rw (filter_append (forbid_of (with_variables os vs) n) ks added, v, append-nil (filter _ ks)) (joins_moved (with_variables_prefix os vs) h);
  }

-- ---- every event

module _ {c : Catalogue} {log : List Task} {before : ℕ} {tracked : List ℕ} {vs : List Origin} {ks : List Clause}
    (e : Encoded c log before tracked vs ks) where
  pub served_helpers : (t : Task) (n : ℕ) → HelpersOf c tracked vs ks n
      → HelpersOf c tracked (with_variables (task_origins c t) vs) (ks ++ task_clauses c vs (with_variables (task_origins c t) vs) t) n
  unfolding list_if
  served_helpers t n =
      let ws = with_variables (task_origins c t) vs in
      others_made e n (task_origins c t) _ (λ x m. asks_none n (asks c t m)) (filter_const false _ _ (λ k m. all_in _ _ (task_none c vs ws ws n t) m))

  -- part p joins the tracked parts
  module _ (p : ℕ) where
    abbrev own : ℕ
    own = name_of c p

    abbrev earlier : List ℕ
    earlier = tracked_of c own tracked

    abbrev named : List Origin
    named = origins c (joins p earlier)

    abbrev ws : List Origin
    ws = with_variables named vs

    abbrev helpers : List ℕ
    helpers = map (variable_of ws) (helpers_of own (suc (length earlier)))

    abbrev bits : List Clause
    bits = join_clauses (map (part_variable ws) earlier) (part_variable ws p) helpers

    abbrev stored : List Clause
    stored = ks ++ clauses c vs ws before (joins p earlier)

    helper_stands : (j : ℕ) → j < helpers_for (suc (length earlier)) → get_or ws (variable_of ws (forbid own j)) (chosen root) ≡ forbid own j
    unfolding origins
    helper_stands j l = (stands ws (forbid own j) (chosen root) (with_variables_known named vs _ (Memᴰ.tail (in_helpers own _ j l)))).1

    -- the new clauses are over helpers of the part's name
    bit_of : (n : ℕ) (k : Clause) → k ∈ bits → forbid_of ws n k ≡ eqb own n
    unfolding forbid_of helper_of
    bit_of n k m =
        let b = join_only (map (part_variable ws) earlier) (part_variable ws p) helpers m in
        let l : b.helper < helpers_for (suc (length earlier)) = rw (helpers_length own (suc (length earlier)) (variable_of ws)) at b.helper_below in
        let at = helpers_place own (suc (length earlier)) (variable_of ws) b.helper l in
        rw b.is (ap (λ y. helper_of n (get_or ws y (chosen root))) at ∙ ap (helper_of n) (helper_stands b.helper l))

    link_none : (b : Bool) (n : ℕ) (k : Clause) → k ∈ list_if b (any_one (variable_of ws (one own)) (part_variable ws p) ∷ []) → forbid_of ws n k ≡ false
    unfolding forbid_of
    link_none b n k m = rw (Memᴰ.eq_of_singleton (of_list_if b _ m).1)

    joined_clauses_law : (n : ℕ) → filter (forbid_of ws n) (clauses c vs ws before (joins p earlier)) ≡ list_if (eqb own n) bits
    unfolding clauses
    joined_clauses_law n = filter_none (forbid_of ws n) bits _ (link_none _ n) ∙ filter_const (eqb own n) (forbid_of ws n) bits (bit_of n)

    -- ---- for its own name

    own_length : length (tracked_of c own (tracked ++ (p ∷ []))) ≡ suc (length earlier)
    own_length = ap length (own_name c tracked p) ∙ length_snoc earlier p

    module _ (h : HelpersOf c tracked vs ks own) where
      own_variables : filter (helper_of own) ws ≡ helpers_of own (suc (length earlier))
      unfolding origins with_variables fold helper_of
      own_variables =
          let us = with_variables (part_origin p ∷ []) vs in
          let part_none = filter_unnamed (helper_of own) (part_origin p ∷ []) vs (λ x m. rw (Memᴰ.eq_of_singleton m)) in
          let old : filter (helper_of own) us ≡ helpers_of own (length earlier) = part_none ∙ h.variables in
          rw (helpers_next own (length earlier), ← old)
          (filter_named (helper_of own) (wants_helper (length earlier)) _ us (eq-eqb own own refl) (next_unknown own _ us old))

      own_joins : JoinsOf ws stored own (tracked_of c own (tracked ++ (p ∷ [])))
      unfolding list_if
      own_joins =
          let xs = map (part_variable ws) earlier in
          let j = another (part_variable ws p) (variable_of ws (forbid own (helpers_for (length earlier)))) (joins_moved e own (with_variables_prefix named vs) h) in
          rw (own_name c tracked p, map-append (part_variable ws) earlier (p ∷ []), length_snoc earlier p)
          (rw (filter_append (forbid_of ws own) ks _, joined_clauses_law own, eq-eqb own own refl)
          (rw (with_helper_law (variable_of ws) own (length earlier) xs (length-map earlier (part_variable ws))) at j))

      at_own : HelpersOf c (tracked ++ (p ∷ [])) ws stored own
      at_own = record { variables = own_variables ∙ ap (helpers_of own) (sym own_length); clauses = own_joins }

    -- ---- for any name

    module _ (n : ℕ) (q : eqb own n ≡ false) where
      others_named : (x : Origin) → x ∈ named → helper_of n x ≡ false
      unfolding origins helper_of
      others_named x m = ⊎_elim (λ i. rw i) (λ i. let r = of_helpers own _ i in rw (← r.2) q) (Memᴰ.cases_cons m)

      at_other : HelpersOf c tracked vs ks n → tracked_of c n (tracked ++ (p ∷ [])) ≡ tracked_of c n tracked → HelpersOf c (tracked ++ (p ∷ [])) ws stored n
      unfolding list_if
      at_other h i =
          let o = others_made e n named _ others_named (joined_clauses_law n ∙ ap (λ b. list_if b bits) q) h in
          record { variables = rw i o.variables; clauses = rw i o.clauses }

      not_own : own ≡ n → ⊥
      not_own i = true≢false (sym (eq-eqb own n i) ∙ q)

    pub joined_helpers : (n : ℕ) → ((m : ℕ) → HelpersOf c tracked vs ks m)
        → HelpersOf c (tracked ++ (p ∷ [])) (with_variables (origins c (joins p (tracked_of c (name_of c p) tracked))) vs) stored n
    joined_helpers n h =
        by_cases (eqb own n) (λ q. rw (← (eqb-true own n q)) (at_own (h own)))
        (λ q. ⊎_elim (λ i. absurd (not_own n q i)) (at_other n q (h n)) (other_name c n tracked p))
