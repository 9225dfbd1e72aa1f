-- The clauses of an event: each literal has a variable, and of those that a clause can set none makes the root or a part true.
use mathlib.Core.Path.{◌≡◌, refl}
use mathlib.Core.Bool.{Bool, true, false, false≢true}
use mathlib.Core.List.Memᴰ
use mathlib.Core.List.{[], ◌∷◌, ◌++◌, List, map, Memᴰ}
use Prim.Native.Nat.{ℕ, suc, ◌<◌, ◌≤◌}
use native.Mathlib.Omega.{arith}
use lib.ListN.{length, get_or, length-append, get_or-append}
use borrow.Author.Tests.{ltb-true}
use Rattle.rules.specs.Lists.{concat_map, list_if, up_to}
use Rattle.rules.specs.Literal.{Literal, pos, neg}
use Rattle.rules.specs.Clause.{Reason, Clause, requires, gated, excluded, constrains, aux_out, aux_owner, lock, any_gate, any_one, literals}
use Rattle.rules.specs.AtMostOne.{helpers_for, agrees, helper_clauses, helpers_clauses, part_clauses, join_clauses}
use Rattle.rules.specs.Catalogue.{Owner, root, part, Goal, Catalogue, range_name, name_of, owner_at, goal_at}
use Rattle.rules.specs.Candidates.{non_matching, candidates, locked_part, locked_out, excluded_parts}
use Rattle.rules.specs.Conditions.{disjunct_at}
use Rattle.rules.specs.Variables.{part_variable, Origin, chosen, forbid, one, violation, gate, known, variable_of, with_variables, part_origin}
use Rattle.rules.specs.Opening.{Task, owner, name, condition, requirement, constraint}
use Rattle.rules.specs.Encoding.{Event, served, joins, links, Shape, direct, through_gate, on_firing, helpers_of, shape_of}
use Rattle.rules.specs.Encoding.{range_literals, disjunct_literals, requirement_clauses, constraint_clauses, task_clauses, clauses}
use Rattle.rules.specs.Encoding.{range_origins, disjunct_origins, shape_origins, constraint_origins, task_origins, origins}
use Rattle.rules.proofs.Each.{Each, each_append, each_imp, each_left, each_right, each_drop, each_list_if, each_map, each_in}
use Rattle.rules.proofs.Grows.{Prefix, prefix_length, with_variables_prefix}
use Rattle.rules.proofs.Places.{stands, keeps_variable, below_known, with_variables_known}
use Rattle.rules.proofs.Effects.{settable}
use Rattle.rules.proofs.RunLaws.{Known, earlier}

-- the root's or a part's
abbrev pub is_chosen : Origin → Bool
is_chosen (chosen o) = true
is_chosen (forbid n j) = false
is_chosen (one n) = false
is_chosen (violation r) = false
is_chosen (gate g) = false

abbrev pub Exists : List Origin → Literal → Type 0
Exists vs l = l.variable < length vs

-- what a clause may set: nothing but a helper (forbid, one-of-name, violation, gate) to true
pub record Settable (vs : List Origin) (l : Literal) : Type 0 where
  pub below : Exists vs l
  pub no_owner : l.positive ≡ true → is_chosen (get_or vs l.variable (chosen root)) ≡ false

pub record WellMade (vs : List Origin) (k : Clause) : Type 0 where
  pub exist : Each (Exists vs) (literals k)
  pub sets : Each (Settable vs) (settable k)

settable_after : {vs ws : List Origin} {l : Literal} → Prefix vs ws → Settable vs l → Settable ws l
settable_after {vs} {ws} {l} g m =
    record {
      below = rw (g.is, length-append vs g.more) (omega (arith, m.below));
      no_owner = λ t. rw (g.is, get_or-append vs g.more (chosen root) l.variable m.below) (m.no_owner t);
    }

pub well_made_after : {vs ws : List Origin} {k : Clause} → Prefix vs ws → WellMade vs k → WellMade ws k
well_made_after g m =
    let longer = prefix_length g in
    record { exist = each_imp (λ l h. omega arith) m.exist; sets = each_imp (λ l. settable_after g) m.sets }

-- ---- a clause of each word

module _ (vs : List Origin) where
  -- an origin with a variable: it may be set to false, and a helper to both
  has : (o : Origin) → known vs o ≡ true → variable_of vs o < length vs
  has o e = (stands vs o o e).0

  to_false : (o : Origin) → known vs o ≡ true → Settable vs (neg (variable_of vs o))
  to_false o e = record { below = has o e; no_owner = λ t. absurd (false≢true t) }

  helper : (o : Origin) → is_chosen o ≡ false → known vs o ≡ true → (b : Bool) → Settable vs (record { variable = variable_of vs o; positive = b })
  helper o n e b = let p = stands vs o (chosen root) e in record { below = p.0; no_owner = λ t. rw p.1 n }

  excluded_made : (o : Origin) (p : ℕ) (why : Reason) → known vs o ≡ true → WellMade vs (excluded (variable_of vs o) p why)
  unfolding literals settable
  excluded_made o p why e = record { exist = Each.cons (has o e) Each.nil; sets = Each.nil }

  lock_made : (o : Origin) → known vs o ≡ true → WellMade vs (lock (variable_of vs o))
  unfolding literals settable
  lock_made o e = let h = has o e in record { exist = Each.cons {x = neg 0} (omega arith) (Each.cons h Each.nil); sets = Each.nil }

  constrains_made : (o p : Origin) → known vs o ≡ true → known vs p ≡ true → WellMade vs (constrains (variable_of vs o) (variable_of vs p))
  unfolding literals settable
  constrains_made o p e f = record { exist = Each.cons (has o e) (Each.cons (has p f) Each.nil); sets = Each.nil }

  out_made : (p : Origin) (r : ℕ) → known vs p ≡ true → known vs (violation r) ≡ true → WellMade vs (aux_out (variable_of vs p) (variable_of vs (violation r)))
  unfolding literals settable
  out_made p r e f =
      let v = helper (violation r) refl f true in
      record { exist = Each.cons (has p e) (Each.cons v.below Each.nil); sets = Each.cons v Each.nil }

  owner_made : (o v : Origin) → known vs o ≡ true → known vs v ≡ true → WellMade vs (aux_owner (variable_of vs o) (variable_of vs v))
  unfolding literals settable
  owner_made o v e f = record { exist = Each.cons (has o e) (Each.cons (has v f) Each.nil); sets = Each.nil }

  requires_made : (o : Origin) {ks : List Literal} {ps : List ℕ} → known vs o ≡ true → Each (Exists vs) ks → Each (λ x. x < length vs) ps
      → WellMade vs (requires (variable_of vs o) ks ps)
  unfolding literals settable
  requires_made o e h k = record { exist = Each.cons (has o e) (each_append h (each_map pos _ k)); sets = Each.nil }

  gated_made : (o : Origin) {ps : List ℕ} → known vs o ≡ true → Each (λ x. x < length vs) ps → WellMade vs (gated (variable_of vs o) ps)
  unfolding literals settable
  gated_made o e k = record { exist = Each.cons (has o e) (each_map pos _ k); sets = Each.cons (to_false o e) Each.nil }

  any_gate_made : (g : Goal) (o : Origin) → known vs (gate g) ≡ true → known vs o ≡ true → WellMade vs (any_gate (variable_of vs (gate g)) (variable_of vs o))
  unfolding literals settable
  any_gate_made g o e f =
      let on = helper (gate g) refl e true in
      record { exist = Each.cons on.below (Each.cons (has o f) Each.nil); sets = Each.cons on (Each.cons (to_false o f) Each.nil) }

  any_one_made : (n : ℕ) (p : Origin) → known vs (one n) ≡ true → known vs p ≡ true → WellMade vs (any_one (variable_of vs (one n)) (variable_of vs p))
  unfolding literals settable
  any_one_made n p e f =
      let on = helper (one n) refl e true in
      record { exist = Each.cons on.below (Each.cons (has p f) Each.nil); sets = Each.cons on Each.nil }

-- ---- joins

abbrev Part : List Origin → ℕ → Type 0
Part vs x = Settable vs (neg x)

abbrev Helper : List Origin → ℕ → Type 0
Helper vs y = (b : Bool) → Settable vs (record { variable = y; positive = b })

module _ {vs : List Origin} where
  agrees_made : {x y : ℕ} (b : Bool) → Part vs x → Helper vs y → WellMade vs (agrees x y b)
  unfolding literals settable
  agrees_made b p h = record { exist = Each.cons p.below (Each.cons (h b).below Each.nil); sets = Each.cons p (Each.cons (h b) Each.nil) }

  helper_made : {y : ℕ} (j i : ℕ) {xs : List ℕ} → Helper vs y → Each (Part vs) xs → Each (WellMade vs) (helper_clauses y j i xs)
  unfolding helper_clauses
  helper_made j i h Each.nil = Each.nil
  helper_made j i h (Each.cons p ps) = Each.cons (agrees_made _ p h) (helper_made j (suc i) h ps)

  helpers_made : (j : ℕ) {ys xs : List ℕ} → Each (Helper vs) ys → Each (Part vs) xs → Each (WellMade vs) (helpers_clauses j ys xs)
  unfolding helpers_clauses
  helpers_made j Each.nil ps = Each.nil
  helpers_made j (Each.cons h hs) ps = each_append (helper_made j 0 h ps) (helpers_made (suc j) hs ps)

  part_made : {x : ℕ} (i j : ℕ) {ys : List ℕ} → Part vs x → Each (Helper vs) ys → Each (WellMade vs) (part_clauses x i j ys)
  unfolding part_clauses
  part_made i j p Each.nil = Each.nil
  part_made i j p (Each.cons h hs) = Each.cons (agrees_made _ p h) (part_made i (suc j) p hs)

  join_made : {xs : List ℕ} {x : ℕ} {ys : List ℕ} → Each (Part vs) xs → Part vs x → Each (Helper vs) ys → Each (WellMade vs) (join_clauses xs x ys)
  unfolding join_clauses
  join_made {xs} ps p hs = each_append (helpers_made _ (each_drop (helpers_for (length xs)) hs) ps) (part_made (length xs) 0 p hs)

-- ---- each task: `new` are the variables after it

-- these origins have variables
abbrev Named : List Origin → List Origin → Type 0
Named vs os = (o : Origin) → Memᴰ o os → known vs o ≡ true

listed : {b : Bool} {o : Origin} {os : List Origin} → b ≡ true → Memᴰ o os → Memᴰ o (list_if b os)
unfolding list_if
listed e m = rw (e, list_if) m

module _ (c : Catalogue) (old new : List Origin) where
  named_parts : (ps : List ℕ) → Named new (map part_origin ps) → Known new ps
  named_parts ps k = each_in ps (λ p m. k (part_origin p) (Memᴰ.map part_origin m))

  -- one clause, or one variable, for each of these parts
  for_parts : (f : ℕ → Clause) (ps : List ℕ) → Known new ps → ((p : ℕ) → known new (part_origin p) ≡ true → WellMade new (f p)) → Each (WellMade new) (map f ps)
  for_parts f ps k h = each_map f ps (each_imp h k)

  parts_have : (ps : List ℕ) → Known new ps → Each (λ x. x < length new) (map (part_variable new) ps)
  parts_have ps k = each_map _ ps (each_imp (λ p e. has new (part_origin p) e) k)

  range_exists : (n : ℕ) (ps : List ℕ) → Named new (range_origins n ps) → Each (Exists new) (range_literals new n ps)
  unfolding range_origins range_literals
  range_exists n [] k = Each.cons (has new (one n) (k _ (Memᴰ.head refl))) Each.nil
  range_exists n (p ∷ ps) k =
      each_map (λ q. pos (part_variable new q)) (p ∷ ps) (each_imp (λ q e. has new (part_origin q) e) (named_parts (p ∷ ps) k))

  disjunct_exists : (d : List ℕ) → Named new (disjunct_origins c d) → Each (Exists new) (disjunct_literals c new d)
  unfolding disjunct_origins disjunct_literals concat_map
  disjunct_exists [] k = Each.nil
  disjunct_exists (r ∷ d) k =
      let first = range_origins (range_name c r) (non_matching c r) in
      each_append (range_exists _ _ (λ o m. k o (Memᴰ.append_left _ m))) (disjunct_exists d (λ o m. k o (Memᴰ.append_right first m)))

  module _ (q : ℕ) (w : known new (chosen (owner_at c q)) ≡ true) (h : Known new (candidates c (goal_at c q))) where
    candidates_have : Each (λ x. x < length new) (map (part_variable new) (candidates c (goal_at c q)))
    candidates_have = parts_have (candidates c (goal_at c q)) h

    fired_made : (is : List ℕ) → Named new (shape_origins c on_firing q is)
        → Each (WellMade new) (requirement_clauses c old new on_firing (owner_at c q) (goal_at c q) q is)
    unfolding requirement_clauses shape_origins concat_map
    fired_made [] k = Each.nil
    fired_made (i ∷ is) k =
        let first = disjunct_origins c (disjunct_at c q i) in
        let literals = disjunct_exists (disjunct_at c q i) (λ o m. k o (Memᴰ.append_left _ m)) in
        Each.cons (requires_made new _ w literals candidates_have) (fired_made is (λ o m. k o (Memᴰ.append_right first m)))

    requirement_made : (x : Shape) (is : List ℕ) → Named new (shape_origins c x q is)
        → Each (WellMade new) (requirement_clauses c old new x (owner_at c q) (goal_at c q) q is)
    unfolding requirement_clauses shape_origins
    requirement_made direct is k = Each.cons (requires_made new _ w Each.nil candidates_have) Each.nil
    requirement_made through_gate is k =
        let g = k (gate (goal_at c q)) (Memᴰ.head refl) in
        each_append (each_list_if _ _ (λ e. Each.cons (gated_made new _ g candidates_have) Each.nil)) (Each.cons (any_gate_made new _ _ g w) Each.nil)
    requirement_made on_firing is k = fired_made is k

  constraint_made : (o : Owner) → known new (chosen o) ≡ true → (b : Bool) (r : ℕ) → Named new (constraint_origins c b r)
      → Each (WellMade new) (constraint_clauses c old new b o r)
  unfolding constraint_clauses constraint_origins
  constraint_made o w true r k = for_parts _ (non_matching c r) (named_parts _ k) (λ p e. constrains_made new _ _ w e)
  constraint_made o w false r k =
      let v = k (violation r) (Memᴰ.head refl) in
      let outs = for_parts _ (non_matching c r) (named_parts _ (λ o m. k o (Memᴰ.tail m))) (λ p e. out_made new _ r e v) in
      each_append (each_list_if _ _ (λ e. outs)) (Each.cons (owner_made new _ _ w v) Each.nil)

  task_made : (t : Task) → Named new (task_origins c t) → Each (WellMade new) (task_clauses c old new t)
  unfolding task_clauses task_origins
  task_made (owner root) k = Each.nil
  task_made (owner (part p)) k = each_list_if _ _ (λ e. Each.cons (excluded_made new _ p _ (k _ (listed e (Memᴰ.head refl)))) Each.nil)
  task_made (name n) k =
      let parts = named_parts (locked_part c n ++ (locked_out c n ++ excluded_parts c n)) k in
      let out = each_right (locked_part c n) parts in
      each_append (for_parts _ (locked_out c n) (each_left (locked_out c n) _ out) (λ p e. lock_made new _ e))
      (for_parts _ (excluded_parts c n) (each_right (locked_out c n) out) (λ p e. excluded_made new _ p _ e))
  task_made (condition q) k = Each.nil
  task_made (requirement q is) k =
      let first = map part_origin (candidates c (goal_at c q)) in
      requirement_made q (k _ (Memᴰ.head refl)) (named_parts _ (λ o m. k o (Memᴰ.tail (Memᴰ.append_left _ m))))
      (shape_of c q) is (λ o m. k o (Memᴰ.tail (Memᴰ.append_right first m)))
  task_made (constraint i) k = constraint_made _ (k _ (Memᴰ.head refl)) _ _ (λ o m. k o (Memᴰ.tail m))

-- ---- each event

helpers_may : (vs : List Origin) (n k : ℕ) → Named vs (helpers_of n k) → Each (λ o. Helper vs (variable_of vs o)) (helpers_of n k)
unfolding helpers_of
helpers_may vs n k h = each_map (forbid n) (up_to 0 _) (each_in (up_to 0 _) (λ j m. helper vs (forbid n j) refl (h (forbid n j) (Memᴰ.map (forbid n) m))))

module _ (c : Catalogue) (before : ℕ) {old new : List Origin} (g : Prefix old new) (b : before ≤ length old) where
  -- a variable with a number below `before` was there when the run began
  old_known : (o : Origin) → variable_of new o < before → known new o ≡ true
  old_known o l = below_known new o (omega (arith, prefix_length g))

  joins_made : (p : ℕ) (ps : List ℕ) → Named new (origins c (joins p ps)) → Known old ps → Each (WellMade new) (clauses c old new before (joins p ps))
  unfolding clauses origins
  joins_made p ps k h =
      let own = k (part_origin p) (Memᴰ.head refl) in
      let parts = each_map (part_variable new) ps (each_imp (λ q e. to_false new (part_origin q) (keeps_variable g (part_origin q) e).0) h) in
      let helpers = each_map (variable_of new) (helpers_of (name_of c p) _) (helpers_may new (name_of c p) _ (λ o m. k o (Memᴰ.tail m))) in
      each_append (join_made parts (to_false new (part_origin p) own) helpers)
      (each_list_if _ _ (λ e. Each.cons (any_one_made new (name_of c p) _ (old_known _ (ltb-true _ _ e)) own) Each.nil))

  links_made : (n : ℕ) (ps : List ℕ) → Named new (origins c (links n ps)) → Each (WellMade new) (clauses c old new before (links n ps))
  unfolding clauses origins
  links_made n ps k = for_parts c old new _ ps (named_parts c old new ps (λ o m. k o (Memᴰ.tail m))) (λ p e. any_one_made new n _ (k _ (Memᴰ.head refl)) e)

pub event_made : (c : Catalogue) (before : ℕ) (e : Event) (vs : List Origin) → before ≤ length vs → Known vs (earlier e)
    → Each (WellMade (with_variables (origins c e) vs)) (clauses c vs (with_variables (origins c e) vs) before e)
event_made c before (served t) vs b k = unfold clauses origins in task_made c vs _ t (with_variables_known (task_origins c t) vs)
event_made c before (joins p ps) vs b k = joins_made c before (with_variables_prefix _ vs) b p ps (with_variables_known _ vs) (unfold earlier in k)
event_made c before (links n ps) vs b k = links_made c before (with_variables_prefix _ vs) b n ps (with_variables_known _ vs)
