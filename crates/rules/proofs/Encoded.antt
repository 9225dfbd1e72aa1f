-- The stored clauses are exactly those of the tasks served so far and of the tracked parts, and the variables exactly those that they name:
-- so at the start, and kept by serving a task. Every literal of a stored clause has a variable.
use mathlib.Core.Path.{◌≡◌, refl, sym, ◌∙◌}
use mathlib.Core.Logic.{◌⊎◌, inl, inr, ⊎_elim}
use mathlib.Core.Bool.{true}
use mathlib.Core.List.Memᴰ
use mathlib.Core.List.{List, [], ◌∷◌, ◌++◌}
use Prim.Native.Nat.{ℕ, ◌<◌, ◌≤◌}
use native.Mathlib.Nat.{le_refl, le_trans, not-suc-le-zero}
use lib.ListN.{length, get_or}
use Rattle.rules.specs.Lists.{filter, index_of}
use Rattle.rules.specs.Literal.{Literal}
use Rattle.rules.specs.Clause.{Clause, install, any_one, literals}
use Rattle.rules.specs.AtMostOne.{bit, helpers_for, agrees}
use Rattle.rules.specs.Catalogue.{root, Goal, Catalogue}
use Rattle.rules.specs.Variables.{Origin, chosen, forbid, one, violation, gate, key, same_key, known, variable_of, with_variables, part_origin, part_variable}
use Rattle.rules.specs.Opening.{Task, tracked_of}
use Rattle.rules.specs.Encoding.{task_origins, task_clauses}
use Rattle.rules.specs.State.{start, State, Run}
use Rattle.rules.specs.Run.{serve_task}
use Rattle.rules.specs.Called.{◌∈◌}
use Rattle.rules.proofs.Grows.{Prefix, with_variables_prefix, prefix_length}
use Rattle.rules.proofs.Places.{stands, keeps_variable, with_variables_known}
use Rattle.rules.proofs.Known.{known_or_named, below_known, in_known, of_known}
use Rattle.rules.proofs.MemberLaws.{last_in, all_in}
use Rattle.rules.proofs.ListLaws.{All}
use Rattle.rules.proofs.TrackedOf.{of_tracked_of, tracked_place}
use Rattle.rules.proofs.Stable.{same_clauses, Below, task_below}
use Rattle.rules.proofs.Asked.{Asks, asks, Shared, of_gate, of_violation, task_whole, task_once, gate_own, violation_own}
use Rattle.rules.proofs.EmitLaws.{serve_task_variables, serve_task_clauses}
use Rattle.rules.proofs.Membership.{before_or_end}

-- ---- the origins that have a variable

abbrev pub helper_count : Catalogue → List ℕ → ℕ → ℕ
helper_count c tracked n = helpers_for (length (tracked_of c n tracked))

pub data Named (c : Catalogue) (log : List Task) (tracked : List ℕ) : Origin → Type 0 where
  by_start : Named c log tracked (chosen root)
  by_task : {t : Task} {x : Origin} → t ∈ log → x ∈ task_origins c t → Named c log tracked x
  by_joining : {p : ℕ} → p ∈ tracked → Named c log tracked (part_origin p)
  as_helper : (n : ℕ) {j : ℕ} → j < helper_count c tracked n → Named c log tracked (forbid n j)

-- the named origins have variables, and no other has one
pub record Numbered (c : Catalogue) (log : List Task) (tracked : List ℕ) (vs : List Origin) : Type 0 where
  pub root_first : variable_of vs (chosen root) ≡ 0
  pub named_known : {x : Origin} → Named c log tracked x → known vs x ≡ true
  pub known_named : (x : Origin) → known vs x ≡ true → Named c log tracked x

-- ---- the clauses that are stored

-- part i of the tracked parts of name n agrees with bit j of i
abbrev pub bit_clause : Catalogue → List ℕ → List Origin → (n i j : ℕ) → Clause
bit_clause c tracked vs n i j = agrees (part_variable vs (get_or (tracked_of c n tracked) i 0)) (variable_of vs (forbid n j)) (bit j i)

abbrev pub one_clause : List Origin → (n p : ℕ) → Clause
one_clause vs n p = any_one (variable_of vs (one n)) (part_variable vs p)

-- the one-of-name variable of this name is among the first `before` variables
pub record Linked (before : ℕ) (vs : List Origin) (n : ℕ) : Type 0 where
  pub is_known : known vs (one n) ≡ true
  pub older : variable_of vs (one n) < before

-- A gate's and a violation's own clauses are those of each task that asks for it: `task_clauses c []`.
pub data Source (c : Catalogue) (log : List Task) (before : ℕ) (tracked : List ℕ) (vs : List Origin) : Clause → Type 0 where
  of_start : Source c log before tracked vs install
  of_task : {t : Task} {k : Clause} → t ∈ log → k ∈ task_clauses c [] vs t → Source c log before tracked vs k
  of_bit : (n i j : ℕ) → i < length (tracked_of c n tracked) → j < helper_count c tracked n → Source c log before tracked vs (bit_clause c tracked vs n i j)
  of_one : {n p : ℕ} → Linked before vs n → p ∈ tracked_of c n tracked → Source c log before tracked vs (one_clause vs n p)

pub record Stored (c : Catalogue) (log : List Task) (before : ℕ) (tracked : List ℕ) (vs : List Origin) (ks : List Clause) : Type 0 where
  pub only : {k : Clause} → k ∈ ks → Source c log before tracked vs k
  pub every : {k : Clause} → Source c log before tracked vs k → k ∈ ks

-- `log`: the tasks served. `before`: one-of-name clauses are there for the variables below it; between two runs that is all of them.
pub record Encoded (c : Catalogue) (log : List Task) (before : ℕ) (tracked : List ℕ) (vs : List Origin) (ks : List Clause) : Type 0 where
  pub numbered : Numbered c log tracked vs
  pub within : before ≤ length vs
  pub stored : Stored c log before tracked vs ks

-- ---- the start

start_named : (c : Catalogue) {x : Origin} → Named c [] [] x → x ≡ chosen root
unfolding tracked_of filter helpers_for
start_named c by_start = refl
start_named c (by_task m i) = absurd (Memᴰ.not-nil m)
start_named c (by_joining m) = absurd (Memᴰ.not-nil m)
start_named c (as_helper n l) = absurd (not-suc-le-zero l)

start_source : (c : Catalogue) {vs : List Origin} {k : Clause} → Source c [] 1 [] vs k → k ≡ install
unfolding tracked_of filter
start_source c of_start = refl
start_source c (of_task m i) = absurd (Memᴰ.not-nil m)
start_source c (of_bit n i j l h) = absurd (not-suc-le-zero l)
start_source c (of_one r m) = absurd (Memᴰ.not-nil m)

pub start_encoded : (c : Catalogue) → Encoded c [] 1 [] start.variables start.clauses
unfolding variable_of index_of same_key key
start_encoded c = record {
  numbered = record {
    root_first = refl;
    named_known = λ m. in_known start.variables (Memᴰ.head (start_named c m));
    known_named = λ x e. rw (Memᴰ.eq_of_singleton (of_known start.variables e)) by_start;
  };
  within = le_refl 1;
  stored = record { only = λ m. rw (Memᴰ.eq_of_singleton m) of_start; every = λ s. Memᴰ.head (start_source c s) };
}

-- ---- more variables: what is stored keeps its variables

module _ (c : Catalogue) (log : List Task) (before : ℕ) (tracked : List ℕ) where
  source_moved : {vs ws : List Origin} → ((x : Origin) → Named c log tracked x → variable_of ws x ≡ variable_of vs x)
      → ((n : ℕ) → Linked before vs n → Linked before ws n × (variable_of ws (one n) ≡ variable_of vs (one n)))
      → {k : Clause} → Source c log before tracked vs k → Source c log before tracked ws k
  source_moved same ones of_start = of_start
  source_moved {vs} {ws} same ones (of_task {t} m i) = of_task m (rw (← (same_clauses c vs ws [] t (λ x o. same x (by_task m o)))) at i)
  source_moved {vs} {ws} same ones (of_bit n i j l h) =
      rw (← (same _ (by_joining (tracked_place c n tracked i l))), ← (same _ (as_helper n h))) (of_bit n i j l h)
  source_moved {vs} {ws} same ones (of_one {n} {p} r m) =
      let q = ones n r in
      rw (← q.1, ← (same _ (by_joining (of_tracked_of c n tracked m).0))) (of_one q.0 m)

  pub stored_moved : {vs ws : List Origin} {ks : List Clause} → Prefix vs ws → Numbered c log tracked vs → before ≤ length vs
      → Stored c log before tracked vs ks → Stored c log before tracked ws ks
  stored_moved {vs} {ws} p n w s = record { only = λ m. source_moved forth forth_one (s.only m); every = λ k. s.every (source_moved back back_one k) }
    where
      forth : (x : Origin) → Named c log tracked x → variable_of ws x ≡ variable_of vs x
      forth x m = (keeps_variable p x (n.named_known m)).1

      back : (x : Origin) → Named c log tracked x → variable_of vs x ≡ variable_of ws x
      back x m = sym (forth x m)

      forth_one : (m : ℕ) → Linked before vs m → Linked before ws m × (variable_of ws (one m) ≡ variable_of vs (one m))
      forth_one m l = let k = keeps_variable p (one m) l.is_known in (record { is_known = k.0; older = rw k.1 l.older }, k.1)

      -- a one-of-name variable made since is not below `before`
      back_one : (m : ℕ) → Linked before ws m → Linked before vs m × (variable_of vs (one m) ≡ variable_of ws (one m))
      back_one m l =
          let e = below_known p (one m) (le_trans l.older w) in
          let k = keeps_variable p (one m) e in
          (record { is_known = e; older = rw (← k.1) l.older }, sym k.1)

-- ---- a step: what it names and adds is what is asked for after it and not before

module _ {c : Catalogue} {log log' : List Task} {tracked tracked' : List ℕ} where
  pub numbered_step : {vs : List Origin} (os : List Origin) → Numbered c log tracked vs
      → ((x : Origin) → Named c log tracked x → Named c log' tracked' x)
      → ((x : Origin) → x ∈ os → Named c log' tracked' x)
      → ((x : Origin) → Named c log' tracked' x → Named c log tracked x ⊎ (x ∈ os))
      → Numbered c log' tracked' (with_variables os vs)
  numbered_step {vs} os n old new split = record {
    root_first = (keeps_variable grown (chosen root) (n.named_known by_start)).1 ∙ n.root_first;
    named_known = λ m. ⊎_elim (λ m. (keeps_variable grown _ (n.named_known m)).0) (λ i. with_variables_known os vs _ i) (split _ m);
    known_named = λ x e. ⊎_elim (λ e. old x (n.known_named x e)) (new x) (known_or_named os vs x e);
  }
    where
      grown : Prefix vs (with_variables os vs)
      grown = with_variables_prefix os vs

  pub stored_step : {before before' : ℕ} {vs : List Origin} {ks added : List Clause} → Stored c log before tracked vs ks
      → ((k : Clause) → Source c log before tracked vs k → Source c log' before' tracked' vs k)
      → ((k : Clause) → k ∈ added → Source c log' before' tracked' vs k)
      → ((k : Clause) → Source c log' before' tracked' vs k → Source c log before tracked vs k ⊎ (k ∈ added))
      → Stored c log' before' tracked' vs (ks ++ added)
  stored_step {ks = ks} {added = added} s old new split = record {
    only = λ m. ⊎_elim (λ m. old _ (s.only m)) (new _) (Memᴰ.append_cases ks m);
    every = λ k. ⊎_elim (λ k. Memᴰ.append_left added (s.every k)) (Memᴰ.append_right ks) (split _ k);
  }

-- ---- a gate, violation or one-of-name variable is there because a served task asks for it

pub record AskedFor (c : Catalogue) (log : List Task) (x : Origin) : Type 0 where
  pub task : Task
  pub in_log : task ∈ log
  pub asked : Asks c task x

asked_for : {c : Catalogue} {log : List Task} {t : Task} {x : Origin} → t ∈ log → x ∈ task_origins c t → AskedFor c log x
asked_for {c} {t = t} m i = record { task = t; in_log = m; asked = asks c t i }

module _ {c : Catalogue} {log : List Task} {tracked : List ℕ} where
  named_gate : {g : Goal} → Named c log tracked (gate g) → AskedFor c log (gate g)
  named_gate (by_task m i) = asked_for m i

  named_violation : {r : ℕ} → Named c log tracked (violation r) → AskedFor c log (violation r)
  named_violation (by_task m i) = asked_for m i

  named_one : {n : ℕ} → Named c log tracked (one n) → AskedFor c log (one n)
  named_one (by_task m i) = asked_for m i

module _ {c : Catalogue} {log : List Task} {tracked : List ℕ} {vs : List Origin} (v : Numbered c log tracked vs) where
  pub gate_from : (g : Goal) → known vs (gate g) ≡ true → AskedFor c log (gate g)
  gate_from g e = named_gate (v.known_named (gate g) e)

  pub violation_from : (r : ℕ) → known vs (violation r) ≡ true → AskedFor c log (violation r)
  violation_from r e = named_violation (v.known_named (violation r) e)

  pub one_from : (n : ℕ) → known vs (one n) ≡ true → AskedFor c log (one n)
  one_from n e = named_one (v.known_named (one n) e)

  -- so its own clauses are those of that task
  shared : {before : ℕ} {ws : List Origin} {k : Clause} → Shared c vs ws k → Source c log before tracked ws k
  shared {ws = ws} (of_gate g e) = let a = gate_from g e in of_task a.in_log (gate_own c ws a.asked)
  shared {ws = ws} (of_violation r e m) = let a = violation_from r e in of_task a.in_log (violation_own c ws a.asked m)

-- ---- a task is served

module _ (c : Catalogue) (log : List Task) (before : ℕ) (tracked : List ℕ) (t : Task) where
  served_named : (x : Origin) → Named c log tracked x → Named c (log ++ (t ∷ [])) tracked x
  served_named x by_start = by_start
  served_named x (by_task m i) = by_task (Memᴰ.append_left (t ∷ []) m) i
  served_named x (by_joining m) = by_joining m
  served_named x (as_helper n l) = as_helper n l

  named_served : (x : Origin) → Named c (log ++ (t ∷ [])) tracked x → Named c log tracked x ⊎ (x ∈ task_origins c t)
  named_served x by_start = inl by_start
  named_served x (by_task m i) = ⊎_elim (λ m. inl (by_task m i)) (λ q. inr (rw q at i)) (before_or_end log m)
  named_served x (by_joining m) = inl (by_joining m)
  named_served x (as_helper n l) = inl (as_helper n l)

  served_source : {vs : List Origin} (k : Clause) → Source c log before tracked vs k → Source c (log ++ (t ∷ [])) before tracked vs k
  served_source k of_start = of_start
  served_source k (of_task m i) = of_task (Memᴰ.append_left (t ∷ []) m) i
  served_source k (of_bit n i j l h) = of_bit n i j l h
  served_source k (of_one r m) = of_one r m

  source_served : {vs : List Origin} → Numbered c log tracked vs → {ws : List Origin} (k : Clause) → Source c (log ++ (t ∷ [])) before tracked ws k
      → Source c log before tracked ws k ⊎ (k ∈ task_clauses c vs ws t)
  source_served n k of_start = inl of_start
  source_served {vs} n {ws} k (of_task m i) =
      ⊎_elim (λ m. inl (of_task m i)) (λ q. ⊎_elim inr (λ s. inl (shared n s)) (task_once c vs ws t (rw q at i))) (before_or_end log m)
  source_served n k (of_bit m i j l h) = inl (of_bit m i j l h)
  source_served n k (of_one r m) = inl (of_one r m)

  pub serve_encoded : {vs : List Origin} {ks : List Clause} → Encoded c log before tracked vs ks
      → Encoded c (log ++ (t ∷ [])) before tracked (with_variables (task_origins c t) vs) (ks ++ task_clauses c vs (with_variables (task_origins c t) vs) t)
  serve_encoded {vs} e =
      let p = with_variables_prefix (task_origins c t) vs in
      record {
        numbered = numbered_step (task_origins c t) e.numbered served_named (λ x i. by_task (last_in log) i) named_served;
        within = le_trans e.within (prefix_length p);
        stored =
            stored_step (stored_moved c log before tracked p e.numbered e.within e.stored) served_source (λ k i. of_task (last_in log) (task_whole c vs _ t i))
            (source_served e.numbered);
      }

pub serve_task_encoded : (c : Catalogue) (r : Run) (t : Task) (s : State) {log : List Task} {tracked : List ℕ}
    → Encoded c log r.before tracked s.variables s.clauses
    → Encoded c (log ++ (t ∷ [])) r.before tracked (serve_task c r t s).variables (serve_task c r t s).clauses
serve_task_encoded c r t s e = rw (serve_task_variables c r t s, serve_task_clauses c r t s) (serve_encoded c _ r.before _ t e)

-- ---- between two runs every one-of-name variable has its clauses

pub one_stored : {c : Catalogue} {log : List Task} {tracked : List ℕ} {vs : List Origin} {ks : List Clause} → Encoded c log (length vs) tracked vs ks
    → (n : ℕ) {p : ℕ} → known vs (one n) ≡ true → p ∈ tracked_of c n tracked → one_clause vs n p ∈ ks
one_stored {vs = vs} e n k m = e.stored.every (of_one (record { is_known = k; older = (stands vs (one n) (chosen root) k).0 }) m)

-- ---- every literal has a variable

module _ {c : Catalogue} {log : List Task} {tracked : List ℕ} {vs : List Origin} (v : Numbered c log tracked vs) where
  named_below : {x : Origin} → Named c log tracked x → variable_of vs x < length vs
  named_below {x} m = (stands vs x (chosen root) (v.named_known m)).0

  -- "Variable 0 is the root"
  pub root_stands : (d : Origin) → (0 < length vs) × (get_or vs 0 d ≡ chosen root)
  root_stands d = rw v.root_first at (stands vs (chosen root) d (v.named_known by_start))

  source_below : {before : ℕ} {k : Clause} → Source c log before tracked vs k → All (Below (length vs)) (literals k)
  unfolding literals
  source_below of_start = ((root_stands (chosen root)).0, tt)
  source_below (of_task {t} m i) = all_in _ _ (task_below c [] vs (length vs) (root_stands (chosen root)).0 t (λ x o. named_below (by_task m o))) i
  source_below (of_bit n i j l h) = (named_below (by_joining (tracked_place c n tracked i l)), (named_below (as_helper n h), tt))
  source_below (of_one {n} r i) = ((stands vs (one n) (chosen root) r.is_known).0, (named_below (by_joining (of_tracked_of c n tracked i).0), tt))

pub every_literal_below : {c : Catalogue} {log : List Task} {before : ℕ} {tracked : List ℕ} {vs : List Origin} {ks : List Clause}
    → Encoded c log before tracked vs ks → {k : Clause} → k ∈ ks → {l : Literal} → l ∈ literals k → l.variable < length vs
every_literal_below {vs = vs} e {k} m i = all_in (Below (length vs)) (literals k) (source_below e.numbered (e.stored.only m)) i
