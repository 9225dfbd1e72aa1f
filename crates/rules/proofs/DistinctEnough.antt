-- Repeats may be passed over: a step that changes nothing once it has been done, and whose doing later steps keep, may be taken for each distinct
-- element once. So the distinct candidates name the same variables, are named for tracking, opened and tested as the candidates with repeats are.
use mathlib.Core.Path.{◌≡◌, refl, sym, ◌∙◌, ap}
use mathlib.Core.Logic.{⊎_elim}
use mathlib.Core.Bool.{Bool, true, false, ◌&&◌, ◌||◌, cond, true≢false}
use mathlib.Core.List.Memᴰ
use mathlib.Core.List.{List, [], ◌∷◌, ◌++◌, map}
use Prim.Native.Nat.{ℕ}
use lib.Dec.{eqb}
use borrow.Author.Tests.{eq-eqb}
use Rattle.rules.specs.Lists.{any, all, elem, snoc, concat_map, fold, unless, distinct}
use Rattle.rules.specs.Literal.{Literal, pos}
use Rattle.rules.specs.Catalogue.{Owner, part, Goal, Catalogue, part_at, name_of, range_name, owner_at, goal_at, same_owner}
use Rattle.rules.specs.Candidates.{sorted, goal_ranges, candidates}
use Rattle.rules.specs.Decisions.{Decision, evaluate, is_falsified, all_false}
use Rattle.rules.specs.Variables.{Origin, chosen, known, with_variable, with_variables, part_origin}
use Rattle.rules.specs.Encoding.{shape_of, shape_origins, task_origins}
use Rattle.rules.specs.Opening.{requirement, mark_handled, fired_parts, serve_requirement, Opening, queue, open_owner, open_name, open_names, name_for_tracking, open_ready}
use Rattle.rules.proofs.Bools.{by_cases, or_true, or_right, same_test}
use Rattle.rules.proofs.Member.{all_out, all_in}
use Rattle.rules.proofs.ListLaws.{any_snoc}
use Rattle.rules.proofs.Membership.{◌⊆◌, ⊆-snoc, at_end, in_left, in_right, in_either, before_or_end, any_in, any_out, elem_in, elem_out, map_in, map_out, when_either, unless_either, fold_keeps, fold_gives, distinct_in}
use Rattle.rules.specs.Called.{◌∈◌}
use Rattle.rules.proofs.Grows.{with_variable_prefix}
use Rattle.rules.proofs.Places.{keeps_variable, with_variable_known}
use Rattle.rules.proofs.Known.{known_again}
use Rattle.rules.proofs.Ends.{owner_self}

-- ---- the general law

pub fold_append : {A S : Type 0} (f : A → S → S) (xs ys : List A) (s : S) → fold f (xs ++ ys) s ≡ fold f ys (fold f xs s)
unfolding fold
fold_append f [] ys s = refl
fold_append f (x ∷ xs) ys s = fold_append f xs ys (f x s)

pub fold_map : {A B S : Type 0} (f : B → S → S) (g : A → B) (xs : List A) (s : S) → fold f (map g xs) s ≡ fold (λ x. f (g x)) xs s
unfolding fold
fold_map f g [] s = refl
fold_map f g (x ∷ xs) s = fold_map f g xs (f (g x) s)

-- `Done x s`: step x has been taken
pub record DoneOnce {A S : Type 0} (f : A → S → S) (Done : A → S → Type 0) : Type 0 where
  pub does : (x : A) (s : S) → Done x (f x s)
  pub keeps : (x y : A) (s : S) → Done x s → Done x (f y s)
  pub again : (x : A) (s : S) → Done x s → f x s ≡ s

pub step_again : {A S : Type 0} {f : A → S → S} {Done : A → S → Type 0} → DoneOnce f Done → (x : A) (xs : List A) (s : S) → x ∈ xs → f x (fold f xs s) ≡ fold f xs s
step_again {f = f} {Done = Done} d x xs s m = d.again x (fold f xs s) (fold_gives (Done x) f xs m (d.does x) (λ y u. d.keeps x y u) s)

-- the step of `distinct`
abbrev see : ℕ → List ℕ → List ℕ
see x seen = cond (elem x seen) seen (snoc seen x)

module _ {S : Type 0} {f : ℕ → S → S} {Done : ℕ → S → Type 0} (d : DoneOnce f Done) where
  see_step : (x : ℕ) (seen : List ℕ) (s : S) → fold f (see x seen) s ≡ f x (fold f seen s)
  see_step x seen s = by_cases (elem x seen) (λ e. rw e (sym (step_again d x seen s (elem_out x seen e)))) (λ e. rw e behind)
    where
      behind : fold f (snoc seen x) s ≡ f x (fold f seen s)
      behind = unfold snoc fold in fold_append f seen (x ∷ []) s

  seen_steps : (xs seen : List ℕ) (s : S) → fold f (fold see xs seen) s ≡ fold f xs (fold f seen s)
  unfolding fold
  seen_steps [] seen s = refl
  seen_steps (x ∷ xs) seen s = seen_steps xs (see x seen) s ∙ ap (fold f xs) (see_step x seen s)

  -- EACH DISTINCT ELEMENT ONCE IS ENOUGH
  pub distinct_enough : (xs : List ℕ) (s : S) → fold f xs s ≡ fold f (distinct xs) s
  unfolding distinct fold
  distinct_enough xs s = sym (seen_steps xs [] s)

-- ---- lists of lists: each distinct list once

pub fold_concat_map : {A B S : Type 0} (f : B → S → S) (g : A → List B) (xs : List A) (s : S) → fold f (concat_map g xs) s ≡ fold (λ x. fold f (g x)) xs s
unfolding fold concat_map
fold_concat_map f g [] s = refl
fold_concat_map f g (x ∷ xs) s = fold_append f (g x) (concat_map g xs) s ∙ fold_concat_map f g xs (fold f (g x) s)

module _ {A S : Type 0} {f : A → S → S} {Done : A → S → Type 0} (d : DoneOnce f Done) where
  all_again : (xs : List A) (s : S) → ((x : A) → x ∈ xs → Done x s) → fold f xs s ≡ s
  unfolding fold
  all_again [] s h = refl
  all_again (x ∷ xs) s h = rw (d.again x s (h x (Memᴰ.head refl))) (all_again xs s (λ y m. h y (Memᴰ.tail m)))

  pub lists_once : {B : Type 0} (g : B → List A) → DoneOnce (λ z. fold f (g z)) (λ z s. (x : A) → x ∈ g z → Done x s)
  lists_once g =
      record {
        does = λ z s x m. fold_gives (Done x) f (g z) m (d.does x) (λ y u. d.keeps x y u) s;
        keeps = λ z w s h x m. fold_keeps (Done x) f (g w) (λ y _ u. d.keeps x y u) s (h x m);
        again = λ z s h. all_again (g z) s h;
      }

  pub lists_distinct : (g : ℕ → List A) (ns : List ℕ) (s : S) → fold f (concat_map g ns) s ≡ fold f (concat_map g (distinct ns)) s
  lists_distinct g ns s = fold_concat_map f g ns s ∙ (distinct_enough (lists_once g) ns s ∙ sym (fold_concat_map f g (distinct ns) s))

-- the distinct elements of the lists of each, from the distinct lists
see_once : DoneOnce see (λ x seen. x ∈ seen)
see_once =
    record {
      does = λ x seen. by_cases (elem x seen) (λ e. rw e (elem_out x seen e)) (λ e. rw e (unfold snoc in at_end seen x));
      keeps = λ x y seen m. by_cases (elem y seen) (λ e. rw e m) (λ e. rw e (⊆-snoc seen y x m));
      again = λ x seen m. rw (elem_in seen m);
    }

pub distinct_lists : (g : ℕ → List ℕ) (ns : List ℕ) → distinct (concat_map g ns) ≡ distinct (concat_map g (distinct ns))
unfolding distinct
distinct_lists g ns = lists_distinct see_once g ns []

-- candidates: a range that a union names again names nothing new (READINGS.md, 25)
module _ (c : Catalogue) (g : Goal) where
  pub candidates_distinct : distinct (candidates c g) ≡ distinct (concat_map (sorted c) (distinct (goal_ranges c g)))
  unfolding candidates
  candidates_distinct = distinct_lists (sorted c) (goal_ranges c g)

  pub candidates_enough : {S : Type 0} {f : ℕ → S → S} {Done : ℕ → S → Type 0} → DoneOnce f Done → (s : S)
      → fold f (candidates c g) s ≡ fold f (concat_map (sorted c) (distinct (goal_ranges c g))) s
  unfolding candidates
  candidates_enough d s = lists_distinct d (sorted c) (goal_ranges c g) s

-- ---- variables

pub variables_once : (o : ℕ → Origin) → DoneOnce (λ p. with_variable (o p)) (λ p vs. known vs (o p) ≡ true)
variables_once o =
    record {
      does = λ p vs. with_variable_known (o p) vs;
      keeps = λ p q vs e. (keeps_variable (with_variable_prefix (o q) vs) (o p) e).0;
      again = λ p vs e. known_again (o p) vs e;
    }

pub variables_distinct : (o : ℕ → Origin) (ps : List ℕ) (vs : List Origin) → with_variables (map o ps) vs ≡ with_variables (map o (distinct ps)) vs
unfolding with_variables
variables_distinct o ps vs =
    fold_map with_variable o ps vs ∙ (distinct_enough (variables_once o) ps vs ∙ sym (fold_map with_variable o (distinct ps) vs))

-- ---- the opening

module _ {A : Type 0} (f : A → Bool) where
  any_last : (xs : List A) (x : A) → f x ≡ true → any f (snoc xs x) ≡ true
  any_last xs x e = rw (any_snoc f xs x, e) (or_true (any f xs))

  any_still : (xs : List A) (x : A) → any f xs ≡ true → any f (snoc xs x) ≡ true
  any_still xs x e = rw (any_snoc f xs x, e)

unless_skips : {S : Type 0} (b : Bool) (f : S → S) (s : S) → b ≡ true → unless b f s ≡ s
unfolding unless
unless_skips b f s e = rw e

either_still : (a b b' : Bool) → (b ≡ true → b' ≡ true) → (a || b) ≡ true → (a || b') ≡ true
either_still true b b' h e = refl
either_still false b b' h e = h e

module _ (c : Catalogue) where
  abbrev pub several_served : ℕ → Opening → Bool
  several_served p s = elem (name_of c p) s.several

  abbrev pub passed_over : ℕ → Opening → Bool
  passed_over p s = several_served p s || elem p s.named

  pub tracking_once : DoneOnce (name_for_tracking c) (λ p s. passed_over p s ≡ true)
  unfolding name_for_tracking
  tracking_once =
      record {
        does = λ p s. unless_either (λ u. passed_over p u ≡ true) _ _ s (λ e. e) (λ _. or_right (several_served p s) _ (any_last (eqb p) s.named p (eq-eqb p p refl)));
        keeps = λ p q s e. unless_either (λ u. passed_over p u ≡ true) _ _ s (λ _. e)
            (λ _. either_still (several_served p s) (elem p s.named) _ (any_still (eqb p) s.named q) e);
        again = λ p s e. unless_skips _ _ s e;
      }

  pub tracking_distinct : (ps : List ℕ) (o : Opening) → fold (name_for_tracking c) ps o ≡ fold (name_for_tracking c) (distinct ps) o
  tracking_distinct = distinct_enough tracking_once

  abbrev pub opened : Owner → Opening → Bool
  opened w s = any (same_owner w) s.owners

  opens : (w : Owner) (s : Opening) → opened w (open_owner w s) ≡ true
  unfolding open_owner queue
  opens w s = unless_either (λ u. opened w u ≡ true) _ _ s (λ e. e) (λ _. any_last (same_owner w) s.owners w (owner_self c w))

  stays_opened : (w v : Owner) (s : Opening) → opened w s ≡ true → opened w (open_owner v s) ≡ true
  unfolding open_owner queue
  stays_opened w v s e = unless_either (λ u. opened w u ≡ true) _ _ s (λ _. e) (λ _. any_still (same_owner w) s.owners v e)

  opened_again : (w : Owner) (s : Opening) → opened w s ≡ true → open_owner w s ≡ s
  unfolding open_owner
  opened_again w s e = unless_skips _ _ s e

  pub owners_once : DoneOnce open_owner (λ w s. any (same_owner w) s.owners ≡ true)
  owners_once = record { does = opens; keeps = stays_opened; again = opened_again }

  abbrev pub ReadyOpened : ℕ → Opening → Type 0
  ReadyOpened p s = (part_at c p).ready ≡ true → opened (part p) s ≡ true

  pub ready_once : DoneOnce (open_ready c) ReadyOpened
  unfolding open_ready
  ready_once =
      record {
        does = λ p s. when_either (ReadyOpened p) _ _ s (λ _ _. opens (part p) s) (λ n e. absurd (true≢false (sym e ∙ n)));
        keeps = λ p q s h. when_either (ReadyOpened p) _ _ s (λ _ e. stays_opened (part p) (part q) s (h e)) (λ _. h);
        again = λ p s h. when_either (λ u. u ≡ s) _ _ s (λ e. opened_again (part p) s (h e)) (λ _. refl);
      }

  pub ready_distinct : (ps : List ℕ) (o : Opening) → fold (open_ready c) ps o ≡ fold (open_ready c) (distinct ps) o
  ready_distinct = distinct_enough ready_once

  abbrev pub name_opened : ℕ → Opening → Bool
  name_opened r s = elem (range_name c r) s.names

  pub names_once : DoneOnce (λ r. open_name (range_name c r)) (λ r s. name_opened r s ≡ true)
  unfolding open_name queue
  names_once =
      record {
        does = λ r s. unless_either (λ u. name_opened r u ≡ true) _ _ s (λ e. e) (λ _. any_last _ s.names (range_name c r) (eq-eqb (range_name c r) _ refl));
        keeps = λ r q s e. unless_either (λ u. name_opened r u ≡ true) _ _ s (λ _. e) (λ _. any_still _ s.names (range_name c q) e);
        again = λ r s e. unless_skips _ _ s e;
      }

  pub names_distinct : (rs : List ℕ) (o : Opening) → open_names c rs o ≡ open_names c (distinct rs) o
  unfolding open_names
  names_distinct = distinct_enough names_once

-- ---- a requirement's task, by its distinct candidates

module _ (c : Catalogue) (q : ℕ) (is : List ℕ) where
  pub requirement_opening : (o : Opening) → serve_requirement c q is o
      ≡ fold (open_ready c) (distinct (candidates c (goal_at c q)))
      (fold (name_for_tracking c) (distinct (fired_parts c q is)) (fold (name_for_tracking c) (distinct (candidates c (goal_at c q))) (mark_handled q is o)))
  unfolding serve_requirement
  requirement_opening o =
      let ps = candidates c (goal_at c q) in
      let u = mark_handled q is o in
      rw (fold_append (name_for_tracking c) ps (fired_parts c q is) u, tracking_distinct c ps u, tracking_distinct c (fired_parts c q is) _) (ready_distinct c ps _)

  pub requirement_variables : (vs : List Origin) → with_variables (task_origins c (requirement q is)) vs
      ≡ with_variables (shape_origins c (shape_of c q) q is)
      (with_variables (map part_origin (distinct (candidates c (goal_at c q)))) (with_variable (chosen (owner_at c q)) vs))
  unfolding task_origins
  requirement_variables vs =
      let ps = candidates c (goal_at c q) in
      let us = with_variable (chosen (owner_at c q)) vs in
      rw (← variables_distinct part_origin ps us) (unfold with_variables fold in fold_append with_variable (map part_origin ps) (shape_origins c (shape_of c q) q is) us)

-- ---- tests

-- the distinct elements are the elements
pub distinct_out : (xs : List ℕ) → distinct xs ⊆ xs
unfolding distinct
distinct_out xs x m = fold_keeps (λ seen. seen ⊆ xs) _ xs (λ y k seen h. step y k seen h (elem y seen)) [] (λ y n. absurd (Memᴰ.not-nil n)) x m
  where
    step : (y : ℕ) → y ∈ xs → (seen : List ℕ) → seen ⊆ xs → (b : Bool) → cond b seen (snoc seen y) ⊆ xs
    step y k seen h true z n = h z n
    step y k seen h false z n = ⊎_elim (h z) (λ (e : z ≡ y). rw e k) (before_or_end seen (unfold snoc in n))

module _ {A : Type 0} (f : A → Bool) {xs ys : List A} (h : xs ⊆ ys) (k : ys ⊆ xs) where
  pub any_same : any f xs ≡ any f ys
  any_same =
      same_test (any f xs) (any f ys) (λ e. let p = any_out f xs e in any_in f ys (h p.0 p.1) p.2)
      (λ e. let p = any_out f ys e in any_in f xs (k p.0 p.1) p.2)

  pub all_same : all f xs ≡ all f ys
  all_same = same_test (all f xs) (all f ys) (λ e. all_in f ys (λ y m. all_out f xs e y (k y m))) (λ e. all_in f xs (λ x m. all_out f ys e x (h x m)))

-- there are literals, and all are decided false
all_false_is : (ds : List Decision) (ls : List Literal) → all_false ds ls ≡ (any (λ _. true) ls && all (λ (k : Literal). is_falsified (evaluate ds k)) ls)
unfolding all_false any all
all_false_is ds [] = refl
all_false_is ds (l ∷ ls) = refl

pub all_false_same : (ds : List Decision) {ls ks : List Literal} → ls ⊆ ks → ks ⊆ ls → all_false ds ls ≡ all_false ds ks
all_false_same ds {ls} {ks} h k = rw (all_false_is ds ls, all_false_is ds ks, any_same (λ _. true) h k, all_same (λ (x : Literal). is_falsified (evaluate ds x)) h k)

pub map-⊆ : {A B : Type 0} (f : A → B) {xs ys : List A} → xs ⊆ ys → map f xs ⊆ map f ys
map-⊆ f {xs} h y m = let p = map_out f xs m in rw p.2 (map_in f (h p.0 p.1))

pub append-⊆ : {A : Type 0} (zs : List A) {xs ys : List A} → xs ⊆ ys → (zs ++ xs) ⊆ (zs ++ ys)
append-⊆ zs {ys = ys} h x m = ⊎_elim (in_left ys) (λ n. in_right zs (h x n)) (in_either zs m)

module _ (ps : List ℕ) where
  pub any_distinct : (f : ℕ → Bool) → any f ps ≡ any f (distinct ps)
  any_distinct f = any_same f (distinct_in ps) (distinct_out ps)

  pub all_distinct : (f : ℕ → Bool) → all f ps ≡ all f (distinct ps)
  all_distinct f = all_same f (distinct_in ps) (distinct_out ps)

  -- of a `requires` clause: condition literals, then candidates
  pub all_false_distinct_after : (ds : List Decision) (ks : List Literal) (f : ℕ → ℕ)
      → all_false ds (ks ++ map pos (map f ps)) ≡ all_false ds (ks ++ map pos (map f (distinct ps)))
  all_false_distinct_after ds ks f =
      all_false_same ds (append-⊆ ks (map-⊆ pos (map-⊆ f (distinct_in ps)))) (append-⊆ ks (map-⊆ pos (map-⊆ f (distinct_out ps))))

  pub all_false_distinct : (ds : List Decision) (f : ℕ → ℕ) → all_false ds (map pos (map f ps)) ≡ all_false ds (map pos (map f (distinct ps)))
  all_false_distinct ds f = all_false_same ds (map-⊆ pos (map-⊆ f (distinct_in ps))) (map-⊆ pos (map-⊆ f (distinct_out ps)))
