-- A rule is taken for each record, and the four rules together serve a known owner.
use mathlib.Core.Path.{◌≡◌, refl, sym, ◌∙◌, ap}
use mathlib.Core.Bool.{Bool, true, false, ◌&&◌}
use mathlib.Core.List.{List, [], ◌∷◌, map}
use Prim.Native.Nat.{ℕ, ◌+◌, ◌<◌, ◌≤◌}
use native.Mathlib.Omega.{arith}
use lib.ListN.{length}
use Rattle.rules.specs.Lists.{filter, concat_map, fold, when, unless, up_to}
use Rattle.rules.specs.Catalogue.{Owner, Catalogue, constraint_at, owner_at, range_name, same_owner, unknown_owner}
use Rattle.rules.specs.Candidates.{requirements_of, constraints_of}
use Rattle.rules.specs.Conditions.{unconditional}
use Rattle.rules.specs.Opening.{Task, constraint, Opening, queue, open_name, open_names, ranges_of, ranges_first, task_by, tasks_of, serve_owner}
use Rattle.rules.proofs.DistinctEnough.{fold_append, fold_map, fold_concat_map}
use Rattle.rules.proofs.ListLaws.{up_to_last}
use Rattle.tables.specs.declared.Counts.{Counts}
use Rattle.cache.specs.Areas.{catalogue}
use Rattle.cache.proofs.Laws.{requirements_held, constraints_held}
use Rattle.encoder.specs.declared.State.{State}
use Rattle.encoder.specs.Held.{Reading}
use Rattle.encoder.specs.Did.{on_opening}
use Rattle.encoder.specs.Does.{StateDoes, IsGood}
use Rattle.encoder.proofs.Does.{does_same, does_then, does_none, good_then}
use Rattle.owners.specs.declared.Rule.{Rule}
use Rattle.owners.specs.declared.Rule.TheVariants.{OpenRequirement, OpenConstraint, QueueRequirement, QueueConstraint}
use Rattle.owners.specs.Owners.{rule_of, count_of, cardinal}

-- ---- how many records there are for a rule

counted : (k : Counts) (m us t : List ℕ) (w : Rule) → count_of (catalogue k m us t) w ≡ cardinal k w
unfolding count_of cardinal
counted k m us t OpenRequirement = requirements_held k m us t
counted k m us t OpenConstraint = constraints_held k m us t
counted k m us t QueueRequirement = requirements_held k m us t
counted k m us t QueueConstraint = constraints_held k m us t

pub rule_taken : {c : Catalogue} {w w' : Rule} (o : Owner) (i : ℕ) {x x' : State} → w ≡ w' → StateDoes c (λ v. on_opening (rule_of c v w' o i)) x x'
    → StateDoes c (λ v. on_opening (rule_of c v w o i)) x x'
rule_taken o i e d = does_same d (λ v s. rw e)

-- ---- one record after another

pub fold_last : {S : Type 0} (f : ℕ → S → S) (i : ℕ) (s : S) → f i (fold f (up_to 0 i) s) ≡ fold f (up_to 0 (i + 1)) s
fold_last f i s = rw (up_to_last i, fold_append f (up_to 0 i) (i ∷ []) s) (unfold fold in refl)

fold_none : {S : Type 0} (f : ℕ → S → S) (s : S) → fold f (up_to 0 0) s ≡ s
unfolding fold up_to
fold_none f s = refl

-- the loop at record i
pub record Ruled (c : Catalogue) (w : Rule) (o : Owner) (count : ℕ) (x₀ : State) (i : ℕ) (x : State) : Type 0 where
  pub most : i ≤ count
  pub good : IsGood c x
  pub does : StateDoes c (λ v. on_opening (fold (rule_of c v w o) (up_to 0 i))) x₀ x

module _ {c : Catalogue} {w : Rule} {o : Owner} {count : ℕ} where
  pub ruled_start : {x : State} → IsGood c x → Ruled c w o count x 0 x
  ruled_start g = record { most = omega arith; good = g; does = does_none (λ v s. unfold on_opening in rw (fold_none (rule_of c v w o) s.opening)) }

  pub ruled_step : {x₀ x x' : State} {i : ℕ} → Ruled c w o count x₀ i x → i < count → StateDoes c (λ v. on_opening (rule_of c v w o i)) x x' → Ruled c w o count x₀ (i + 1) x'
  ruled_step {i = i} r h d =
      record {
        most = omega arith;
        good = good_then d r.good;
        does = does_same (does_then r.does d) (λ v s. unfold on_opening in rw (fold_last (rule_of c v w o) i s.opening));
      }

pub ruled_end : (k : Counts) (m us t : List ℕ) {w : Rule} {o : Owner} {count i : ℕ} {x₀ x : State} → Ruled (catalogue k m us t) w o count x₀ i x → count ≤ i → count ≡ cardinal k w
    → StateDoes (catalogue k m us t) (λ v. on_opening (fold (rule_of (catalogue k m us t) v w o) (up_to 0 (count_of (catalogue k m us t) w)))) x₀ x
ruled_end k m us t {w = w} {i = i} r h e =
    let p = r.most in
    let is : count_of (catalogue k m us t) w ≡ i = omega (arith, counted k m us t w) in
    does_same r.does (λ v s. rw is)

-- ---- the four rules

module _ {A S : Type 0} where
  fold_filter : (f : A → S → S) (p : A → Bool) (xs : List A) (s : S) → fold f (filter p xs) s ≡ fold (λ x. when (p x) (f x)) xs s
  unfolding fold filter
  fold_filter f p [] s = refl
  fold_filter f p (x ∷ xs) s = go (p x) (fold_filter f p xs)
    where
      go : (b : Bool) → ((s : S) → fold f (filter p xs) s ≡ fold (λ y. when (p y) (f y)) xs s)
          → fold f (elim b [ true ↦ x ∷ filter p xs | false ↦ filter p xs ]) s ≡ fold (λ y. when (p y) (f y)) xs (when b (f x) s)
      go true h = unfold fold when in h (f x s)
      go false h = unfold when in h s

  fold_as : (f g : A → S → S) → ((x : A) (s : S) → f x s ≡ g x s) → (xs : List A) (s : S) → fold f xs s ≡ fold g xs s
  unfolding fold
  fold_as f g e [] s = refl
  fold_as f g e (x ∷ xs) s = ap (fold f xs) (e x s) ∙ fold_as f g e xs (g x s)

when_both : {S : Type 0} (a b : Bool) (f : S → S) (s : S) → when a (when b f) s ≡ when (a && b) f s
unfolding when
when_both true b f s = refl
when_both false b f s = refl

module _ (c : Catalogue) (v : Reading) (w : Owner) where
  abbrev rules : Rule → Opening → Opening
  rules x = fold (rule_of c v x w) (up_to 0 (count_of c x))

  open_requirements : (s : Opening) → rules OpenRequirement s ≡ open_names c (concat_map (ranges_of c) (filter (unconditional c) (requirements_of c w))) s
  unfolding open_names requirements_of count_of
  open_requirements s =
      let us = up_to 0 (length c.requirements) in
      let mine : ℕ → Bool = λ q. same_owner w (owner_at c q) in
      let opens : ℕ → Opening → Opening = λ r. open_name (range_name c r) in
      let each : ℕ → Opening → Opening = λ q. fold opens (ranges_of c q) in
      sym (fold_concat_map opens (ranges_of c) (filter (unconditional c) (filter mine us)) s
      ∙ (fold_filter each (unconditional c) (filter mine us) s
      ∙ (fold_filter (λ q. when (unconditional c q) (each q)) mine us s
      ∙ fold_as (λ q. when (mine q) (when (unconditional c q) (each q))) (rule_of c v OpenRequirement w)
      (λ q u. unfold rule_of open_names in when_both (mine q) (unconditional c q) (each q) u) us s)))

  open_constraints : (s : Opening) → rules OpenConstraint s ≡ open_names c (map (λ (i : ℕ). (constraint_at c i).range) (constraints_of c w)) s
  unfolding open_names constraints_of count_of
  open_constraints s =
      let us = up_to 0 (length c.constraints) in
      let mine : ℕ → Bool = λ i. same_owner w (constraint_at c i).owner in
      let range : ℕ → ℕ = λ i. (constraint_at c i).range in
      let opens : ℕ → Opening → Opening = λ r. open_name (range_name c r) in
      sym (fold_map opens range (filter mine us) s
      ∙ (fold_filter (λ i. opens (range i)) mine us s
      ∙ fold_as (λ i. when (mine i) (opens (range i))) (rule_of c v OpenConstraint w) (λ i u. unfold rule_of in refl) us s))

  queues_requirements : (s : Opening) → rules QueueRequirement s ≡ fold queue (map (λ q. task_by c (unconditional c q) q) (requirements_of c w)) s
  unfolding requirements_of count_of
  queues_requirements s =
      let us = up_to 0 (length c.requirements) in
      let mine : ℕ → Bool = λ q. same_owner w (owner_at c q) in
      let task : ℕ → Task = λ q. task_by c (unconditional c q) q in
      sym (fold_map queue task (filter mine us) s
      ∙ (fold_filter (λ q. queue (task q)) mine us s
      ∙ fold_as (λ q. when (mine q) (queue (task q))) (rule_of c v QueueRequirement w) (λ q u. unfold rule_of in refl) us s))

  queues_constraints : (s : Opening) → rules QueueConstraint s ≡ fold queue (map constraint (constraints_of c w)) s
  unfolding constraints_of count_of
  queues_constraints s =
      let us = up_to 0 (length c.constraints) in
      let mine : ℕ → Bool = λ i. same_owner w (constraint_at c i).owner in
      sym (fold_map queue constraint (filter mine us) s
      ∙ (fold_filter (λ i. queue (constraint i)) mine us s
      ∙ fold_as (λ i. when (mine i) (queue (constraint i))) (rule_of c v QueueConstraint w) (λ i u. unfold rule_of in refl) us s))

  opens_first : (s : Opening) → rules OpenConstraint (rules OpenRequirement s) ≡ open_names c (ranges_first c w) s
  unfolding ranges_first
  opens_first s = rw (open_requirements s, open_constraints) (unfold open_names in sym (fold_append (λ (r : ℕ). open_name (range_name c r)) _ _ s))

  queues_then : (s : Opening) → rules QueueConstraint (rules QueueRequirement s) ≡ fold queue (tasks_of c w) s
  unfolding tasks_of
  queues_then s = rw (queues_requirements s, queues_constraints) (sym (fold_append queue _ _ s))

  serves_known : unknown_owner c w ≡ false → (s : Opening)
      → rules QueueConstraint (rules QueueRequirement (rules OpenConstraint (rules OpenRequirement s))) ≡ serve_owner c w s
  unfolding serve_owner unless
  serves_known e s = rw (e, opens_first s) (queues_then (open_names c (ranges_first c w) s))

pub known_served : {c : Catalogue} (w : Owner) {x x₁ x₂ x₃ x₄ : State} → unknown_owner c w ≡ false
    → StateDoes c (λ v. on_opening (fold (rule_of c v OpenRequirement w) (up_to 0 (count_of c OpenRequirement)))) x x₁
    → StateDoes c (λ v. on_opening (fold (rule_of c v OpenConstraint w) (up_to 0 (count_of c OpenConstraint)))) x₁ x₂
    → StateDoes c (λ v. on_opening (fold (rule_of c v QueueRequirement w) (up_to 0 (count_of c QueueRequirement)))) x₂ x₃
    → StateDoes c (λ v. on_opening (fold (rule_of c v QueueConstraint w) (up_to 0 (count_of c QueueConstraint)))) x₃ x₄
    → StateDoes c (λ v. on_opening (serve_owner c w)) x x₄
known_served {c} w e a b d f =
    does_same (does_then (does_then (does_then a b) d) f) (λ v s. unfold on_opening in rw (serves_known c v w e s.opening))
