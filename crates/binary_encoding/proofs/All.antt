-- All that join, and all that are linked, one after another: the rules' `join_all` and `link_all`.
use mathlib.Core.Path.{◌≡◌, refl, sym, ◌∙◌, ap}
use mathlib.Core.Bool.{Bool, true, false, not}
use mathlib.Core.List.Memᴰ
use mathlib.Core.List.{List, [], ◌∷◌, ◌++◌, map, map-append, append-nil, append_assoc}
use Prim.Native.Nat.{ℕ}
use lib.Dec.{eqb}
use lib.ListN.{drop}
use borrow.Author.Tests.{eqb-true, ne_eqb}
use Rattle.rules.specs.Lists.{filter, elem, snoc, concat_map, fold, when, distinct}
use Rattle.rules.specs.Called.{◌∈◌}
use Rattle.rules.specs.Catalogue.{Catalogue, name_of}
use Rattle.rules.specs.Variables.{Origin}
use Rattle.rules.specs.Opening.{Opening, set_tracked, joining, end_run, tracked_of}
use Rattle.rules.specs.Encoding.{Event, joins, links}
use Rattle.rules.specs.State.{State, set_opening, Run, emit, emit_all}
use Rattle.rules.specs.Run.{name_if_one, joins_from, links_for, join_all, link_all}
use Rattle.rules.proofs.Bools.{by_cases, or_none}
use Rattle.rules.proofs.ListLaws.{any_snoc, fold_every}
use Rattle.rules.proofs.Each.{when_cases}
use Rattle.rules.proofs.Membership.{Once, empty, once, once_filter, once_concat_map, filter_out, distinct_once}
use Rattle.rules.proofs.Line.{emit_opening}
use Rattle.rules.proofs.ClauseByClause.{effects_changed}
use Rattle.rules.proofs.DistinctEnough.{fold_append}
use Rattle.encoder.specs.Did.{on_opening}
use Rattle.tracking.specs.Joining.{tracking, join_step, join_if, join_name, join_names, forget_named}
use Rattle.binary_encoding.proofs.Joiners.{distinct_filter, without_idle}

-- ---- a one-of-name variable that is linked

unfoldable pub link_step : Run → ℕ → Catalogue → State → State
link_step r n c s = emit c r (links n (tracked_of c n s.opening.tracked)) s

-- an origin that is one-of-name is linked
unfoldable pub link_if : Run → Origin → Catalogue → State → State
link_if r o c s = fold (λ n. link_step r n c) (name_if_one o) s

-- ---- events, whatever the opening is

module _ (c : Catalogue) (r : Run) where
  emit_elsewhere : (o : Opening) (e : Event) (s : State) → emit c r e (set_opening o s) ≡ set_opening o (emit c r e s)
  unfolding emit
  emit_elsewhere o e s = effects_changed (λ _. o) (λ ks. ks) r _ _ _

  emits_elsewhere : (o : Opening) (es : List Event) (s : State) → emit_all c r es (set_opening o s) ≡ set_opening o (emit_all c r es s)
  unfolding emit_all fold
  emits_elsewhere o [] s = refl
  emits_elsewhere o (e ∷ es) s = ap (λ (u : State). fold (emit c r) es u) (emit_elsewhere o e s) ∙ emits_elsewhere o es (emit c r e s)

  -- ---- parts that join one after another

  module _ (p : ℕ) (s : State) where
    step_state : join_step r p c s ≡ set_opening (set_tracked (snoc s.opening.tracked p) s.opening) (emit c r (joins p (tracked_of c (name_of c p) s.opening.tracked)) s)
    unfolding join_step on_opening tracking
    step_state = rw (emit_opening c r (joins p (tracked_of c (name_of c p) s.opening.tracked)) s)

    step_tracked : (join_step r p c s).opening.tracked ≡ snoc s.opening.tracked p
    step_tracked = ap (λ (u : State). u.opening.tracked) step_state

    step_named : (join_step r p c s).opening.named ≡ s.opening.named
    step_named = ap (λ (u : State). u.opening.named) step_state

  steps_are : (ps : List ℕ) (s : State)
      → fold (λ p. join_step r p c) ps s ≡ set_opening (set_tracked (s.opening.tracked ++ ps) s.opening) (emit_all c r (joins_from c s.opening.tracked ps) s)
  unfolding fold joins_from emit_all
  steps_are [] s = rw (append-nil s.opening.tracked)
  steps_are (p ∷ ps) s =
      let ts = s.opening.tracked in
      let w = emit c r (joins p (tracked_of c (name_of c p) ts)) s in
      let o = set_tracked (snoc ts p) s.opening in
      let together : snoc ts p ++ ps ≡ ts ++ (p ∷ ps) = unfold snoc in append_assoc ts (p ∷ []) ps in
      ap (λ (u : State). fold (λ q. join_step r q c) ps u) (step_state p s)
      ∙ (steps_are ps (set_opening o w)
      ∙ (ap (λ (u : State). set_opening (set_tracked (snoc ts p ++ ps) o) u) (emits_elsewhere o (joins_from c (snoc ts p) ps) w)
      ∙ ap (λ (qs : List ℕ). set_opening (set_tracked qs s.opening) (fold (emit c r) (joins_from c (snoc ts p) ps) w)) together))

  -- ---- a part joins if it is not tracked

  unfoldable join_new : ℕ → State → State
  join_new p s = when (not (elem p s.opening.tracked)) (join_step r p c) s

  new_passed : (p : ℕ) (s : State) → elem p s.opening.tracked ≡ true → join_new p s ≡ s
  unfolding join_new when
  new_passed p s e = rw e

  new_joins : (p : ℕ) (s : State) → elem p s.opening.tracked ≡ false → join_new p s ≡ join_step r p c s
  unfolding join_new when
  new_joins p s e = rw e

  -- no other part is tracked by it
  still : (x p : ℕ) (s : State) → (p ≡ x → ⊥) → elem p (join_step r x c s).opening.tracked ≡ elem p s.opening.tracked
  still x p s n = rw (step_tracked x s, any_snoc (eqb p) s.opening.tracked x, ne_eqb p x n) (or_none (elem p s.opening.tracked))

  news_are : (ts : List ℕ) {ps : List ℕ} → Once ps → (s : State) → ((p : ℕ) → p ∈ ps → elem p s.opening.tracked ≡ elem p ts)
      → fold join_new ps s ≡ fold (λ p. join_step r p c) (filter (λ p. not (elem p ts)) ps) s
  unfolding fold filter
  news_are ts empty s h = refl
  news_are ts (once {x = x} {xs = xs} n o) s h =
      let here = h x (Memᴰ.head refl) in
      by_cases (elem x ts)
      (λ e. rw (new_passed x s (here ∙ e), e, filter) (news_are ts o s (λ p m. h p (Memᴰ.tail m))))
      (λ e. rw (new_joins x s (here ∙ e), e, filter)
      (news_are ts o (join_step r x c s) (λ p m. still x p s (λ (q : p ≡ x). n (rw q at m)) ∙ h p (Memᴰ.tail m))))

  -- ---- name by name

  ifs_are : (name : ℕ) (ps : List ℕ) (s : State) → fold (λ p. join_if r name p c) ps s ≡ fold join_new (filter (λ p. eqb (name_of c p) name) ps) s
  unfolding fold filter join_if join_new when
  ifs_are name [] s = refl
  ifs_are name (p ∷ ps) s =
      by_cases (eqb (name_of c p) name) (λ e. rw (e, filter) (ifs_are name ps (join_new p s)))
      (λ e. rw (e, filter) (ifs_are name ps s))

  name_named : (name : ℕ) (s : State) → (join_name r name c s).opening.named ≡ s.opening.named
  unfolding join_name join_if
  name_named name s =
      fold_every (λ (u : State). u.opening.named ≡ s.opening.named) (λ p. join_if r name p c)
      (λ p u e. when_cases (λ (w : State). w.opening.named ≡ s.opening.named) _ (join_step r p c) u e (λ _. step_named p u ∙ e)) s.opening.named s refl

  names_are : (qs ns : List ℕ) (s : State) → s.opening.named ≡ qs
      → fold (λ n. join_name r n c) ns s ≡ fold join_new (concat_map (λ n. filter (λ p. eqb (name_of c p) n) qs) ns) s
  unfolding fold concat_map
  names_are qs [] s e = refl
  names_are qs (n ∷ ns) s e =
      let first : join_name r n c s ≡ fold join_new (filter (λ p. eqb (name_of c p) n) qs) s = unfold join_name in (ifs_are n s.opening.named s ∙ rw e) in
      names_are qs ns (join_name r n c s) (name_named n s ∙ e)
      ∙ (ap (λ (u : State). fold join_new (concat_map (λ x. filter (λ p. eqb (name_of c p) x) qs) ns) u) first
      ∙ sym (fold_append join_new (filter (λ p. eqb (name_of c p) n) qs) (concat_map (λ x. filter (λ p. eqb (name_of c p) x) qs) ns) s))

  -- the named parts of these names
  by_names : List ℕ → Opening → List ℕ
  by_names ns o = concat_map (λ n. filter (λ p. eqb (name_of c p) n) o.named) ns

  named_once : (ns : List ℕ) (o : Opening) → Once o.named → Once (by_names (distinct ns) o)
  unfolding by_names
  named_once ns o k =
      once_concat_map (λ n. filter (λ p. eqb (name_of c p) n) o.named) (name_of c) (λ n q m. eqb-true (name_of c q) n (filter_out _ o.named m).1) (λ n. once_filter _ k) (distinct_once ns)

  -- names of which no part joins are left out
  module _ (f : ℕ → Bool) (s : State)
      (idle : (n : ℕ) → f n ≡ false → filter (λ p. not (elem p s.opening.tracked)) (filter (λ p. eqb (name_of c p) n) s.opening.named) ≡ []) where
    abbrev pub names : List ℕ
    names = filter f (map (name_of c) s.opening.named)

    joining_is : filter (λ p. not (elem p s.opening.tracked)) (by_names (distinct names) s.opening) ≡ joining c s.opening
    unfolding joining by_names
    joining_is =
        let ns = map (name_of c) s.opening.named in
        let g : ℕ → List ℕ = λ n. filter (λ p. eqb (name_of c p) n) s.opening.named in
        ap (λ (xs : List ℕ). filter (λ p. not (elem p s.opening.tracked)) (concat_map g xs)) (distinct_filter f ns) ∙ without_idle f _ g idle (distinct ns)

    by_name : join_names r (distinct names) c s ≡ fold join_new (by_names (distinct names) s.opening) s
    unfolding join_names by_names
    by_name = names_are s.opening.named (distinct names) s refl

    pub all_join : Once s.opening.named → on_opening forget_named (join_names r (distinct names) c s) ≡ join_all c r s
    unfolding on_opening forget_named join_all end_run
    all_join k =
        let ts = s.opening.tracked in
        let ps = by_names (distinct names) s.opening in
        let last : fold (λ p. join_step r p c) (filter (λ p. not (elem p ts)) ps) s ≡ set_opening (set_tracked (ts ++ joining c s.opening) s.opening) (emit_all c r (joins_from c ts (joining c s.opening)) s)
        = rw joining_is (steps_are (joining c s.opening) s) in
        let steps = by_name ∙ (news_are ts (named_once names s.opening k) s (λ p m. refl) ∙ last) in
        ap (on_opening forget_named) steps ∙ sym (emits_elsewhere (end_run c s.opening) (joins_from c ts (joining c s.opening)) s)

  -- ---- one-of-name variables that are linked

  links_one : (ts ns : List ℕ) (s : State) → s.opening.tracked ≡ ts → fold (emit c r) (map (λ n. links n (tracked_of c n ts)) ns) s ≡ fold (λ n. link_step r n c) ns s
  unfolding fold link_step
  links_one ts [] s e = refl
  links_one ts (n ∷ ns) s e =
      let here : emit c r (links n (tracked_of c n ts)) s ≡ emit c r (links n (tracked_of c n s.opening.tracked)) s = ap (λ (us : List ℕ). emit c r (links n (tracked_of c n us)) s) (sym e) in
      links_one ts ns (emit c r (links n (tracked_of c n ts)) s) (ap (λ (o : Opening). o.tracked) (emit_opening c r (links n (tracked_of c n ts)) s) ∙ e)
      ∙ ap (λ (u : State). fold (λ x. link_step r x c) ns u) here

  link_tracked : (o : Origin) (s : State) → (link_if r o c s).opening.tracked ≡ s.opening.tracked
  unfolding link_if link_step
  link_tracked o s =
      fold_every (λ (u : State). u.opening.tracked ≡ s.opening.tracked) (λ n u. emit c r (links n (tracked_of c n u.opening.tracked)) u)
      (λ n u e. ap (λ (p : Opening). p.tracked) (emit_opening c r (links n (tracked_of c n u.opening.tracked)) u) ∙ e) (name_if_one o) s refl

  links_are : (ts : List ℕ) (os : List Origin) (s : State) → s.opening.tracked ≡ ts
      → fold (emit c r) (map (λ n. links n (tracked_of c n ts)) (concat_map name_if_one os)) s ≡ fold (λ o. link_if r o c) os s
  unfolding fold concat_map
  links_are ts [] s e = refl
  links_are ts (o ∷ os) s e =
      let f : ℕ → Event = λ n. links n (tracked_of c n ts) in
      let first : fold (emit c r) (map f (name_if_one o)) s ≡ link_if r o c s = unfold link_if in links_one ts (name_if_one o) s e in
      rw (map-append f (name_if_one o) (concat_map name_if_one os), fold_append (emit c r) (map f (name_if_one o)) (map f (concat_map name_if_one os)) s, first)
      (links_are ts os (link_if r o c s) (link_tracked o s ∙ e))

  pub all_linked : (s : State) → fold (λ o. link_if r o c) (drop r.before s.variables) s ≡ link_all c r s
  unfolding link_all links_for emit_all
  all_linked s = sym (links_are s.opening.tracked (drop r.before s.variables) s refl)
