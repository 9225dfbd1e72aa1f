-- A joining part keeps the stored clauses exact: it gets its clauses, its name's new helper those of the older parts, and no other name changes.
use mathlib.Core.Path.{◌≡◌, refl, sym, ◌∙◌, ap}
use mathlib.Core.Logic.{◌⊎◌, inl, inr, ⊎_elim}
use mathlib.Core.List.Memᴰ
use mathlib.Core.List.{List, [], ◌∷◌, ◌++◌, map, map-append, append-nil, append_assoc}
use Prim.Native.Nat.{ℕ, suc, ◌<◌, ◌≤◌}
use native.Mathlib.Nat.{zero-add, le_trans}
use lib.ListN.{length, get_or, length-map}
use borrow.Author.Tests.{ltb-true, lt-ltb}
use Rattle.rules.specs.Lists.{snoc, up_to}
use Rattle.rules.specs.Clause.{Clause}
use Rattle.rules.specs.AtMostOne.{bit, helpers_for, agrees, join_clauses}
use Rattle.rules.specs.Catalogue.{Catalogue, name_of}
use Rattle.rules.specs.Variables.{Origin, forbid, one, variable_of, part_origin, part_variable}
use Rattle.rules.specs.Opening.{Task, tracked_of}
use Rattle.rules.specs.Encoding.{joins, helpers_of, origins, clauses}
use Rattle.rules.specs.Run.{joins_from}
use Rattle.rules.specs.Called.{◌∈◌}
use Rattle.rules.proofs.Grows.{with_variables_prefix, prefix_length, whole}
use Rattle.rules.proofs.Known.{below_known}
use Rattle.rules.proofs.MemberLaws.{last_in, length_snoc, of_list_if, in_list_if, map_place, up_to_place, in_up_to, of_up_to}
use Rattle.rules.proofs.TrackedOf.{of_tracked_of, in_tracked_of, more_tracked, same_place, own_name, other_name}
use Rattle.rules.proofs.JoinClauses.{more_helpers, join_only, join_every}
use Rattle.rules.proofs.EmitLaws.{variables_after, clauses_of, variables_after_all, clauses_of_all}
use Rattle.rules.proofs.Encoded.{helper_count, Named, by_start, by_task, by_joining, as_helper, bit_clause, one_clause, Linked, Source, of_start, of_task, of_bit, of_one, Encoded, stored_moved, numbered_step, stored_step}
use Rattle.rules.proofs.ListLaws.{length_up_to}
use Rattle.rules.proofs.Membership.{before_or_end}

-- ---- helper j of a name with k tracked parts

pub helpers_length : (n k : ℕ) (f : Origin → ℕ) → length (map f (helpers_of n k)) ≡ helpers_for k
unfolding helpers_of
helpers_length n k f = simp (length-map, length_up_to)

pub helpers_place : (n k : ℕ) (f : Origin → ℕ) (j : ℕ) → j < helpers_for k → get_or (map f (helpers_of n k)) j 0 ≡ f (forbid n j)
unfolding helpers_of
helpers_place n k f j l =
    map_place f (map (forbid n) (up_to 0 (helpers_for k))) (forbid n 0) 0 j (simp (length-map, length_up_to) l)
    ∙ ap f (map_place (forbid n) (up_to 0 (helpers_for k)) 0 (forbid n 0) j (simp length_up_to l) ∙ ap (forbid n) (up_to_place 0 (helpers_for k) j l ∙ zero-add j))

pub in_helpers : (n k j : ℕ) → j < helpers_for k → forbid n j ∈ helpers_of n k
unfolding helpers_of
in_helpers n k j l = Memᴰ.map (forbid n) (rw (zero-add j) at (in_up_to 0 (helpers_for k) j l))

pub of_helpers : (n k : ℕ) {x : Origin} → x ∈ helpers_of n k → (j : ℕ) × (j < helpers_for k) × (forbid n j ≡ x)
unfolding helpers_of
of_helpers n k m = let r = Memᴰ.of_map (forbid n) (up_to 0 (helpers_for k)) m in (r.0, rw (zero-add (helpers_for k)) at (of_up_to 0 (helpers_for k) r.1), r.2)

-- ---- a part joins

module _ (c : Catalogue) (log : List Task) (before : ℕ) (tracked : List ℕ) (p : ℕ) where
  abbrev own : ℕ
  own = name_of c p

  abbrev earlier : List ℕ
  earlier = tracked_of c own tracked

  abbrev after : List ℕ
  after = tracked ++ (p ∷ [])

  own_length : suc (length earlier) ≡ length (tracked_of c own after)
  own_length = sym (ap length (own_name c tracked p) ∙ length_snoc earlier p)

  more_count : (n : ℕ) → helper_count c tracked n ≤ helper_count c after n
  more_count n = more_helpers _ _ (more_tracked c n tracked (p ∷ []))

  -- ---- its variables

  joined_named : (x : Origin) → Named c log tracked x → Named c log after x
  joined_named x by_start = by_start
  joined_named x (by_task m i) = by_task m i
  joined_named x (by_joining m) = by_joining (Memᴰ.append_left (p ∷ []) m)
  joined_named x (as_helper n l) = as_helper n (le_trans l (more_count n))

  helper_named : (k : ℕ) → k ≡ length (tracked_of c own after) → {x : Origin} → x ∈ helpers_of own k → Named c log after x
  helper_named k e m = let r = of_helpers own _ (rw e at m) in rw (← r.2) (as_helper own r.1)

  join_named : (x : Origin) → x ∈ origins c (joins p earlier) → Named c log after x
  unfolding origins
  join_named x m = ⊎_elim (λ e. rw e (by_joining (last_in tracked))) (helper_named _ own_length) (Memᴰ.cases_cons m)

  own_helper : (j : ℕ) → j < helper_count c after own → Named c log tracked (forbid own j) ⊎ (forbid own j ∈ origins c (joins p earlier))
  unfolding origins
  own_helper j l = inr (Memᴰ.tail (in_helpers own _ j (rw (← own_length) at l)))

  helper_joined : (n j : ℕ) → j < helper_count c after n → Named c log tracked (forbid n j) ⊎ (forbid n j ∈ origins c (joins p earlier))
  helper_joined n = ⊎_elim (λ e. rw (← e) own_helper) (λ q j l. inl (as_helper n (rw q at l))) (other_name c n tracked p)

  named_joined : (x : Origin) → Named c log after x → Named c log tracked x ⊎ (x ∈ origins c (joins p earlier))
  unfolding origins
  named_joined x by_start = inl by_start
  named_joined x (by_task m i) = inl (by_task m i)
  named_joined x (by_joining m) = ⊎_elim (λ m. inl (by_joining m)) (λ q. inr (Memᴰ.head (ap part_origin q))) (before_or_end tracked m)
  named_joined x (as_helper n {j} l) = helper_joined n j l

  -- ---- its clauses

  joined_source : {vs : List Origin} (k : Clause) → Source c log before tracked vs k → Source c log before after vs k
  joined_source k of_start = of_start
  joined_source k (of_task m i) = of_task m i
  joined_source k (of_bit n i j l h) =
      rw (← (same_place c n tracked (p ∷ []) i l)) (of_bit n i j (le_trans l (more_tracked c n tracked (p ∷ []))) (le_trans h (more_count n)))
  joined_source k (of_one {n} r m) = let q = of_tracked_of c n tracked m in of_one r (in_tracked_of c n after (Memᴰ.append_left (p ∷ []) q.0) q.1)

  -- the bits, with helpers for k parts
  module _ (vs : List Origin) (k : ℕ) (all : k ≡ length (tracked_of c own after)) where
    abbrev xs : List ℕ
    xs = map (part_variable vs) earlier

    abbrev ys : List ℕ
    ys = map (variable_of vs) (helpers_of own k)

    parts_are : xs ++ (part_variable vs p ∷ []) ≡ map (part_variable vs) (tracked_of c own after)
    parts_are = sym (map-append (part_variable vs) earlier (p ∷ [])) ∙ ap (map (part_variable vs)) (sym (own_name c tracked p))

    parts_length : length (xs ++ (part_variable vs p ∷ [])) ≡ length (tracked_of c own after)
    parts_length = ap length parts_are ∙ length-map (tracked_of c own after) (part_variable vs)

    ys_length : length ys ≡ helper_count c after own
    ys_length = helpers_length own k (variable_of vs) ∙ ap helpers_for all

    part_is : (i : ℕ) → i < length (tracked_of c own after) → get_or (xs ++ (part_variable vs p ∷ [])) i 0 ≡ part_variable vs (get_or (tracked_of c own after) i 0)
    part_is i l = ap (λ l. get_or l i 0) parts_are ∙ map_place (part_variable vs) (tracked_of c own after) 0 0 i l

    clause_is : (i j : ℕ) → i < length (tracked_of c own after) → j < helper_count c after own
        → agrees (get_or (xs ++ (part_variable vs p ∷ [])) i 0) (get_or ys j 0) (bit j i) ≡ bit_clause c after vs own i j
    clause_is i j l h = rw (part_is i l, helpers_place own k (variable_of vs) j (rw all h))

    bits_source : {k : Clause} → k ∈ join_clauses xs (part_variable vs p) ys → Source c log before after vs k
    bits_source m =
        let b = join_only xs (part_variable vs p) ys m in
        let l : b.place < length (tracked_of c own after) = rw parts_length at b.place_below in
        let h : b.helper < helper_count c after own = rw ys_length at b.helper_below in
        rw (b.is ∙ clause_is b.place b.helper l h) (of_bit own b.place b.helper l h)

    older_bit : (i j : ℕ) → i < length xs → j < helpers_for (length xs) → Source c log before tracked vs (bit_clause c after vs own i j)
    older_bit i j l h = let l' : i < length earlier = rw length-map at l in rw (same_place c own tracked (p ∷ []) i l') (of_bit own i j l' (rw length-map at h))

    source_bits : (i j : ℕ) → i < length (tracked_of c own after) → j < helper_count c after own
        → Source c log before tracked vs (bit_clause c after vs own i j) ⊎ (bit_clause c after vs own i j ∈ join_clauses xs (part_variable vs p) ys)
    source_bits i j l h =
        ⊎_elim (λ o. inl (older_bit i j o.0 o.1)) (λ m. inr (rw (clause_is i j l h) at m))
        (join_every xs (part_variable vs p) ys i j (rw parts_length l) (rw ys_length h))

  module _ (old vs : List Origin) where
    abbrev added : List Clause
    added = clauses c old vs before (joins p earlier)

    -- a one-of-name variable older than the run
    link_source : before ≤ length vs → variable_of vs (one own) < before → Source c log before after vs (one_clause vs own p)
    link_source w l = of_one (record { is_known = below_known whole (one own) (le_trans l w); older = l }) (in_tracked_of c own after (last_in tracked) refl)

    join_source : before ≤ length vs → (k : Clause) → k ∈ added → Source c log before after vs k
    unfolding clauses
    join_source w k m =
        ⊎_elim (bits_source vs _ own_length) (λ m. let r = of_list_if _ (_ ∷ []) m in rw (Memᴰ.eq_of_singleton r.1) (link_source w (ltb-true _ _ r.0)))
        (Memᴰ.append_cases (join_clauses _ _ _) m)

    own_bit : (i j : ℕ) → i < length (tracked_of c own after) → j < helper_count c after own
        → Source c log before tracked vs (bit_clause c after vs own i j) ⊎ (bit_clause c after vs own i j ∈ added)
    unfolding clauses
    own_bit i j l h = ⊎_elim inl (λ m. inr (Memᴰ.append_left _ m)) (source_bits vs _ own_length i j l h)

    bit_joined : (n i j : ℕ) → i < length (tracked_of c n after) → j < helper_count c after n
        → Source c log before tracked vs (bit_clause c after vs n i j) ⊎ (bit_clause c after vs n i j ∈ added)
    bit_joined n = ⊎_elim (λ e. rw (← e) own_bit) (λ q i j l h. rw q (inl (of_bit n i j (rw q at l) (rw q at h)))) (other_name c n tracked p)

    own_link : Linked before vs own → one_clause vs own p ∈ added
    unfolding clauses
    own_link r = Memᴰ.append_right (join_clauses _ _ _) (in_list_if _ (lt-ltb _ before r.older) (Memᴰ.head refl))

    link_added : (n q : ℕ) → q ≡ p → name_of c q ≡ n → Linked before vs n → one_clause vs n q ∈ added
    link_added n q e f r = let g : own ≡ n = ap (name_of c) (sym e) ∙ f in rw (e, ← g) (own_link (rw (← g) at r))

    one_joined : (n : ℕ) {q : ℕ} → Linked before vs n → q ∈ tracked_of c n after → Source c log before tracked vs (one_clause vs n q) ⊎ (one_clause vs n q ∈ added)
    one_joined n {q} r m =
        let t = of_tracked_of c n after m in
        ⊎_elim (λ m. inl (of_one r (in_tracked_of c n tracked m t.1))) (λ e. inr (link_added n q e t.1 r)) (before_or_end tracked t.0)

    source_joined : (k : Clause) → Source c log before after vs k → Source c log before tracked vs k ⊎ (k ∈ added)
    source_joined k of_start = inl of_start
    source_joined k (of_task m i) = inl (of_task m i)
    source_joined k (of_bit n i j l h) = bit_joined n i j l h
    source_joined k (of_one {n} r m) = one_joined n r m

  pub join_encoded : {vs : List Origin} {ks : List Clause} → Encoded c log before tracked vs ks
      → Encoded c log before (tracked ++ (p ∷ [])) (variables_after c (joins p (tracked_of c (name_of c p) tracked)) vs)
      (ks ++ clauses_of c before vs (joins p (tracked_of c (name_of c p) tracked)))
  join_encoded {vs} e =
      let os = origins c (joins p earlier) in
      let g = with_variables_prefix os vs in
      let w = le_trans e.within (prefix_length g) in
      record {
        numbered = numbered_step os e.numbered joined_named join_named named_joined;
        within = w;
        stored = stored_step (stored_moved c log before tracked g e.numbered e.within e.stored) joined_source (join_source vs _ w) (source_joined vs _);
      }

-- ---- all joining parts

pub joins_encoded : (c : Catalogue) (log : List Task) (before : ℕ) (ps tracked : List ℕ) {vs : List Origin} {ks : List Clause} → Encoded c log before tracked vs ks
    → Encoded c log before (tracked ++ ps) (variables_after_all c (joins_from c tracked ps) vs) (ks ++ clauses_of_all c before vs (joins_from c tracked ps))
unfolding joins_from snoc variables_after_all clauses_of_all
joins_encoded c log before [] tracked {ks = ks} e = rw (append-nil tracked, append-nil ks) e
joins_encoded c log before (p ∷ ps) tracked {ks = ks} e =
    rw (← (append_assoc tracked (p ∷ []) ps), ← (append_assoc ks _ _)) (joins_encoded c log before ps (tracked ++ (p ∷ [])) (join_encoded c log before tracked p e))
