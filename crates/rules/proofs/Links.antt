-- The clauses of a run's new one-of-name variables, over all tracked parts: after them every one-of-name variable has its clauses.
use mathlib.Core.Path.{◌≡◌, refl, sym, ap}
use mathlib.Core.Logic.{◌⊎◌, inl, inr, ⊎_elim}
use mathlib.Core.Bool.{Bool, true, false}
use mathlib.Core.List.Memᴰ
use mathlib.Core.List.{List, ◌++◌}
use Prim.Native.Nat.{ℕ, ◌≤◌}
use native.Mathlib.Nat.{le_refl, le_trans}
use lib.Dec.{ltb}
use lib.ListN.{length}
use borrow.Author.Tests.{ltb-true, ltb-false}
use Rattle.rules.specs.Lists.{concat_map}
use Rattle.rules.specs.Clause.{Clause}
use Rattle.rules.specs.Catalogue.{Catalogue, root}
use Rattle.rules.specs.Variables.{Origin, chosen, one, forbid, violation, gate, known, variable_of, part_origin}
use Rattle.rules.specs.Opening.{Task, tracked_of}
use Rattle.rules.specs.Encoding.{Event, links, origins, clauses}
use Rattle.rules.specs.Run.{name_if_one, links_for}
use Rattle.rules.specs.Called.{◌∈◌}
use Rattle.rules.proofs.Places.{stands}
use Rattle.rules.proofs.Known.{in_known}
use Rattle.rules.proofs.MemberLaws.{in_concat_map, of_concat_map}
use Rattle.rules.proofs.TrackedOf.{of_tracked_of}
use Rattle.rules.proofs.Encoded.{by_joining, Numbered, one_clause, Source, of_start, of_task, of_bit, of_one, Encoded, stored_step}

of_name_if_one : {n : ℕ} (x : Origin) → n ∈ name_if_one x → x ≡ one n
unfolding name_if_one
of_name_if_one (chosen o) m = elim m [ ]
of_name_if_one (one n) m = ap one (sym (Memᴰ.eq_of_singleton m))
of_name_if_one (forbid n j) m = elim m [ ]
of_name_if_one (violation r) m = elim m [ ]
of_name_if_one (gate g) m = elim m [ ]

module _ (c : Catalogue) (new : List Origin) (tracked : List ℕ) where
  data Link : Event → Type 0 where
    link : (n : ℕ) → one n ∈ new → Link (links n (tracked_of c n tracked))

  of_links : {e : Event} → e ∈ links_for c new tracked → Link e
  unfolding links_for
  of_links m =
      let n = Memᴰ.of_map _ (concat_map name_if_one new) m in
      let x = of_concat_map name_if_one new n.1 in
      let l : Link (links n.0 (tracked_of c n.0 tracked)) = link n.0 (rw (of_name_if_one x.0 x.2) at x.1) in
      rw n.2 at l

  in_links : (n : ℕ) → one n ∈ new → links n (tracked_of c n tracked) ∈ links_for c new tracked
  unfolding links_for name_if_one
  in_links n m = Memᴰ.map (λ n. links n (tracked_of c n tracked)) (in_concat_map name_if_one new m (Memᴰ.head refl))

-- `new`: variables, among them every one-of-name variable from `before` on
module _ (c : Catalogue) (log : List Task) (before : ℕ) (tracked : List ℕ) (vs new : List Origin) (there : (n : ℕ) → one n ∈ new → one n ∈ vs)
    (since : (n : ℕ) → known vs (one n) ≡ true → before ≤ variable_of vs (one n) → one n ∈ new) where
  abbrev linking : List Clause
  linking = concat_map (clauses c vs vs before) (links_for c new tracked)

  link_known : Numbered c log tracked vs → {e : Event} → Link c new tracked e → (x : Origin) → x ∈ origins c e → known vs x ≡ true
  unfolding origins
  link_known v (link n m) x i =
      ⊎_elim (λ q. rw q (in_known vs (there n m)))
      (λ j. let p = Memᴰ.of_map part_origin (tracked_of c n tracked) j in rw (← p.2) (v.named_known (by_joining (of_tracked_of c n tracked p.1).0)))
      (Memᴰ.cases_cons i)

  pub links_known : Numbered c log tracked vs → (e : Event) → e ∈ links_for c new tracked → (x : Origin) → x ∈ origins c e → known vs x ≡ true
  links_known v e m = link_known v (of_links c new tracked m)

  linked_source : before ≤ length vs → (k : Clause) → Source c log before tracked vs k → Source c log (length vs) tracked vs k
  linked_source w k of_start = of_start
  linked_source w k (of_task m i) = of_task m i
  linked_source w k (of_bit n i j l h) = of_bit n i j l h
  linked_source w k (of_one r m) = of_one (record { is_known = r.is_known; older = le_trans r.older w }) m

  link_source : {e : Event} → Link c new tracked e → (k : Clause) → k ∈ clauses c vs vs before e → Source c log (length vs) tracked vs k
  unfolding clauses
  link_source (link n m) k i =
      let p = Memᴰ.of_map (one_clause vs n) (tracked_of c n tracked) i in
      let e = in_known vs (there n m) in
      rw (← p.2) (of_one (record { is_known = e; older = (stands vs (one n) (chosen root) e).0 }) p.1)

  links_source : (k : Clause) → k ∈ linking → Source c log (length vs) tracked vs k
  links_source k m = let e = of_concat_map (clauses c vs vs before) (links_for c new tracked) m in link_source (of_links c new tracked e.1) k e.2

  one_linked : (n : ℕ) {p : ℕ} → one n ∈ new → p ∈ tracked_of c n tracked → one_clause vs n p ∈ linking
  unfolding clauses
  one_linked n i m = in_concat_map (clauses c vs vs before) (links_for c new tracked) (in_links c new tracked n i) (Memᴰ.map (one_clause vs n) m)

  source_one : (b : Bool) (n : ℕ) {p : ℕ} → ltb (variable_of vs (one n)) before ≡ b → known vs (one n) ≡ true → p ∈ tracked_of c n tracked
      → Source c log before tracked vs (one_clause vs n p) ⊎ (one_clause vs n p ∈ linking)
  source_one true n l e m = inl (of_one (record { is_known = e; older = ltb-true _ before l }) m)
  source_one false n l e m = inr (one_linked n (since n e (ltb-false _ before l)) m)

  source_linked : (k : Clause) → Source c log (length vs) tracked vs k → Source c log before tracked vs k ⊎ (k ∈ linking)
  source_linked k of_start = inl of_start
  source_linked k (of_task m i) = inl (of_task m i)
  source_linked k (of_bit n i j l h) = inl (of_bit n i j l h)
  source_linked k (of_one {n} r m) = source_one _ n refl r.is_known m

  pub links_encoded : {ks : List Clause} → Encoded c log before tracked vs ks
      → Encoded c log (length vs) tracked vs (ks ++ concat_map (clauses c vs vs before) (links_for c new tracked))
  links_encoded e = record {
    numbered = e.numbered;
    within = le_refl (length vs);
    stored = stored_step e.stored (linked_source e.within) links_source source_linked;
  }
