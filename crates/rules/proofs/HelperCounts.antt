-- 01, "k tracked parts have the least h helpers with 2^h at least k, and k × h clauses": of every name, after every record of every job
-- (`helper_counts`) and in the listing of every accepted one (`listed_counts`). h is at most ten.
use mathlib.Core.Path.{◌≡◌, refl, sym, ◌∙◌, ap}
use mathlib.Core.Bool.{Bool, true, not}
use mathlib.Core.List.Memᴰ
use mathlib.Core.List.{List, [], ◌∷◌}
use Prim.Native.Nat.{ℕ, zero, suc, ◌*◌, ◌<◌, ◌≤◌, zero-le}
use native.Mathlib.Nat.{le_trans, not-suc-le-zero}
use native.Mathlib.Omega.{arith}
use lib.Dec.{eqb}
use lib.ListN.{length, length-map}
use borrow.Author.Tests.{eqb-true, eqb-false, not-true}
use Rattle.rules.specs.Lists.{filter, count}
use Rattle.rules.specs.AtMostOne.{helpers_for}
use Rattle.rules.specs.Catalogue.{Catalogue}
use Rattle.rules.specs.Variables.{variable_of, part_variable}
use Rattle.rules.specs.Opening.{tracked_of}
use Rattle.rules.specs.Encoding.{helpers_of}
use Rattle.rules.specs.State.{State}
use Rattle.rules.specs.Items.{ceiling}
use Rattle.rules.specs.Refusals.{Thing}
use Rattle.rules.specs.Limits.{Limits, Terms}
use Rattle.rules.specs.Job.{accepted, outcome}
use Rattle.rules.specs.Called.{◌∈◌}
use Rattle.rules.proofs.Bools.{by_cases}
use Rattle.rules.proofs.MemberLaws.{all_in}
use Rattle.rules.proofs.Joined.{helpers_length}
use Rattle.rules.proofs.Reached.{Given, Reached, accepted_job}
use Rattle.rules.proofs.AtMostOne.{Least, helpers_least, at_most_ten, counted}
use Rattle.rules.proofs.Membership.{filter_out, Once, empty, once, once_filter}
use Rattle.rules.proofs.NamedOnce.{NamedOnce, start_once, serve_once, begin_once, end_once, draw_once, add_once}
use Rattle.rules.proofs.OpeningAlone.{KeptByRules, every_opening}
use Rattle.rules.proofs.ListLaws.{length_filters}
use Rattle.rules.proofs.TrackedOf.{of_tracked_of}
use Rattle.rules.proofs.WellFormed.{well_formed}
use Rattle.rules.proofs.Valid.{valid}
use Rattle.rules.proofs.NameHelpers.{helper_of, forbid_of}
use Rattle.rules.proofs.JobHelpers.{helpers_of_law}

-- Of name n, with k tracked parts and h helpers, in the variables and clauses that the `v` and `c` lines print.
pub record Counts (s : State) (n k h : ℕ) : Type 0 where
  pub helpers : count (helper_of n) s.variables ≡ h
  pub clauses : count (forbid_of s.variables n) s.clauses ≡ k * h
  pub least : Least h k
  pub at_most_ten : h ≤ 10

-- ---- no name has more tracked parts than the catalogue may have parts

equal_once : (m : ℕ) {xs : List ℕ} → Once xs → ((x : ℕ) → x ∈ xs → x ≡ m) → length xs ≤ 1
equal_once m empty h = zero-le
equal_once m (once n empty) h = omega arith
equal_once m (once {x = x} n (once {x = y} k p)) h =
    absurd (n (Memᴰ.head (h x (Memᴰ.head refl) ∙ sym (h y (Memᴰ.tail (Memᴰ.head refl))))))

-- numbers below m without repeats are at most m
pub few_below : (m : ℕ) {xs : List ℕ} → Once xs → ((x : ℕ) → x ∈ xs → x < m) → length xs ≤ m
few_below zero empty h = zero-le
few_below zero (once {x = x} n p) h = absurd (not-suc-le-zero (h x (Memᴰ.head refl)))
few_below (suc m) {xs} p h =
    let is : ℕ → Bool = λ x. eqb x m in
    let last = equal_once m (once_filter is p) (λ x i. eqb-true x m (filter_out is xs i).1) in
    let rest = few_below m (once_filter (λ x. not (is x)) p) (λ x i. below x (filter_out (λ x. not (is x)) xs i)) in
    omega (arith, length_filters is xs)
  where
    below : (x : ℕ) → (x ∈ xs) × (not (eqb x m) ≡ true) → x < m
    below x i = let l = h x i.0 in let apart = eqb-false x m (not-true (eqb x m) i.1) in omega arith

pub tracked_once : {l : Limits} {c : Catalogue} {s : State} → Reached l c s → Once s.opening.tracked
tracked_once {c = c} r = (every_opening c NamedOnce once_kept start_once r).1
  where
    once_kept : KeptByRules c NamedOnce
    once_kept = record { added = add_once; drawn = draw_once c; begun = begin_once c; taken = λ o p. p; served = serve_once c; ended = end_once c }

few_tracked : {l : Limits} {c : Catalogue} {s : State} → Given c → Reached l c s → (n : ℕ)
    → length (tracked_of c n s.opening.tracked) ≤ ceiling Thing.part
unfolding tracked_of
few_tracked {c = c} {s = s} g r n =
    let ps = s.opening.tracked in
    let few = few_below (length c.parts) (once_filter _ (tracked_once r)) (λ p m. all_in _ ps (valid g r).opening.tracked (of_tracked_of c n ps m).0) in
    le_trans few (well_formed g).ceilings.parts

-- ---- how many

count_filter : {A : Type 0} (f : A → Bool) (xs : List A) → count f xs ≡ length (filter f xs)
unfolding count filter
count_filter f [] = refl
count_filter f (x ∷ xs) = by_cases (f x) (λ q. rw (q, filter) (omega (arith, count_filter f xs))) (λ q. rw (q, filter) (omega (arith, count_filter f xs)))

-- the tracked parts of name n
abbrev pub tracked_parts : Catalogue → State → ℕ → List ℕ
tracked_parts c s n = tracked_of c n s.opening.tracked

pub helper_counts : {l : Limits} {c : Catalogue} {s : State} → Given c → Reached l c s
    → (n : ℕ) → Counts s n (length (tracked_parts c s n)) (helpers_for (length (tracked_parts c s n)))
unfolding ceiling
helper_counts {c = c} {s = s} g r n =
    let vs = s.variables in
    let k = length (tracked_parts c s n) in
    let h = helpers_of_law g r n in
    let many = helpers_length n k (variable_of vs) in
    record {
      helpers = count_filter _ vs ∙ (ap length h.variables ∙ (sym (length-map (helpers_of n k) (variable_of vs)) ∙ many));
      clauses = count_filter _ s.clauses ∙ ((counted h.clauses).product ∙ rw (length-map (tracked_parts c s n) (part_variable vs), many));
      least = helpers_least k;
      at_most_ten = at_most_ten k (few_tracked g r n);
    }

pub listed_counts : (t : Terms) (job : List ℕ) {c : Catalogue} {s : State} → outcome t job ≡ accepted c s
    → (n : ℕ) → Counts s n (length (tracked_parts c s n)) (helpers_for (length (tracked_parts c s n)))
listed_counts t job e = let a = accepted_job t job e in helper_counts a.given a.reached
