-- Each disjunct of a condition has a range that passes: by those of its halves. And what it says where no range that passes holds.
use mathlib.Core.Path.{◌≡◌}
use mathlib.Core.Logic.{⊎_elim}
use mathlib.Core.Bool.{Bool, true, false}
use mathlib.Core.List.Memᴰ
use mathlib.Core.List.{List, [], ◌∷◌, ◌++◌, map}
use Prim.Native.Nat.{ℕ}
use lib.Dec.{eqb}
use borrow.Author.Tests.{eqb-true}
use Rattle.rules.specs.Lists.{any, all}
use Rattle.rules.specs.Called.{◌∈◌}
use Rattle.rules.specs.Catalogue.{Catalogue, Condition, and, or}
use Rattle.rules.specs.Candidates.{matching}
use Rattle.rules.specs.Conditions.{Disjunct, combined, disjuncts}
use Rattle.rules.specs.Opening.{holds_now}
use Rattle.rules.proofs.Member.{any_out, any_in, all_out, concat_out, contrary}
use Rattle.rules.proofs.Membership.{map_out}
use Rattle.blocking.specs.Blocking.{Barred}

module _ (f : ℕ → Bool) where
  any_left : (xs ys : List ℕ) → any f xs ≡ true → any f (xs ++ ys) ≡ true
  any_left xs ys e = let q = any_out f xs e in any_in f (xs ++ ys) q.0 (Memᴰ.append_left ys q.1) q.2

  any_right : (xs ys : List ℕ) → any f ys ≡ true → any f (xs ++ ys) ≡ true
  any_right xs ys e = let q = any_out f ys e in any_in f (xs ++ ys) q.0 (Memᴰ.append_right xs q.1) q.2

-- a disjunct of an `and` is one of the left half and one of the right half
pub halves : (ls rs : List Disjunct) (d : Disjunct) → d ∈ combined and ls rs → (l : Disjunct) × (l ∈ ls) × (r : Disjunct) × (r ∈ rs) × (d ≡ l ++ r)
unfolding combined
halves ls rs d m =
    let p = concat_out (λ (l : Disjunct). map (λ (r : Disjunct). l ++ r) rs) ls d m in
    let q = map_out (λ (r : Disjunct). p.0 ++ r) rs p.2 in
    (p.0, p.1, q.0, q.1, q.2)

module _ {cs : List Condition} {f : ℕ → Bool} where
  pub barred_more : {x : ℕ} (g : ℕ → Bool) → ((r : ℕ) → f r ≡ true → g r ≡ true) → Barred cs f x → Barred cs g x
  barred_more g h b = record { each = λ d m. let q = any_out f d (b.each d m) in any_in g d q.0 q.1 (h q.0 q.2) }

  -- a leaf
  pub barred_leaf : (x r : ℕ) → disjuncts cs x ≡ (r ∷ []) ∷ [] → f r ≡ true → Barred cs f x
  unfolding any
  barred_leaf x r e h = record { each = λ d m. let q : d ≡ r ∷ [] = Memᴰ.eq_of_singleton (rw e at m) in rw (q, h) }

  module _ (x a b : ℕ) where
    -- an `or`, by both halves
    pub barred_or : disjuncts cs x ≡ combined or (disjuncts cs a) (disjuncts cs b) → Barred cs f a → Barred cs f b → Barred cs f x
    unfolding combined
    barred_or e p q = record { each = λ d m. ⊎_elim (p.each d) (q.each d) (Memᴰ.append_cases (disjuncts cs a) (rw e at m)) }

    -- an `and`, by either
    pub barred_left : disjuncts cs x ≡ combined and (disjuncts cs a) (disjuncts cs b) → Barred cs f a → Barred cs f x
    barred_left e p =
        record { each = λ d m. let h = halves (disjuncts cs a) (disjuncts cs b) d (rw e at m) in rw h.4 (any_left f h.0 h.2 (p.each h.0 h.1)) }

    pub barred_right : disjuncts cs x ≡ combined and (disjuncts cs a) (disjuncts cs b) → Barred cs f b → Barred cs f x
    barred_right e p =
        record { each = λ d m. let h = halves (disjuncts cs a) (disjuncts cs b) d (rw e at m) in rw h.4 (any_right f h.0 h.2 (p.each h.2 h.3)) }

  -- the disjuncts share range r, and it passes
  pub barred_shared : (x r : ℕ) → Barred cs (eqb r) x → f r ≡ true → Barred cs f x
  barred_shared x r b h = record { each = λ d m. let q = any_out (eqb r) d (b.each d m) in any_in f d q.0 q.1 (rw (← eqb-true r q.0 q.2) h) }

-- where no range that passes holds, no disjunct does
pub barred_fails : (c : Catalogue) {f : ℕ → Bool} {x : ℕ} (true? : ℕ → Bool) → ((r : ℕ) → f r ≡ true → any true? (matching c r) ≡ false) → Barred c.conditions f x
    → (d : Disjunct) → d ∈ disjuncts c.conditions x → holds_now c true? d ≡ false
unfolding holds_now
barred_fails c {f} true? h b d m =
    let q = any_out f d (b.each d m) in
    contrary (all (λ r. any true? (matching c r)) d) (any true? (matching c q.0)) (λ e. all_out (λ r. any true? (matching c r)) d e q.0 q.1) (h q.0 q.2)
