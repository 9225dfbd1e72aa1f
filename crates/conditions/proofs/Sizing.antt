-- Sized tables. For the code: the size of a condition as it is stored, and of one with given halves. For callers: what keeps tables sized, and refusal 6 by sizes.
use mathlib.Core.Path.{◌≡◌, refl, ap, ◌∙◌}
use mathlib.Core.List.{List}
use Prim.Native.Nat.{ℕ, ◌+◌, ◌*◌, ◌<◌, max}
use lib.ListN.{length, get_or}
use Rattle.rules.specs.Lists.{snoc}
use Rattle.rules.specs.Catalogue.{Operator, and, or, Condition, leaf, joined}
use Rattle.rules.specs.Conditions.{Disjunct, combined, disjuncts}
use Rattle.rules.proofs.DisjunctLaws.{disjuncts_new_leaf, disjuncts_new_joined, length_or, length_and}
use Rattle.tables.specs.declared.Counts.{Counts}
use Rattle.tables.specs.declared.Condition as C
use Rattle.tables.specs.declared.Condition.TheVariants as row
use Rattle.tables.specs.declared.Size as S
use Rattle.tables.specs.Tables.{Size, no_size, Tables, tables, size_is, size_from, condition_is}
use Rattle.tables.proofs.Listed.{listed_at}
use Rattle.tables.proofs.Laws.{conditions_counted}
use Rattle.conditions.specs.Sizes.{longest, size_of, sizes_of, Sized, HasSize}
use Rattle.conditions.proofs.Longest.{longest_or, longest_and}

-- ---- a size as it is stored

size_in : (t : Tables) → Sized t → (c : ℕ) → c < length t.conditions → get_or t.sizes c no_size ≡ size_of (disjuncts t.conditions c)
unfolding sizes_of
size_in t s c h = rw s.sizes (listed_at (length t.conditions) (λ j. size_of (disjuncts t.conditions j)) c no_size h)

module _ (z : S.Size) (ds : List Disjunct) (e : size_is z ≡ size_of ds) where
  pub count_is : z.count ≡ length ds
  unfolding size_is size_from size_of
  count_is = ap (λ (x : Size). x.count) e

  pub longest_is : z.longest ≡ longest ds
  unfolding size_is size_from size_of
  longest_is = ap (λ (x : Size). x.longest) e

pub size_known : (k : Counts) (b : List ℕ) (c : ℕ) (z : S.Size) → Sized (tables k b) → c < k.conditions
    → size_is z ≡ get_or (tables k b).sizes c no_size → HasSize (tables k b).conditions c z
size_known k b c z s h e =
    let inside : c < length (tables k b).conditions = rw (conditions_counted k b) h in
    let q : size_is z ≡ size_of (disjuncts (tables k b).conditions c) = e ∙ size_in (tables k b) s c inside in
    record { allowed = s.allowed c inside; counted = count_is z _ q; measured = longest_is z _ q }

-- ---- the size of the next condition

module _ (k : Counts) (b : List ℕ) (n : C.Condition) where
  abbrev cs : List Condition
  cs = (tables k b).conditions

  pub next_leaf : (r : ℕ) → n ≡ row.Range r → size_is (record { count = 1; longest = 1 }) ≡ size_of (disjuncts (snoc cs (condition_is n)) (length cs))
  unfolding size_is size_from size_of longest
  next_leaf r e = rw (e, disjuncts_new_leaf cs (leaf r) r refl)

  module _ (l r : ℕ) (x y : S.Size) (p : HasSize cs l x) (q : HasSize cs r y) (h : l < k.conditions) (g : r < k.conditions) where
    made : (f : Operator) → disjuncts (snoc cs (joined f l r)) (length cs) ≡ combined f (disjuncts cs l) (disjuncts cs r)
    made f = disjuncts_new_joined cs (joined f l r) f l r refl (rw (conditions_counted k b) h) (rw (conditions_counted k b) g)

    pub next_and : n ≡ row.And l r
        → size_is (record { count = x.count * y.count; longest = x.longest + y.longest }) ≡ size_of (disjuncts (snoc cs (condition_is n)) (length cs))
    unfolding size_is size_from size_of
    next_and e =
        rw (
          e,
          made and,
          length_and (disjuncts cs l) (disjuncts cs r),
          longest_and (disjuncts cs l) (disjuncts cs r) p.allowed.some q.allowed.some,
          p.counted,
          p.measured,
          q.counted,
          q.measured,
        )

    pub next_or : (m : ℕ) → n ≡ row.Or l r → m ≡ max x.longest y.longest
        → size_is (record { count = x.count + y.count; longest = m }) ≡ size_of (disjuncts (snoc cs (condition_is n)) (length cs))
    unfolding size_is size_from size_of
    next_or m e f =
        rw (
          e,
          made or,
          length_or (disjuncts cs l) (disjuncts cs r),
          longest_or (disjuncts cs l) (disjuncts cs r),
          f,
          p.counted,
          p.measured,
          q.counted,
          q.measured,
        )
