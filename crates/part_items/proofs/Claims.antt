-- What comes of a part's flags, and what it is for the part's entering.
use mathlib.Core.Path.{◌≡◌, refl, sym, ◌∙◌}
use mathlib.Core.Bool.{Bool, true, false}
use mathlib.Core.List.{List}
use Prim.Native.Nat.{ℕ, ◌<◌, ◌≤◌}
use Rattle.std.specs.Prelude.{Ok, Err}
use Rattle.std.proofs.Common.{⊎_elim}
use Rattle.rules.specs.Catalogue.{Part}
use Rattle.rules.specs.Records.{Item}
use Rattle.rules.specs.Items.{part_of}
use Rattle.refusal.specs.declared.Refusal.{Refusal}
use Rattle.tables.specs.declared.TablesMut.{TablesMut}
use Rattle.tables.specs.declared.Flag.{Flag}
use Rattle.tables.specs.Tables.{with_part}
use Rattle.tables.specs.Views.{tables_mut_of, AddedTo}
use Rattle.kept.specs.declared.Vacancy.{Vacancy}
use Rattle.kept.specs.Vacancies.{in_flags, Vacant}
use Rattle.kept.specs.Entering.{EnteredTables}
use Rattle.kept.proofs.Vacancies.{vacant_plain}
use Rattle.part_items.specs.Claimed.{First, Second}
use Rattle.part_items.proofs.Search.{second_unset}
use Rattle.part_items.proofs.Items.{part_locked, part_favoured, part_entered}

pub plain_first : (vs : List Vacancy) (ps : List Part) (n f : ℕ) (a b : Bool) → a ≡ in_flags Flag.Locked f → a ≡ false → b ≡ in_flags Flag.Favoured f → b ≡ false → Vacant vs ps → First ps n f vs
plain_first vs ps n f a b e g h i v =
    record {
      locked = sym (second_unset ps Flag.Locked n f a e g false (sym g));
      favoured = sym (second_unset ps Flag.Favoured n f b h i false (sym i));
      vacant = λ x y. vacant_plain vs ps n f x y (sym e ∙ g) (sym h ∙ i) v;
    }

module _ (t : TablesMut) (n f x e : ℕ) (l : t.counts.parts < 1024) (i : n < t.counts.names) (o : f ≤ 31) where
  pub part_second : (q : Refusal) → Second (tables_mut_of t).parts n f q → EnteredTables t (Item.part n f x e) (Err q) t
  part_second q s n₀ m u =
      ⊎_elim
      (λ z. rw z.0 (part_locked t.counts n₀ m u t.area.now n f x e l i o true (sym z.1) refl))
      (λ z. rw z.0 (part_favoured t.counts n₀ m u t.area.now n f x e l i o false (sym z.1) refl true (sym z.2) refl))
      s

  module _ (vs : List Vacancy) (y : First (tables_mut_of t).parts n f vs) (t' : TablesMut) (a : AddedTo t t' (with_part (tables_mut_of t) (part_of n f x e))) where
    pub part_first : EnteredTables t (Item.part n f x e) (Ok tt) t'
    part_first n₀ m u = part_entered t.counts n₀ m u t.area.now n f x e l i o false (sym y.locked) refl false (sym y.favoured) refl t'.counts t'.area.now a

    pub first_vacant : Vacant vs (tables_mut_of t').parts
    unfolding with_part
    first_vacant = rw a.is (y.vacant x e)
