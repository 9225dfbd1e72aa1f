-- What comes of a part's flags, before the part is entered.
use Rattle.std.specs.Prelude.{◌≡◌, true, false, List, ℕ, Result, Ok, Err, ◌⊎◌}
use Rattle.rules.specs.Lists.{snoc}
use Rattle.rules.specs.Catalogue.{Part}
use Rattle.rules.specs.Items.{part_of}
use Rattle.refusal.specs.declared.Refusal.{Refusal}
use Rattle.refusal.specs.declared.Contradiction.{Contradiction}
use Rattle.tables.specs.declared.Flag.{Flag}
use Rattle.kept.specs.declared.Vacancy.{Vacancy}
use Rattle.kept.specs.Vacancies.{Vacant}
use Rattle.part_items.specs.Second.{is_second}

-- the part is no second one, and what is known is so with it
pub record First (ps : List Part) (n f : ℕ) (vs : List Vacancy) : Type 0 where
  pub locked : is_second ps Flag.Locked n f ≡ false
  pub favoured : is_second ps Flag.Favoured n f ≡ false
  pub vacant : (x e : ℕ) → Vacant vs (snoc ps (part_of n f x e))

-- the second one with a flag
abbrev pub Second : List Part → (n f : ℕ) → Refusal → Type 0
Second ps n f e =
    ((e ≡ Refusal.Contradicts Contradiction.SecondLocked) × (is_second ps Flag.Locked n f ≡ true))
    ⊎ ((e ≡ Refusal.Contradicts Contradiction.SecondFavoured) × (is_second ps Flag.Locked n f ≡ false) × (is_second ps Flag.Favoured n f ≡ true))

abbrev pub Claimed : List Part → (n f : ℕ) → Result (Unit {0}) Refusal → List Vacancy → Type 0
Claimed ps n f (Ok x) vs = First ps n f vs
Claimed ps n f (Err e) vs = Second ps n f e
