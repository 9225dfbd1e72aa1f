-- A second part of a name that has a flag which one part of a name may have.
use Rattle.std.specs.Prelude.{◌≡◌, Bool, true, ◌&&◌, List, ℕ, eqb}
use Rattle.rules.specs.Lists.{any}
use Rattle.rules.specs.Catalogue.{Part}
use Rattle.tables.specs.declared.Flag.{Flag}
use Rattle.tables.specs.Tables.{flag_of}
use Rattle.kept.specs.declared.Vacancy.{Vacancy}
use Rattle.kept.specs.Vacancies.{knows_none, in_flags, NoneHas}

-- is a part of this name, and has it the flag?
abbrev pub such : Flag → (name : ℕ) → Part → Bool
such w n q = eqb q.name n && flag_of w q

-- a part of name n and flags f would be one
unfoldable pub is_second : List Part → Flag → (n f : ℕ) → Bool
is_second ps w n f = in_flags w f && any (such w n) ps

-- what is known of name n is so
pub record Known (v : Vacancy) (n : ℕ) (ps : List Part) : Type 0 where
  pub none : (w : Flag) → knows_none v w ≡ true → NoneHas w n ps
