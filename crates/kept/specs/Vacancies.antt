-- What is known of the parts of each name: which flags none of them has.
use Rattle.std.specs.Prelude.{◌≡◌, Bool, true, false, ◌&&◌, not, List, ℕ, eqb, get_or}
use Rattle.rules.specs.AtMostOne.{bit}
use Rattle.rules.specs.Lists.{any}
use Rattle.rules.specs.Catalogue.{Part}
use Rattle.tables.specs.declared.Flag.{Flag}
use Rattle.tables.specs.declared.Flag.TheVariants.{Ready, Unknown, Locked, Favoured, Excluded}
use Rattle.tables.specs.Tables.{flag_of}
use Rattle.kept.specs.declared.Vacancy.{Vacancy}

-- no part of the name has the flag, as far as is known
abbrev pub knows_none : Vacancy → Flag → Bool
knows_none v Locked = v.locked
knows_none v Favoured = v.favoured
knows_none v Ready = false
knows_none v Unknown = false
knows_none v Excluded = false

abbrev pub nothing_known : Vacancy
nothing_known = record { locked = false; favoured = false }

-- a flag in the flags of a record
abbrev pub in_flags : Flag → ℕ → Bool
in_flags Ready f = bit 0 f
in_flags Unknown f = bit 1 f
in_flags Locked f = bit 2 f
in_flags Favoured f = bit 3 f
in_flags Excluded f = bit 4 f

-- no part of this name has the flag
abbrev pub NoneHas : Flag → (name : ℕ) → List Part → Type 0
NoneHas w n ps = any (λ (q : Part). eqb q.name n && flag_of w q) ps ≡ false

-- what is known of each name is so
pub record Vacant (vs : List Vacancy) (ps : List Part) : Type 0 where
  pub none : (w : Flag) (n : ℕ) → knows_none (get_or vs n nothing_known) w ≡ true → NoneHas w n ps

-- with a part more, of these flags
abbrev pub noted : (flags : ℕ) → Vacancy → Vacancy
noted f v = record { locked = v.locked && not (bit 2 f); favoured = v.favoured && not (bit 3 f) }
