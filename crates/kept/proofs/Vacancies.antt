-- What is known of the parts of each name, before and after a part more.
use mathlib.Core.Path.{◌≡◌, refl, sym, ◌∙◌}
use mathlib.Core.Bool.{Bool, true, false, not, ◌&&◌, ◌||◌, false≢true}
use mathlib.Core.List.{List, []}
use Prim.Native.Nat.{ℕ, ◌/◌, ◌%◌, ◌≤◌}
use native.Mathlib.Omega.{arith}
use native.Mathlib.Decide.{ℕ_discrete, dec_lt}
use lib.Dec.{eqb}
use lib.ListN.{length, get_or, set, replicate, length-set, length-replicate, get_or-replicate, get_or-eq_default}
use lib.Seq.{get_or-set_same, get_or-set_other}
use borrow.Author.Tests.{ne_eqb}
use Rattle.rules.specs.AtMostOne.{bit}
use Rattle.rules.specs.Lists.{any, snoc}
use Rattle.rules.proofs.Bools.{and_left, and_right, and_false}
use Rattle.rules.proofs.ListLaws.{any_snoc}
use Rattle.rules.specs.Catalogue.{Part}
use Rattle.rules.specs.Items.{part_of}
use Rattle.marks.proofs.Bits.{bit_is}
use Rattle.tables.specs.declared.Flag.{Flag}
use Rattle.tables.specs.declared.Flag.TheVariants.{Ready, Unknown, Locked, Favoured, Excluded}
use Rattle.tables.specs.Tables.{flag_of, power_of}
use Rattle.kept.specs.declared.Vacancy.{Vacancy}
use Rattle.kept.specs.Vacancies.{knows_none, nothing_known, in_flags, Vacant, noted}

-- ---- flags

flag_bit : (w : Flag) (f : ℕ) → eqb (f / power_of w % 2) 1 ≡ in_flags w f
flag_bit Ready f = bit_is 0 f
flag_bit Unknown f = bit_is 1 f
flag_bit Locked f = bit_is 2 f
flag_bit Favoured f = bit_is 3 f
flag_bit Excluded f = bit_is 4 f

pub flag_is : (w : Flag) (f x p : ℕ) (b : Bool) → x ≡ f → p ≡ power_of w → b ≡ eqb (x / p % 2) 1 → b ≡ in_flags w f
flag_is w f x p b d e h = rw (d, e) at h ∙ flag_bit w f

-- the flag of the part that a record gives
pub its_flag : (w : Flag) (n f x e : ℕ) → flag_of w (part_of n f x e) ≡ in_flags w f
unfolding part_of
its_flag Ready n f x e = refl
its_flag Unknown n f x e = refl
its_flag Locked n f x e = refl
its_flag Favoured n f x e = refl
its_flag Excluded n f x e = refl

-- ---- what is known

-- of no parts everything
pub vacant_start : (vs : List Vacancy) → Vacant vs []
unfolding any
vacant_start vs = record { none = λ w n e. refl }

not_false : (b : Bool) → not b ≡ true → b ≡ false
not_false false e = refl
not_false true e = sym e

noted_known : (w : Flag) (f : ℕ) (v : Vacancy) → knows_none (noted f v) w ≡ true → (knows_none v w ≡ true) × (in_flags w f ≡ false)
noted_known Locked f v e = (and_left v.locked _ e, not_false (bit 2 f) (and_right v.locked _ e))
noted_known Favoured f v e = (and_left v.favoured _ e, not_false (bit 3 f) (and_right v.favoured _ e))
noted_known Ready f v e = absurd (false≢true e)
noted_known Unknown f v e = absurd (false≢true e)
noted_known Excluded f v e = absurd (false≢true e)

nothing : (w : Flag) → knows_none nothing_known w ≡ true → ⊥
nothing Ready e = false≢true e
nothing Unknown e = false≢true e
nothing Locked e = false≢true e
nothing Favoured e = false≢true e
nothing Excluded e = false≢true e

-- where nothing is known of any name
pub vacant_nothing : (n : ℕ) (ps : List Part) → Vacant (replicate n nothing_known) ps
vacant_nothing n ps = record { none = λ w i h. absurd (nothing w (rw (none i) at h)) }
  where
    none : (i : ℕ) → get_or (replicate n nothing_known) i nothing_known ≡ nothing_known
    none i = elim (dec_lt i n) [
      | yes l ↦ get_or-replicate n i nothing_known nothing_known l
      | no l ↦ get_or-eq_default (replicate n nothing_known) nothing_known (rw (length-replicate n nothing_known) (omega arith))
    ]

pub vacant_more : (vs : List Vacancy) (ps : List Part) (n f x e : ℕ) → Vacant vs ps → Vacant (set vs n (noted f (get_or vs n nothing_known))) (snoc ps (part_of n f x e))
vacant_more vs ps n f x e y = record { none = λ w i h. any_snoc (λ (q : Part). eqb q.name i && flag_of w q) ps (part_of n f x e) ∙ more w i h }
  where
    -- what is known of the part's name
    here : (w : Flag) → knows_none (get_or (set vs n (noted f (get_or vs n nothing_known))) n nothing_known) w ≡ true → (knows_none (get_or vs n nothing_known) w ≡ true) × (in_flags w f ≡ false)
    here w h = elim (dec_lt n (length vs)) [
      | yes l ↦ noted_known w f (get_or vs n nothing_known) (rw (get_or-set_same vs n (noted f (get_or vs n nothing_known)) nothing_known l) at h)
      | no l ↦
          let b : length (set vs n (noted f (get_or vs n nothing_known))) ≤ n = rw length-set (omega arith) in
          absurd (nothing w (rw (get_or-eq_default (set vs n (noted f (get_or vs n nothing_known))) nothing_known b) at h))
    ]

    more : (w : Flag) (i : ℕ) → knows_none (get_or (set vs n (noted f (get_or vs n nothing_known))) i nothing_known) w ≡ true
        → (any (λ (q : Part). eqb q.name i && flag_of w q) ps || (eqb (part_of n f x e).name i && flag_of w (part_of n f x e))) ≡ false
    more w i h = elim (ℕ_discrete i n) [
      | yes q ↦
          let k = here w (rw q at h) in
          rw (y.none w i (rw q k.0), its_flag w n f x e, k.1) (and_false _)
      | no q ↦
          let g : knows_none (get_or vs i nothing_known) w ≡ true = rw (get_or-set_other vs n i (noted f (get_or vs n nothing_known)) nothing_known q) at h in
          rw (y.none w i g) (unfold part_of in rw (ne_eqb n i (λ z. q (sym z))))
    ]

-- a part that is neither locked nor favoured
pub vacant_plain : (vs : List Vacancy) (ps : List Part) (n f x e : ℕ) → in_flags Locked f ≡ false → in_flags Favoured f ≡ false → Vacant vs ps → Vacant vs (snoc ps (part_of n f x e))
vacant_plain vs ps n f x e a b y = record { none = λ w i h. any_snoc (λ (q : Part). eqb q.name i && flag_of w q) ps (part_of n f x e) ∙ more w i h }
  where
    unset : (w : Flag) (v : Vacancy) → knows_none v w ≡ true → in_flags w f ≡ false
    unset Locked v h = a
    unset Favoured v h = b
    unset Ready v h = absurd (false≢true h)
    unset Unknown v h = absurd (false≢true h)
    unset Excluded v h = absurd (false≢true h)

    more : (w : Flag) (i : ℕ) → knows_none (get_or vs i nothing_known) w ≡ true
        → (any (λ (q : Part). eqb q.name i && flag_of w q) ps || (eqb (part_of n f x e).name i && flag_of w (part_of n f x e))) ≡ false
    more w i h = rw (y.none w i h, its_flag w n f x e, unset w (get_or vs i nothing_known) h) (and_false _)

pub vacant_noted : (vs : List Vacancy) (ps : List Part) (n f : ℕ) (v : Vacancy) → v ≡ noted f (get_or vs n nothing_known) → Vacant vs ps → (x e : ℕ) → Vacant (set vs n v) (snoc ps (part_of n f x e))
vacant_noted vs ps n f v q y x e = rw q (vacant_more vs ps n f x e y)

-- what holds of more parts holds of fewer
pub vacant_fewer : (vs : List Vacancy) (ps : List Part) (q : Part) → Vacant vs (snoc ps q) → Vacant vs ps
vacant_fewer vs ps q y =
    record { none = λ w i h. or_left _ _ (sym (any_snoc (λ (q : Part). eqb q.name i && flag_of w q) ps q) ∙ y.none w i h) }
  where
    or_left : (a b : Bool) → (a || b) ≡ false → a ≡ false
    or_left false b h = refl
    or_left true b h = h
