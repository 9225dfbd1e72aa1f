-- What a `Reader` owns, and what the job that it holds owns: each gives the other and is kept, since a `&[u8]` and a `Reader` are Copy. Assumes `Logic`, for the calculus alone.
use mathlib.Core.Path.{◌≡◌, refl}
use Prim.Native.Nat.{ℕ, ◌<◌, ◌^◌}
use mathlib.Core.List.{List, [], ◌∷◌}
use lib.ListN.{length}
use seplogic.Ra.Ura.{Ura}
use mir.Syntax.{named, w8, w64}
use mir.Val.{Val}
use base.Logic.{ent, sep}
use base.Fml.{Lft, Fml}
use types.Logic.{Logic, sem}
use contract.Lifetimes.{Lfts}
use types.Kit.{‵, ◌⊛◌, given, ◌$◌, ◌∵◌, !, qed, move, drop, use1, split, learn, fjoin, done}
use denote.RattleType.{RattleType}
use denote.Laws.{Is}
use denote.Plain.{uint_Makes, uint_row_laws}
use denote.Builtin.{u8, usize}
use denote.Ref.{Bor}
use denote.Signature.{named_lft}
use denote.Slice.{slice_val, ShrSlice, shr_slice_copy}
use denote.Steps.{owned, nothing}
use denote.Struct.Declared.{Declared}
use denote.Struct.Laws as LL
use denote.Struct.Rest.{all_own, field_own, rest, own_open, own_out, own_shut}
use denote.Struct.Values.{Values}
use Rattle.reader.specs.declared.Reader.{Reader}
use Rattle.reader.specs.contracts.Reader as T
use Rattle.reader.proofs.Reader.TheLaws as T'

-- the reader's type, its declaration and its laws, over the signature's lifetimes
abbrev pub B : Lfts 1 → RattleType
B κs = T.the_row (named_lft 1 0 tt κs)

abbrev pub D : Lfts 1 → Declared
D κs = T.the_type (named_lft 1 0 tt κs)

abbrev pub L : (κs : Lfts 1) → LL.Laws (D κs)
L κs = T'.the_laws (named_lft 1 0 tt κs)

-- the machine value of a job
abbrev pub machine : Bor (List ℕ) → Val
machine s = slice_val s.ref_ptr (length s.now)

-- what a reader owns, and what a job owns
abbrev pub OfReader : Lft → Reader → Fml
OfReader κ d = (B (κ, tt)).own_val d (T'.lowered d ∷ [])

abbrev pub OfJob : Lft → Bor (List ℕ) → Fml
OfJob κ s = (ShrSlice (named 0) κ u8).own_val s (machine s ∷ [])

module _ {M : Type 1} {𝓤 : Ura M} (𝓛 : Logic 𝓤) (κ : Lft) where
  pub takes_apart : (d : Reader) → ent 𝓤 (sem 𝓛 (OfReader κ d)) (sep 𝓤 (sem 𝓛 (OfJob κ d.job)) (sem 𝓛 (OfReader κ d)))
  takes_apart d =
      qed 𝓛 (‵ (OfReader κ d) ∷ []) ∵
      use1 𝓛 (‵ (OfReader κ d) ⊛ ‵ (OfReader κ d)) ((LL.copy (D (κ, tt)) (T'.the_copy (named_lft 1 0 tt (κ, tt))) 𝓛).twice d (T'.lowered d ∷ [])) $ split ! $
      use1 𝓛 (given (T'.lowered d ∷ [] ≡ T'.lowered d ∷ []) (‵ (all_own (D (κ, tt)).parts (L (κ, tt)) fields))) (own_open 𝓛 (D (κ, tt)) (L (κ, tt)) fields (T'.lowered d)) $ learn ! (λ _.
      use1 𝓛 (‵ (field_own (D (κ, tt)).parts (L (κ, tt)) 0 d.job) ⊛ ‵ (rest (D (κ, tt)).parts (L (κ, tt)) 0 fields)) (own_out 𝓛 (D (κ, tt)).parts (L (κ, tt)) 0 fields) $ split ! $
      -- [what job owns; what at owns; what the reader owns]
      move ! (1 ∷ []) $ drop ! $ done !)
    where
      fields : Values (D (κ, tt)).parts
      fields = (d.job, (d.at, tt))

  pub puts_together : (s : Bor (List ℕ)) (n : ℕ) → n < 2 ^ 64 → (i : n < length s.now) → ent 𝓤 (sem 𝓛 (OfJob κ s)) (sep 𝓤 (sem 𝓛 (OfReader κ (record { job = s; at = n; inside = i }))) (sem 𝓛 (OfJob κ s)))
  puts_together s n fits i =
      qed 𝓛 (‵ (OfJob κ s) ∷ []) ∵ use1 𝓛 (‵ (OfJob κ s) ⊛ ‵ (OfJob κ s)) ((shr_slice_copy 𝓛 (named 0) κ u8 (uint_row_laws w8)).twice s (machine s ∷ [])) $ split ! $
      nothing ! $ owned ! usize (Is usize) (uint_Makes 𝓛 w64) n _ (refl, fits) $ fjoin ! $ move ! (1 ∷ 0 ∷ []) $ fjoin ! $
      -- [what the fields own together; what job owns]
      use1 𝓛 (‵ (OfReader κ (record { job = s; at = n; inside = i }))) (own_shut 𝓛 (D (κ, tt)) (L (κ, tt)) (s, (n, tt))) $ done !
