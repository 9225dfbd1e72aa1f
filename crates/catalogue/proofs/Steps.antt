-- One record, the parts behind it, and the loop over them: what is left of the walks stays the same.
use mathlib.Core.Path.{◌≡◌, refl, sym, ◌∙◌, ap}
use mathlib.Core.Bool.{Bool, true, false}
use mathlib.Core.List.{List, [], ◌∷◌}
use Prim.Native.Nat.{ℕ, ◌+◌, ◌*◌, ◌<◌, ◌≤◌}
use native.Mathlib.Omega.{arith}
use native.Mathlib.Nat.{le_refl}
use lib.ListN.{length, get_or, take, drop}
use Rattle.std.specs.Prelude.{Ok, Err}
use Rattle.rules.proofs.WalkLaws.{walk_record, walk_still, Reads, run_reads, check_reads}
use Rattle.rules.specs.Lists.{filter, up_to}
use Rattle.rules.specs.Catalogue.{Catalogue, empty_catalogue}
use Rattle.rules.specs.Refusals.{unless_any}
use Rattle.rules.specs.Refusals as rules
use Rattle.rules.specs.Items.{with_item, add_item}
use Rattle.rules.specs.Records.{kind_of, of_sheet, read}
use Rattle.rules.specs.Records as records
use Rattle.rules.specs.Job.{Progress, reading, stopped, body_of, walk, run_step, check_step, starts_sheet}
use Rattle.refusal.specs.declared.Refusal.{Refusal}
use Rattle.refusal.specs.declared.Refusal.TheVariants.{CutShort}
use Rattle.refusal.specs.declared.RefusedAt.{RefusedAt}
use Rattle.refusal.specs.Refusing.{refusal_of}
use Rattle.reader.specs.declared.ItemKind.{ItemKind}
use Rattle.reader.specs.declared.CommandKind.{CommandKind}
use Rattle.reader.specs.declared.Kind.{Kind}
use Rattle.reader.specs.Naming.{item_length}
use Rattle.reader.specs.Reading.{item_read, record_in, result_of, Named}
use Rattle.reader.proofs.Laws.{item_number, command_number, at_unknown, item_short, at_item}
use Rattle.tables.specs.declared.Counts.{Counts}
use Rattle.tables.specs.Tables.{Tables, listed, tables, tables_in}
use Rattle.tables.proofs.Rows.{counts}
use Rattle.unions.specs.Unions.{Row, rows, ranges_of}
use Rattle.conditions.specs.Sizes.{Sized}
use Rattle.conditions.proofs.Kept.{sized_none}
use Rattle.cache.specs.Areas.{assembled}
use Rattle.kept.specs.declared.Draft.{Draft}
use Rattle.kept.specs.declared.Vacancy.{Vacancy}
use Rattle.kept.specs.Kept.{Given}
use Rattle.kept.specs.Vacancies.{Vacant}
use Rattle.kept.specs.Drafts.{catalogue_in, counts_in}
use Rattle.kept.specs.Entering.{gathered}
use Rattle.kept.proofs.Vacancies.{vacant_start}
use Rattle.kept.proofs.Entered.{draft_is, draft_kept}
use Rattle.kept.specs.Entered.{rows_of, rows_taken, answered, Entered}
use Rattle.catalogue.specs.Walking.{place_of, progress_of, RecordsRead, ReadUp, Same, Passed, Stopped, AtSheet, PartAt}

-- ---- walks

pub same_refl : (job : List ℕ) (at : ℕ) (p : Progress) → Same job at p at p
same_refl job at p = record { run = λ t. refl; check = λ t. refl }

pub same_then : {job : List ℕ} {at at' at'' : ℕ} {p p' p'' : Progress} → Same job at p at' p' → Same job at' p' at'' p'' → Same job at p at'' p''
same_then f g = record { run = λ t. f.run t ∙ g.run t; check = λ t. f.check t ∙ g.check t }

-- a step that stops, and one that goes on
module _ (job : List ℕ) (at : ℕ) (c : Catalogue) (h : at < length job) where
  stopping : (step : ℕ → ℕ → List ℕ → Progress → Progress) (n : ℕ × ℕ) → Reads job step
      → step at (get_or job at 0) (drop (at + 1) job) (reading c) ≡ stopped n
      → walk step 0 at (drop at job) (reading c) ≡ walk step 0 at (drop at job) (stopped n)
  stopping step n r e =
      walk_record step job at (reading c) h ∙ ap (walk step 0 _ _) e
      ∙ walk_still step (stopped n) (r.over n) 0 _ _ ∙ sym (walk_still step (stopped n) (r.over n) 0 at (drop at job))

  going : (step : ℕ → ℕ → List ℕ → Progress → Progress) (d : Catalogue) (next : ℕ) → next ≡ at + 1 + body_of (kind_of (get_or job at 0))
      → step at (get_or job at 0) (drop (at + 1) job) (reading c) ≡ reading d
      → walk step 0 at (drop at job) (reading c) ≡ walk step 0 next (drop next job) (reading d)
  going step d next q e = walk_record step job at (reading c) h ∙ rw (q, e)

-- ---- one record

starts_of : (n : ℕ) (k : Kind) (b : Bool) → Named n (Ok k) → of_sheet n ≡ b → starts_sheet n (kind_of n) ≡ b
unfolding starts_sheet
starts_of n k b e f = rw (e, f)

starts_none : (n : ℕ) (f : Refusal) → Named n (Err f) → starts_sheet n (kind_of n) ≡ false
unfolding starts_sheet
starts_none n f e = rw e.0

-- an item's rows take no more bytes than it has, kind and body
rows_light : (k : ItemKind) (b : List ℕ) → 5 * rows_of (item_read k b) ≤ 1 + item_length k
unfolding rows_of item_read
rows_light ItemKind.Name b = omega arith
rows_light ItemKind.Part b = omega arith
rows_light ItemKind.Range b = omega arith
rows_light ItemKind.Member b = omega arith
rows_light ItemKind.Union b = omega arith
rows_light ItemKind.UnionMember b = omega arith
rows_light ItemKind.Leaf b = omega arith
rows_light ItemKind.Joined b = omega arith
rows_light ItemKind.Requirement b = omega arith
rows_light ItemKind.Constraint b = omega arith

pub item_room : (job : List ℕ) (at : ℕ) (k : ItemKind) (b : List ℕ) (size : ℕ) → size ≡ item_length k → (n next : ℕ) → (5 * n ≤ at) × (length job ≤ 65536)
    → (next ≡ at + 1 + size) × (next ≤ length job) → n + rows_of (item_read k b) ≤ 13107
item_room job at k b size s n next y w = omega (arith, s, y.0, y.1, w.0, w.1, rows_light k b)

module _ (job : List ℕ) (at : ℕ) (c : Catalogue) (h : at < length job) where
  abbrev this : ℕ
  this = get_or job at 0

  abbrev rest : List ℕ
  rest = drop (at + 1) job

  unread : (f : Refusal) → starts_sheet this (kind_of this) ≡ false → read false this rest ≡ rules.refuse (refusal_of f) → Stopped job at c (record { refusal = f; at = at })
  unread f s g =
      record {
        same = record {
          run = λ z. stopping job at c h (run_step z job) _ (run_reads z job) ((run_reads z job).refused c at _ _ (refusal_of f) s g);
          check = λ z. stopping job at c h (check_step z job) _ (check_reads z job) ((check_reads z job).refused c at _ _ (refusal_of f) s g);
        };
      }

  pub step_unknown : (f : Refusal) → Named this (Err f) → Stopped job at c (record { refusal = f; at = at })
  unfolding result_of
  step_unknown f e = unread f (starts_none this f e) (sym (at_unknown false job at f e))

  pub step_sheet : (k : CommandKind) → Named this (Ok (Kind.Command k)) → AtSheet job at c c
  step_sheet k e = record { starts = starts_of this (Kind.Command k) true e (command_number this k e); still = refl }

  module _ (k : ItemKind) (e : Named this (Ok (Kind.Item k))) where
    class : starts_sheet this (kind_of this) ≡ false
    class = starts_of this (Kind.Item k) false e (item_number this k e)

    pub step_short : (size : ℕ) → size ≡ item_length k → (f : Refusal) → (f ≡ CutShort) × (length job < at + 1 + size) → Stopped job at c (record { refusal = f; at = at })
    unfolding result_of
    step_short size s f g = unread f class (sym (item_short false job at k f e refl (rw s at g) h))

    abbrev item : records.Item
    item = item_read k (take (item_length k) rest)

    module _ (size : ℕ) (s : size ≡ item_length k) (n next : ℕ) (y : (5 * n ≤ at) × (length job ≤ 65536)) (x : (next ≡ at + 1 + size) × (next ≤ length job)) (c' : Catalogue) (n' : ℕ) where
      w : (next ≡ at + 1 + item_length k) × (next ≤ length job)
      w = rw s at x

      there : read false this rest ≡ rules.ok (records.catalogue item)
      unfolding result_of record_in
      there = sym (at_item false job at k next e refl w)

      pub step_refused : (f : Refusal) → Entered c n item (Err f) c' n' → Stopped job at c (record { refusal = f; at = at })
      unfolding answered
      step_refused f g =
          record {
            same = record {
              run = λ z. stopping job at c h (run_step z job) _ (run_reads z job) ((run_reads z job).item_refused c at _ _ item (refusal_of f) class there (sym g.is));
              check = λ z. stopping job at c h (check_step z job) _ (check_reads z job) ((check_reads z job).item_refused c at _ _ item (refusal_of f) class there (sym g.is));
            };
          }

      pub step_entered : (z : Unit {0}) → Entered c n item (Ok z) c' n' → (at < next) × Passed job at c next c' n'
      unfolding answered rows_taken body_of
      step_entered z₀ g =
          let q : next ≡ at + 1 + body_of (kind_of this) = rw (e, w.0) in
          let l = rows_light k (take (item_length k) rest) in (
            omega (arith, w.0),
            record {
              onward = omega (arith, w.0);
              inside = w.1;
              few = omega (arith, y.0, w.0, g.members, l);
              same = record {
                run = λ z. going job at c h (run_step z job) c' next q ((run_reads z job).item c c' at _ _ item class there (sym g.is));
                check = λ z. going job at c h (check_step z job) c' next q ((check_reads z job).item c c' at _ _ item class there (sym g.is));
              };
            },
          )

-- ---- the parts after an item that is none

entered_is : {A : Type 0} (ts : List (rules.Refusal × Bool)) (x y : A) → rules.ok y ≡ unless_any ts x → y ≡ x
unfolding unless_any
entered_is [] x y e = cc
entered_is (t ∷ ts) x y e = go t.1 e (entered_is ts x y)
  where
    go : (b : Bool) → rules.ok y ≡ elim b [ true ↦ rules.refuse t.0 | false ↦ unless_any ts x ] → (rules.ok y ≡ unless_any ts x → y ≡ x) → y ≡ x
    go true q r = absurd (cc)
    go false q r = r q

parts_with : (c : Catalogue) (k : ItemKind) (b : List ℕ) → (k ≡ ItemKind.Part → ⊥) → (with_item c (item_read k b)).parts ≡ c.parts
unfolding with_item item_read
parts_with c ItemKind.Name b n = refl
parts_with c ItemKind.Part b n = absurd (n refl)
parts_with c ItemKind.Range b n = refl
parts_with c ItemKind.Member b n = refl
parts_with c ItemKind.Union b n = refl
parts_with c ItemKind.UnionMember b n = refl
parts_with c ItemKind.Leaf b n = refl
parts_with c ItemKind.Joined b n = refl
parts_with c ItemKind.Requirement b n = refl
parts_with c ItemKind.Constraint b n = refl

pub parts_same : (c c' : Catalogue) (n n' : ℕ) (k : ItemKind) (b : List ℕ) (z : Unit {0}) → Entered c n (item_read k b) (Ok z) c' n' → (k ≡ ItemKind.Part → ⊥) → c'.parts ≡ c.parts
unfolding answered add_item
parts_same c c' n n' k b z g e = ap (λ (x : Catalogue). x.parts) (entered_is _ _ _ g.is) ∙ parts_with c k b e

pub vacant_same : (vs : List Vacancy) (t t' : Tables) (m m' : ℕ → ℕ → Bool) (us us' : List Row) (n n' : ℕ) (k : ItemKind) (b : List ℕ) (z : Unit {0})
    → Entered (assembled t m us) n (item_read k b) (Ok z) (assembled t' m' us') n' → (k ≡ ItemKind.Part → ⊥) → Vacant vs t.parts → Vacant vs t'.parts
unfolding assembled
vacant_same vs t t' m m' us us' n n' k b z g e v = rw (parts_same _ _ n n' k b z g e) v

-- ---- parts that follow one another

module _ (job : List ℕ) (at : ℕ) (p : PartAt job at) (b : List ℕ) (q : b ≡ take 7 (drop (at + 1) job)) (n : ℕ) (y : 5 * n ≤ at) (l : length job ≤ 65536) (c c' : Catalogue) (n' : ℕ) where
  inside : at < length job
  inside = omega (arith, p.there)

  behind : (at + 8 ≡ at + 1 + 7) × (at + 8 ≤ length job)
  behind = (omega arith, p.there)

  pub part_refused : (f : Refusal) → Entered c n (item_read ItemKind.Part b) (Err f) c' n' → Stopped job at c (record { refusal = f; at = at })
  part_refused f x = step_refused job at c inside ItemKind.Part p.here 7 refl n (at + 8) (y, l) behind c' n' f (rw q at x)

  pub part_entered : (z : Unit {0}) → Entered c n (item_read ItemKind.Part b) (Ok z) c' n' → (at < at + 8) × Passed job at c (at + 8) c' n'
  part_entered z x = step_entered job at c inside ItemKind.Part p.here 7 refl n (at + 8) (y, l) behind c' n' z (rw q at x)

pub none_passed : (job : List ℕ) (at : ℕ) (c : Catalogue) (n : ℕ) → (at ≤ length job) × (5 * n ≤ at) × (length job ≤ 65536) → Passed job at c at c n
none_passed job at c n h = record { onward = le_refl at; inside = h.0; few = h.1; same = same_refl job at (reading c) }

module _ (job : List ℕ) (from : ℕ) (c₀ : Catalogue) (at : ℕ) (c : Catalogue) (n : ℕ) (x : Passed job from c₀ at c n) where
  pub passed_then : {next n' : ℕ} {d : Catalogue} → (at < next) × Passed job at c next d n' → Passed job from c₀ next d n'
  passed_then y = record { onward = omega (arith, x.onward, y.0); inside = y.1.inside; few = y.1.few; same = same_then x.same y.1.same }

  pub stopped_then : {f : RefusedAt} → Stopped job at c f → Stopped job from c₀ f
  stopped_then y = record { same = same_then x.same y.same }

-- ---- the whole catalogue

pub start_given : (n : ℕ) (u : List ℕ) → Given n (rows 0 u)
unfolding rows ranges_of up_to filter
start_given n u = record { none_yet = λ v l. refl }

pub start_sized : (k : Counts) (t : List ℕ) → k.conditions ≡ 0 → Sized (tables k t)
start_sized = sized_none

pub start_vacant : (vs : List Vacancy) (k : Counts) (t : List ℕ) → k.parts ≡ 0 → Vacant vs (tables k t).parts
unfolding tables tables_in listed up_to
start_vacant vs k t e = rw e (vacant_start vs)

abbrev pub no_counts : Counts
no_counts = counts 0 0 0 0 0 0 0 0

-- a draft into which nothing was entered
pub empty_is : (m u t : List ℕ) → gathered no_counts 0 m u t ≡ empty_catalogue
unfolding assembled tables tables_in listed up_to rows
empty_is m u t = refl

module _ (job : List ℕ) (c₀ : Catalogue) (e : c₀ ≡ empty_catalogue) (m u t : List ℕ) where
  pub read_refused : (f : RefusedAt) → Stopped job 0 c₀ f → ReadUp job (Err f) m u t
  unfolding place_of progress_of
  read_refused f x = record { same = rw e at x.same; ended = tt }

  pub read_up : (at : ℕ) (d : Draft) → RecordsRead job c₀ (Ok at) (catalogue_in d) → (k : Counts) → k ≡ counts_in d
      → m ≡ d.marks.now.area.now → u ≡ d.members.now.area.now → t ≡ d.tables.now.area.now → ReadUp job (Ok (record { at = at; counts = k })) m u t
  unfolding place_of progress_of
  read_up at d x k p q r s =
      rw (p, q, r, s)
      (record {
        same = rw (draft_is d) (rw e at x.1);
        ended = record { kept = draft_kept d; inside = x.0.inside; starts = x.0.starts };
      })
