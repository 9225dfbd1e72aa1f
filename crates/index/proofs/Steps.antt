-- The building step by step: what each loop has left so far, of the areas a as they were before it and b as they are.
use mathlib.Core.Path.{◌≡◌, refl, sym, ap, ◌∙◌}
use mathlib.Core.List.{List}
use Prim.Native.Nat.{ℕ, ◌+◌, ◌*◌, ◌-◌, ◌<◌, ◌≤◌}
use native.Mathlib.Omega.{arith}
use lib.ListN.{length, get_or, set, replicate}
use Rattle.std.specs.Borrow.{MutBor}
use Rattle.words.specs.Words.{words}
use Rattle.tables.specs.declared.Counts.{Counts}
use Rattle.tables.specs.Tables.{Laid}
use Rattle.tables.specs.Tables.{tables}
use Rattle.kept.specs.Kept.{Given}
use Rattle.index.specs.Chains.{Chain, parts_by_name, requirements_by_owner, constraints_by_owner, Keyed, Linked, Heading, Linking, BoundSet, Bounding, Favoured, Favouring, FirstNonMatching, Noting, Keys, Chained}
use Rattle.index.specs.Members.{Links, Threaded, RangeOf, Unlinked, Threading, Relinked, Shortened, Passed, Built}
use Rattle.index.specs.Placed.{Placed, PlacedIn}
use Rattle.index.specs.Building.{SameAreas, TablesOnly, UnionsOnly, rows_of}
use Rattle.index.specs.declared.building.Building.{Building}
use Rattle.index.proofs.Chaining.{only_none, only_then, linked_none, keyed_kept}
use Rattle.index.proofs.Laws.{head_room, heading_more, bounds_start, bounds_more, bounds_end, requirements_keyed, constraints_keyed, parts_keyed_last, parts_linked_last, all_built}
use Rattle.index.proofs.Favoured.{favoured_start, favoured_rest, favoured_then, favoured_keyed, favoured_end}
use Rattle.index.proofs.NonMatching.{noted_start, still_linked, noted_more, noted_end}
use Rattle.index.proofs.Members.{unlinked_start, unlinked_more, unlinked_end, threading_start, still_given, threading_ready, threading_more, threading_end, relinked_none, relinked_now, relinked_then, shortened_start, shortened_now, shortened_step, all_linked}

pub tables_none : (a : Building) → TablesOnly a a
tables_none a = record { counts = refl; marks = refl; unions = refl; area = refl }

pub tables_then : {a b c : Building} → TablesOnly a b → TablesOnly b c → TablesOnly a c
tables_then x y = record { counts = y.counts ∙ x.counts; marks = y.marks ∙ x.marks; unions = y.unions ∙ x.unions; area = y.area ∙ x.area }

-- the tables are laid out by the counts that the areas had
pub laid_still : {a b : Building} → TablesOnly a b → Laid a.counts (length b.area.now)
laid_still {b = b} x = rw x.counts at b.held.laid

module _ (h : Chain) (rows keys : Counts → ℕ) where
  -- the keys below x have no row
  pub record Headed (a b : Building) (x : ℕ) : Type 0 where
    pub others : TablesOnly a b
    pub heading : Heading h a.counts (rows a.counts) (keys a.counts) x a.area.now b.area.now

  -- the rows from i on are linked
  pub record LinkedFrom (a b : Building) (i : ℕ) : Type 0 where
    pub others : TablesOnly a b
    pub linking : Linking h a.counts (rows a.counts) (keys a.counts) i a.area.now b.area.now

module _ {h : Chain} {rows keys : Counts → ℕ} where
  pub headed_placed : {a b : Building} {x : ℕ} → PlacedIn h rows keys → Headed h rows keys a b x → Placed h a.counts (rows a.counts) (keys a.counts) (length (words b.area.now))
  headed_placed {a} {b} p d = p.at a.counts b.area.now (laid_still d.others)

  pub headed_more : {a b c : Building} {x at v : ℕ} → PlacedIn h rows keys → Headed h rows keys a b x → x < keys a.counts → at ≡ h.head_at x → v ≡ rows a.counts
      → words c.area.now ≡ set (words b.area.now) at v → TablesOnly b c → Headed h rows keys a c (x + 1)
  headed_more {a} {b} {x = x} p d l e f g o =
      let q = headed_placed p d in
      record { others = tables_then d.others o; heading = heading_more q.apart d.heading l (g ∙ rw (e, f)) (q.head_free x (rows a.counts) (words b.area.now) l) }

  pub headed_low : {a b : Building} {x : ℕ} → PlacedIn h rows keys → Headed h rows keys a b x → x < keys a.counts → x ≤ 1025
  headed_low p d l = let q = (headed_placed p d).low in omega arith

  pub headed_room : {a b : Building} {x at : ℕ} → PlacedIn h rows keys → Headed h rows keys a b x → x < keys a.counts → at ≡ h.head_at x → at * 2 + 1 < length b.area.now
  headed_room {b = b} p d l e = head_room b.area.now (headed_placed p d) l e

  -- s are the areas before the heads were set
  module _ {s a : Building} (o : TablesOnly s a) (g : Heading h s.counts (rows s.counts) (keys s.counts) (keys s.counts) s.area.now a.area.now) where
    pub linked_start : {i : ℕ} → i ≡ rows a.counts → LinkedFrom h rows keys a a i
    linked_start e =
        let f = rw (← o.counts) at g in
        record {
          others = tables_none a;
          linking = record { same = refl; only = only_none h (rows a.counts) (keys a.counts) (words a.area.now); linked = rw e (linked_none f.set) };
        }

    pub linked_keyed : {b : Building} {i : ℕ} → PlacedIn h rows keys → Keyed h (rows s.counts) (keys s.counts) (words s.area.now) → LinkedFrom h rows keys a b i
        → Keyed h (rows b.counts) (keys b.counts) (words b.area.now)
    linked_keyed {b} p d l =
        let e = l.linking.only in
        rw (l.others.counts, o.counts) (keyed_kept (p.at s.counts s.area.now s.held.laid).apart (only_then g.only (rw o.counts at e)) d)

    pub linked_end : {b : Building} {i : ℕ} → LinkedFrom h rows keys a b i → i ≤ 0 → Linking h s.counts (rows s.counts) (keys s.counts) 0 s.area.now b.area.now
    linked_end {i = i} l z =
        let e : i ≡ 0 = omega arith in
        let d = rw (e, o.counts) at l.linking in
        record { same = d.same ∙ g.same; only = only_then g.only d.only; linked = d.linked }

    pub linked_others : {b : Building} {i : ℕ} → LinkedFrom h rows keys a b i → TablesOnly s b
    linked_others l = tables_then o l.others

  pub linked_ready : {a b : Building} (i : ℕ) {j : ℕ} → LinkedFrom h rows keys a b j → j ≡ i + 1 → Linked h (rows b.counts) (keys b.counts) (i + 1) (words b.area.now)
  linked_ready i l e = rw (l.others.counts) (rw e at l.linking.linked)

  pub linked_below : {a b : Building} {i j : ℕ} → LinkedFrom h rows keys a b j → i < rows a.counts → i < rows b.counts
  linked_below l g = rw l.others.counts g

  pub linked_step : {a b c : Building} {i j : ℕ} → LinkedFrom h rows keys a b j → Linking h b.counts (rows b.counts) (keys b.counts) i b.area.now c.area.now → TablesOnly b c
      → LinkedFrom h rows keys a c i
  linked_step l m o =
      let d = rw l.others.counts at m in
      record { others = tables_then l.others o; linking = record { same = d.same ∙ l.linking.same; only = only_then l.linking.only d.only; linked = d.linked } }

-- ---- bounds of ranges

pub record BoundedTo (a b : Building) (r : ℕ) : Type 0 where
  pub others : TablesOnly a b
  pub bounding : Bounding a.counts a.marks.now r a.area.now b.area.now

pub bounded_start : (a : Building) → BoundedTo a a 0
bounded_start a = record { others = tables_none a; bounding = bounds_start a.counts a.marks.now a.area.now }

pub bounded_below : {a b : Building} {r i : ℕ} → BoundedTo a b r → i < a.counts.ranges → i < b.counts.ranges
bounded_below d l = rw d.others.counts l

pub bounded_step : {a b c : Building} {r : ℕ} → BoundedTo a b r → r < a.counts.ranges → BoundSet b.counts b.marks.now r (words b.area.now) (words c.area.now) → TablesOnly b c
    → BoundedTo a c (r + 1)
bounded_step {a} {b} d l s o =
    let s' = rw (d.others.counts, d.others.marks) at s in
    record { others = tables_then d.others o; bounding = bounds_more (laid_still d.others) d.bounding l s' }

pub bounded_last : {a b : Building} {r : ℕ} → BoundedTo a b r → a.counts.ranges ≤ r → Bounding a.counts a.marks.now a.counts.ranges a.area.now b.area.now
bounded_last d l = bounds_end d.bounding l

-- ---- bounds of favoured parts

pub record FavouredFrom (a b : Building) (i : ℕ) : Type 0 where
  pub others : TablesOnly a b
  pub favouring : Favouring a.counts i a.area.now b.area.now

pub favoured_none_yet : (a : Building) {i : ℕ} → i ≡ a.counts.parts → FavouredFrom a a i
favoured_none_yet a e = record { others = tables_none a; favouring = rw e (favoured_start a.counts a.area.now) }

pub favoured_head : {a b c : Building} {x : ℕ} → FavouredFrom a b a.counts.parts → x < a.counts.names → words c.area.now ≡ set (words b.area.now) (6 * x + 5) 0 → TablesOnly b c
    → FavouredFrom a c a.counts.parts
favoured_head d l e o = record { others = tables_then d.others o; favouring = favoured_rest (laid_still d.others) d.favouring l e }

module _ {s a : Building} (o : TablesOnly s a) (f : Favouring s.counts s.counts.parts s.area.now a.area.now) {b : Building} {j : ℕ} (d : FavouredFrom a b j) where
  -- in terms of the areas as they were at first
  abbrev since : Favouring s.counts j a.area.now b.area.now
  since = rw o.counts at d.favouring

  pub parts_keyed_still : Keyed parts_by_name s.counts.parts s.counts.names (words s.area.now) → Keyed parts_by_name b.counts.parts b.counts.names (words b.area.now)
  parts_keyed_still k = rw (d.others.counts, o.counts) (favoured_keyed s.held.laid k f since)

  pub favoured_last : j ≤ 0 → Favouring s.counts 0 s.area.now b.area.now
  favoured_last z = favoured_end f since z

  pub favoured_others : TablesOnly s b
  favoured_others = tables_then o d.others

pub favoured_at : {a b : Building} (i : ℕ) {j : ℕ} → FavouredFrom a b j → j ≡ i + 1 → Favoured b.counts (i + 1) b.area.now
favoured_at i d e = rw d.others.counts (rw e at d.favouring.favoured)

pub favoured_below : {a b : Building} {i j : ℕ} → FavouredFrom a b j → i < a.counts.parts → i < b.counts.parts
favoured_below d l = rw d.others.counts l

pub favoured_step : {a b c : Building} {i j : ℕ} → FavouredFrom a b j → Favouring b.counts i b.area.now c.area.now → TablesOnly b c → FavouredFrom a c i
favoured_step d f o =
    let f' = rw d.others.counts at f in
    record { others = tables_then d.others o; favouring = favoured_then d.favouring f' }

-- ---- first non-matching parts

pub record NotedTo (a b : Building) (r : ℕ) : Type 0 where
  pub others : TablesOnly a b
  pub noting : Noting a.counts a.marks.now r a.area.now b.area.now

pub noted_none_yet : (a : Building) → NotedTo a a 0
noted_none_yet a = record { others = tables_none a; noting = noted_start a.counts a.marks.now a.area.now }

pub noted_linked : {a b : Building} {r : ℕ} → NotedTo a b r → Linked parts_by_name a.counts.parts a.counts.names 0 (words a.area.now)
    → Linked parts_by_name b.counts.parts b.counts.names 0 (words b.area.now)
noted_linked {a} d l = rw d.others.counts (still_linked a.held.laid l d.noting)

pub noted_below : {a b : Building} {r i : ℕ} → NotedTo a b r → i < a.counts.ranges → i < b.counts.ranges
noted_below d l = rw d.others.counts l

pub noted_step : {a b c : Building} {r x : ℕ} → NotedTo a b r → r < a.counts.ranges → FirstNonMatching b.counts.parts (tables b.counts b.area.now) b.marks.now r x
    → words c.area.now ≡ set (words b.area.now) (9604 + 4 * r + 1) x → TablesOnly b c → NotedTo a c (r + 1)
noted_step d l f e o =
    let f' = rw (d.others.counts, d.others.marks) at f in
    record { others = tables_then d.others o; noting = noted_more (laid_still d.others) d.noting l f' e }

pub noted_last : {a b : Building} {r : ℕ} → NotedTo a b r → a.counts.ranges ≤ r → Noting a.counts a.marks.now a.counts.ranges a.area.now b.area.now
noted_last d l = noted_end d.noting l

-- ---- the members of unions

pub areas_then : {a b c : Building} → SameAreas a b → SameAreas b c → SameAreas a c
areas_then x y = record { counts = y.counts ∙ x.counts; marks = y.marks ∙ x.marks; unions = y.unions ∙ x.unions; area = y.area ∙ x.area }

pub unions_none : (a : Building) → UnionsOnly a a
unions_none a = record { counts = refl; marks = refl; unions = refl; area = refl }

pub unions_then : {a b c : Building} → UnionsOnly a b → UnionsOnly b c → UnionsOnly a c
unions_then x y = record { counts = y.counts ∙ x.counts; marks = y.marks ∙ x.marks; unions = y.unions ∙ x.unions; area = y.area ∙ x.area }

pub of_tables : {a b : Building} → TablesOnly a b → SameAreas a b
of_tables x = record { counts = x.counts; marks = x.marks; unions = ap (λ (r : MutBor (List ℕ)). r.ghost_name) x.unions; area = x.area }

pub record UnlinkedTo (a b : Building) (x : ℕ) : Type 0 where
  pub others : TablesOnly a b
  pub unlinked : Unlinked a.counts x a.area.now b.area.now

pub unlinked_none_yet : (a : Building) → UnlinkedTo a a 0
unlinked_none_yet a = record { others = tables_none a; unlinked = unlinked_start a.counts a.area.now }

pub unlinked_step : {a b c : Building} {x v : ℕ} → UnlinkedTo a b x → x < a.counts.unions → v ≡ a.counts.members → words c.area.now ≡ set (words b.area.now) (11652 + 3 * x) v
    → TablesOnly b c → UnlinkedTo a c (x + 1)
unlinked_step {c = c} d l q e o =
    record { others = tables_then d.others o; unlinked = unlinked_more c.area.now (laid_still d.others) d.unlinked l (e ∙ rw q) }

pub unlinked_last : {a b : Building} {x : ℕ} → UnlinkedTo a b x → a.counts.unions ≤ x → Unlinked a.counts a.counts.unions a.area.now b.area.now
unlinked_last d l = unlinked_end d.unlinked l

-- the rows from i on are linked
pub record ThreadedFrom (a b : Building) (i : ℕ) : Type 0 where
  pub others : SameAreas a b
  pub threading : Threading a.counts i a.unions.now a.area.now b.unions.now b.area.now

module _ {s a : Building} (o : TablesOnly s a) (f : Unlinked s.counts s.counts.unions s.area.now a.area.now) where
  pub threaded_none_yet : {i : ℕ} → i ≡ a.counts.members → ThreadedFrom a a i
  threaded_none_yet e =
      let f' = rw (← o.counts) at f in
      record { others = of_tables (tables_none a); threading = rw e (threading_start a.unions.now f') }

  module _ {b : Building} {i : ℕ} (d : ThreadedFrom a b i) where
    abbrev threading_since : Threading s.counts i s.unions.now a.area.now b.unions.now b.area.now
    threading_since = rw (o.counts, o.unions) at d.threading

    pub threaded_given : Given s.counts.unions (rows_of s) → Given b.counts.unions (rows_of b)
    threaded_given g = rw (d.others.counts, o.counts) (still_given g threading_since)

    pub threaded_last : i ≤ 0 → Threading s.counts 0 s.unions.now s.area.now b.unions.now b.area.now
    threaded_last z = threading_end f threading_since z

    pub threaded_others : SameAreas s b
    threaded_others = areas_then (of_tables o) d.others

pub threaded_at : {a b : Building} {i : ℕ} → ThreadedFrom a b i → 0 < i → Threaded b.counts (rows_of b) (i - 1 + 1) (words b.area.now) (words b.unions.now)
threaded_at d z = rw d.others.counts (threading_ready z d.threading)

pub threaded_below : {a b : Building} {i j : ℕ} → ThreadedFrom a b j → i < a.counts.members → i < b.counts.members
threaded_below d l = rw d.others.counts l

pub threaded_step : {a b c : Building} {i j : ℕ} → ThreadedFrom a b j → Threading b.counts i b.unions.now b.area.now c.unions.now c.area.now → SameAreas b c → ThreadedFrom a c i
threaded_step d f o =
    let f' = rw d.others.counts at f in
    record { others = areas_then d.others o; threading = threading_more d.threading f' }

-- a chain leads from row `last` to row i
pub record ShortenedTo (a b : Building) (last i : ℕ) (seen : List ℕ) : Type 0 where
  pub others : UnionsOnly a b
  pub shortened : Shortened a.counts a.unions.now last i b.unions.now seen

pub shortened_begun : {a : Building} {first r : ℕ} (i : ℕ) → Links a.counts (rows_of a) 0 (words a.unions.now) → first < a.counts.members → RangeOf (rows_of a) first r
    → i ≡ get_or (words a.unions.now) (2 * first + 1) 0 → ShortenedTo a a first i (set (replicate 512 0) r 1)
shortened_begun {a} i d h f e = record { others = unions_none a; shortened = shortened_start i d h f e }

pub shortened_asked : {a b : Building} {last i : ℕ} {seen : List ℕ} → ShortenedTo a b last i seen → Shortened b.counts b.unions.now last i b.unions.now seen
shortened_asked d = rw d.others.counts (shortened_now d.shortened)

pub shortened_on : {a b c : Building} {last last' i : ℕ} {seen seen' : List ℕ} (i' : ℕ) → ShortenedTo a b last i seen → Passed b.counts b.unions.now i last' c.unions.now seen'
    → UnionsOnly b c → i' ≡ get_or (words c.unions.now) (2 * last' + 1) 0 → ShortenedTo a c last' i' seen'
shortened_on i' d p o e =
    let p' = rw d.others.counts at p in
    record { others = unions_then d.others o; shortened = shortened_step i' d.shortened p' e }

pub record RelinkedTo (a b : Building) : Type 0 where
  pub others : UnionsOnly a b
  pub relinked : Relinked a.counts a.unions.now b.unions.now

pub relinked_none_yet : (a : Building) → Links a.counts (rows_of a) 0 (words a.unions.now) → RelinkedTo a a
relinked_none_yet a d = record { others = unions_none a; relinked = relinked_none d }

pub relinked_asked : {a b : Building} → RelinkedTo a b → Links b.counts (rows_of b) 0 (words b.unions.now)
relinked_asked d = rw d.others.counts (relinked_now d.relinked)

pub relinked_below : {a b : Building} {i : ℕ} → RelinkedTo a b → i < a.counts.unions → i < b.counts.unions
relinked_below d l = rw d.others.counts l

pub relinked_step : {a b c : Building} → RelinkedTo a b → Relinked b.counts b.unions.now c.unions.now → UnionsOnly b c → RelinkedTo a c
relinked_step d r o =
    let r' = rw d.others.counts at r in
    record { others = unions_then d.others o; relinked = relinked_then d.relinked r' }

-- ---- one stage after another, in terms of the areas as they were at first

module _ {a b c d : Building} (keys : Keys a.counts a.area.now) (o₁ : TablesOnly a b) (o₂ : TablesOnly b c) (o₃ : TablesOnly c d)
    (l₁ : Linking parts_by_name a.counts a.counts.parts a.counts.names 0 a.area.now b.area.now)
    (l₂ : Linking requirements_by_owner b.counts b.counts.requirements (b.counts.parts + 1) 0 b.area.now c.area.now)
    (l₃ : Linking constraints_by_owner c.counts c.counts.constraints (c.counts.parts + 1) 0 c.area.now d.area.now) where
  second : Linking requirements_by_owner a.counts a.counts.requirements (a.counts.parts + 1) 0 b.area.now c.area.now
  second = rw o₁.counts at l₂

  third : Linking constraints_by_owner a.counts a.counts.constraints (a.counts.parts + 1) 0 c.area.now d.area.now
  third = rw (o₂.counts, o₁.counts) at l₃

  module _ {e : Building} (o₄ : TablesOnly d e) (l₄ : Bounding d.counts d.marks.now d.counts.ranges d.area.now e.area.now) where
    fourth : Bounding a.counts a.marks.now a.counts.ranges d.area.now e.area.now
    fourth = rw (o₃.counts, o₂.counts, o₁.counts, o₃.marks, o₂.marks, o₁.marks) at l₄

    pub parts_keyed_now : Keyed parts_by_name e.counts.parts e.counts.names (words e.area.now)
    parts_keyed_now = rw (o₄.counts, o₃.counts, o₂.counts, o₁.counts) (parts_keyed_last a.held.laid keys l₁ second third fourth)

    module _ {f : Building} (o₅ : TablesOnly e f) (l₅ : Favouring e.counts 0 e.area.now f.area.now) where
      fifth : Favouring a.counts 0 e.area.now f.area.now
      fifth = rw (o₄.counts, o₃.counts, o₂.counts, o₁.counts) at l₅

      pub parts_linked_now : Linked parts_by_name f.counts.parts f.counts.names 0 (words f.area.now)
      parts_linked_now = rw (o₅.counts, o₄.counts, o₃.counts, o₂.counts, o₁.counts) (parts_linked_last a.held.laid l₁ second third fourth fifth)

      pub chained_now : {t : List ℕ} → Noting f.counts f.marks.now f.counts.ranges f.area.now t → Chained a.counts a.marks.now a.area.now t
      chained_now l₆ =
          let sixth = rw (o₅.counts, o₄.counts, o₃.counts, o₂.counts, o₁.counts, o₅.marks, o₄.marks, o₃.marks, o₂.marks, o₁.marks) at l₆ in
          all_built a.held.laid l₁ second third fourth fifth sixth

pub requirements_keyed_now : {a b : Building} → Keys a.counts a.area.now → TablesOnly a b → Linking parts_by_name a.counts a.counts.parts a.counts.names 0 a.area.now b.area.now
    → Keyed requirements_by_owner b.counts.requirements (b.counts.parts + 1) (words b.area.now)
requirements_keyed_now {a} keys o l = rw o.counts (requirements_keyed a.held.laid keys l)

pub constraints_keyed_now : {a b c : Building} → Keys a.counts a.area.now → TablesOnly a b → TablesOnly b c
    → Linking parts_by_name a.counts a.counts.parts a.counts.names 0 a.area.now b.area.now
    → Linking requirements_by_owner b.counts b.counts.requirements (b.counts.parts + 1) 0 b.area.now c.area.now
    → Keyed constraints_by_owner c.counts.constraints (c.counts.parts + 1) (words c.area.now)
constraints_keyed_now {a} keys o p l m =
    let m' = rw o.counts at m in
    rw (p.counts, o.counts) (constraints_keyed a.held.laid keys l m')

module _ {a b c d : Building} (o₁ : TablesOnly a b) (o₂ : SameAreas b c) (o₃ : UnionsOnly c d) where
  pub unions_name : a.unions.ghost_name ≡ d.unions.ghost_name
  unions_name = sym (o₃.unions ∙ (o₂.unions ∙ ap (λ (r : MutBor (List ℕ)). r.ghost_name) o₁.unions))

  pub area_name : a.area.ghost_name ≡ d.area.ghost_name
  area_name = sym (ap (λ (r : MutBor (List ℕ)). r.ghost_name) o₃.area ∙ (o₂.area ∙ o₁.area))

  pub built_now : {u t : List ℕ} → Chained a.counts a.marks.now a.area.now b.area.now → Threading b.counts 0 b.unions.now b.area.now c.unions.now c.area.now
      → Relinked c.counts c.unions.now d.unions.now → (a.unions.ghost_name ≡ d.unions.ghost_name → u ≡ d.unions.now) → (a.area.ghost_name ≡ d.area.ghost_name → t ≡ d.area.now)
      → Built a.counts a.marks.now a.unions.now a.area.now u t
  built_now x y z e f =
      let y' = rw (o₁.counts, o₁.unions) at y in
      let z' = rw (o₂.counts, o₁.counts) at z in
      rw (e unions_name, f area_name, o₃.area) (all_linked (laid_still o₁) x y' z')
