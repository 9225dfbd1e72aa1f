-- Levels never fall along the decisions of a reached state, so an undo removes a last part of the list: every decision above its level, and no other.
use mathlib.Core.Path.{◌≡◌, refl, ap}
use mathlib.Core.Bool.{false, true≢false}
use mathlib.Core.List.{List, [], ◌∷◌, ◌++◌}
use Prim.Native.Nat.{ℕ, ◌<◌, ◌≤◌}
use native.Mathlib.Nat.{le_refl, le_trans}
use native.Mathlib.Decide.{dec_le, ℕ_discrete}
use native.Mathlib.Omega.{arith}
use borrow.Author.Tests.{eq-eqb, ne_eqb, ltb-false, leb-true, le-leb, lt-leb}
use Rattle.rules.specs.Lists.{filter, snoc}
use Rattle.rules.specs.Catalogue.{Catalogue}
use Rattle.rules.specs.Decisions.{Decision, last_level, up_to_level}
use Rattle.rules.specs.State.{State, Run}
use Rattle.rules.specs.Run.{begun}
use Rattle.rules.specs.Records.{Command}
use Rattle.rules.specs.Limits.{Limits}
use Rattle.rules.specs.Sheet.{too_low, decide, command_refusals, carried_out}
use Rattle.rules.proofs.Each.{Each, each_imp, each_filter, each_snoc, each_passes, Pairwise, pairwise_snoc, pairwise_filter, when_cases}
use Rattle.rules.proofs.Reached.{tested, passes, Reached, command}
use Rattle.rules.proofs.RunLaws.{Within, OneRun, every_run}

-- no decision has a lower level than one before it
abbrev pub Rising : List Decision → Type 0
Rising ds = Pairwise (λ (d e : Decision). d.level ≤ e.level) ds

-- ---- the last level is the highest

pub last_highest : {ds : List Decision} → Rising ds → Each (λ (d : Decision). d.level ≤ last_level ds) ds
last_highest Pairwise.nil = Each.nil
last_highest (Pairwise.cons q qs) = before q (last_highest qs)
  where
    before : {d : Decision} {ds : List Decision} → Each (λ (e : Decision). d.level ≤ e.level) ds → Each (λ (e : Decision). e.level ≤ last_level ds) ds
        → Each (λ (e : Decision). e.level ≤ last_level (d ∷ ds)) (d ∷ ds)
    before Each.nil Each.nil = unfold last_level in Each.cons (le_refl _) Each.nil
    before (Each.cons p ps) (Each.cons h hs) = unfold last_level in Each.cons (le_trans p h) (Each.cons h hs)

-- refusal 9 has been passed
high_enough : (level : ℕ) (s : State) → too_low level s ≡ false → (0 < level) × (last_level s.decisions ≤ level)
unfolding too_low
high_enough level s e = go (ℕ_discrete level 0)
  where
    go : Dec (level ≡ 0) → (0 < level) × (last_level s.decisions ≤ level)
    go (yes q) = absurd (true≢false (rw eq-eqb at e))
    go (no n) = (omega arith, ltb-false _ _ (rw ne_eqb at e))

-- ---- undo

-- the list is what an undo to level k keeps and, behind it, what it removes
pub record Undone (k : ℕ) (ds : List Decision) : Type 0 where
  pub removed : List Decision
  pub is : ds ≡ up_to_level k ds ++ removed
  pub kept_low : Each (λ (d : Decision). d.level ≤ k) (up_to_level k ds)
  pub removed_high : Each (λ (d : Decision). k < d.level) removed

kept : (k : ℕ) (ds : List Decision) → Each (λ (d : Decision). d.level ≤ k) (up_to_level k ds)
unfolding up_to_level
kept k ds = each_imp (λ d e. leb-true _ _ e) (each_passes _ ds)

keeps_low : (k : ℕ) (d : Decision) (ds : List Decision) → d.level ≤ k → up_to_level k (d ∷ ds) ≡ d ∷ up_to_level k ds
unfolding up_to_level filter
keeps_low k d ds h = rw (le-leb, filter)

keeps_none : (k : ℕ) {ds : List Decision} → Each (λ (d : Decision). k < d.level) ds → up_to_level k ds ≡ []
unfolding up_to_level filter
keeps_none k Each.nil = refl
keeps_none k (Each.cons h hs) = rw (lt-leb, filter) (keeps_none k hs)

pub undone : (k : ℕ) {ds : List Decision} → Rising ds → Undone k ds
undone k Pairwise.nil = record { removed = []; is = unfold up_to_level filter in refl; kept_low = kept k []; removed_high = Each.nil }
undone k (Pairwise.cons {x = d} {xs = ds} q qs) = go (dec_le d.level k) (undone k qs)
  where
    go : Dec (d.level ≤ k) → Undone k ds → Undone k (d ∷ ds)
    go (yes h) u =
        let is : d ∷ ds ≡ d ∷ (up_to_level k ds ++ u.removed) = ap (λ l. d ∷ l) u.is in
        record { removed = u.removed; is = rw (keeps_low k d ds h) is; kept_low = kept k (d ∷ ds); removed_high = u.removed_high }
    go (no n) u =
        let high : Each (λ (e : Decision). k < e.level) (d ∷ ds) = Each.cons {x = d} (omega arith) (each_imp (λ e h. omega arith) q) in
        record { removed = d ∷ ds; is = rw (keeps_none k high); kept_low = kept k (d ∷ ds); removed_high = high }

-- ---- during a run

-- levels rise along the list, to at most this one
record UpTo (level : ℕ) (ds : List Decision) : Type 0 where
  rising : Rising ds
  positive : Each (λ (d : Decision). 0 < d.level) ds
  most : Each (λ (d : Decision). d.level ≤ level) ds

one_more : {level : ℕ} {ds : List Decision} (d : Decision) → d.level ≡ level → 0 < level → UpTo level ds → UpTo level (snoc ds d)
one_more d e h u =
    record {
      rising = pairwise_snoc u.rising (rw e u.most);
      positive = each_snoc u.positive (rw e h);
      most = each_snoc u.most (rw e (le_refl _));
    }

within_up_to : {c : Catalogue} {r : Run} {s₀ s : State} → 0 < r.level → UpTo r.level s₀.decisions → Within c r s₀ s → UpTo r.level s.decisions
within_up_to h u Within.begins = u
within_up_to h u (Within.opens w o) = within_up_to h u w
within_up_to h u (Within.stores w e n) = within_up_to h u w
within_up_to h u (Within.reports w i l) = within_up_to h u w
within_up_to h u (Within.sets w t n) = one_more _ refl h (within_up_to h u w)

-- ---- every job

pub record Levels (ds : List Decision) : Type 0 where
  pub rising : Rising ds
  pub positive : Each (λ (d : Decision). 0 < d.level) ds

-- with any level that refusal 9 lets pass
up_to : {level : ℕ} {ds : List Decision} → Levels ds → last_level ds ≤ level → UpTo level ds
up_to v h = record { rising = v.rising; positive = v.positive; most = each_imp (λ d e. le_trans e h) (last_highest v.rising) }

decide_levels : (x value level : ℕ) (s : State) → too_low level s ≡ false → Levels s.decisions → Levels (decide x value level s).decisions
unfolding decide
decide_levels x value level s e v =
    let h = high_enough level s e in
    let u : UpTo level _ = one_more _ refl h.0 (up_to v h.1) in
    when_cases (λ (t : State). Levels t.decisions) _ _ s v (λ n. record { rising = u.rising; positive = u.positive })

run_levels : {c : Catalogue} {level : ℕ} {s s' : State} → too_low level s ≡ false → OneRun c level s s' → Levels s.decisions → Levels s'.decisions
unfolding begun
run_levels {c} {level} {s} e w v =
    let h = high_enough level s e in
    let u = within_up_to (rw w.at_level h.0) (up_to v (rw w.at_level h.1)) w.within in
    record { rising = u.rising; positive = u.positive }

undo_levels : (level : ℕ) {ds : List Decision} → Levels ds → Levels (up_to_level level ds)
unfolding up_to_level
undo_levels level v = record { rising = pairwise_filter _ v.rising; positive = each_filter _ v.positive }

pub levels : {l : Limits} {c : Catalogue} {s : State} → Reached l c s → Levels s.decisions
unfolding carried_out command_refusals tested
levels Reached.begun = record { rising = Pairwise.nil; positive = Each.nil }
levels (command r (Command.add o) p) = levels r
levels (command r (Command.draw k) p) = levels r
levels (command r (Command.run level) p) = run_levels (passes p 0) (every_run r level) (levels r)
levels (command {s} r (Command.decide x value level) p) = decide_levels x value level s (passes p 2) (levels r)
levels (command r (Command.undo level) p) = undo_levels level (levels r)

pub undo_removes : {l : Limits} {c : Catalogue} {s : State} → Reached l c s → (level : ℕ) → Undone level s.decisions
undo_removes r level = undone level (levels r).rising
