-- Blocked conditions: a draw of one changes nothing, and each command keeps them blocked but for a decision that makes a watched part true.
use mathlib.Core.Path.{◌≡◌, refl, sym, ◌∙◌, fun_ext}
use mathlib.Core.Logic.{◌≢◌, ◌⊎◌, inl, inr, ⊎_elim}
use mathlib.Core.Bool.{Bool, true, false, ◌&&◌, true≢false}
use mathlib.Core.List.{List, []}
use mathlib.Core.Option.{Option, none, some}
use Prim.Native.Nat.{ℕ, ◌<◌}
use lib.Dec.{eqb}
use lib.ListN.{length, get_or}
use borrow.Author.Tests.{eqb-true}
use Rattle.std.specs.declared.option.Option as code_option
use Rattle.std.specs.Prelude.{Some, None}
use Rattle.rules.specs.Called.{◌∈◌}
use Rattle.rules.specs.Catalogue.{root, part, Catalogue, condition_at}
use Rattle.rules.specs.Conditions.{Disjunct, disjuncts, disjuncts_if, disjuncts_of, disjunct_at, is_condition}
use Rattle.rules.specs.Refusals.{ok}
use Rattle.rules.specs.Records.{Command}
use Rattle.rules.specs.Variables.{Origin, chosen, known, part_origin, part_variable}
use Rattle.rules.specs.Decisions.{Decision}
use Rattle.rules.specs.Opening.{Opening, holds_now, entry_holds, is_drawn}
use Rattle.rules.specs.State.{State, decided_true}
use Rattle.rules.specs.Limits as rules
use Rattle.rules.specs.Sheet.{carried_out, carry_out, decide}
use Rattle.rules.proofs.Bools.{by_cases}
use Rattle.rules.proofs.Each.{each_imp, when_cases}
use Rattle.rules.proofs.Member.{at_member, contrary}
use Rattle.rules.proofs.Evaluation.{true_after}
use Rattle.rules.proofs.Places.{stands}
use Rattle.rules.proofs.Reached.{Given, Reached}
use Rattle.rules.proofs.Valid.{Entry, valid}
use Rattle.rules.proofs.Decided.{run_once_same}
use Rattle.reader.specs.declared.Command as code
use Rattle.reader.specs.declared.Command.TheVariants as C
use Rattle.reader.specs.Reading.{command_of}
use Rattle.tables.specs.declared.Counts.{Counts}
use Rattle.tables.specs.Tables.{tables}
use Rattle.cache.specs.Areas.{catalogue}
use Rattle.cache.proofs.Laws.{conditions_held}
use Rattle.variable_map.specs.declared.Origin as code_origin
use Rattle.variable_map.specs.declared.Origin.TheVariants as O
use Rattle.variable_map.specs.Mapping.{origin_of}
use Rattle.encoder.specs.declared.State as encoder
use Rattle.encoder.specs.declared.Assignment.{Assignment}
use Rattle.encoder.specs.Assignments.{AssignmentOf}
use Rattle.goals.specs.Goals.{true_of, truth_of, truth_in, AllGiven}
use Rattle.goals.proofs.Given.{all_given}
use Rattle.goals.proofs.Assignments.{truth_same}
use Rattle.blocking.specs.declared.Blocking.{Blocking}
use Rattle.blocking.specs.declared.Listing.{Listing}
use Rattle.blocking.specs.Blocking.{is_blocked, Blocked, Blocks, Releases, Listed}
use Rattle.blocking.proofs.Blocked.{blocked_still}
use Rattle.blocking.proofs.Judging.{blocks_known}
use Rattle.blocking.proofs.Sharing.{shared_blocks}
use Rattle.commands.specs.Commands.{Idle}
use Rattle.commands.proofs.Idling.{idle_draw}
use Rattle.carried.specs.Carrying.{Settled, Has, Guards, Idles, IsFlagged, MakesTrue, Unblocks}
use Rattle.carried.proofs.Undoing.{decided_before}
use Rattle.carried.proofs.Settling.{drawn_is, carried_is, settled_draw}

-- ---- where no disjunct of a condition holds

module _ (c : Catalogue) (f : ℕ → Bool) (k : ℕ) (h : (d : Disjunct) → d ∈ disjuncts c.conditions k → holds_now c f d ≡ false) where
  entry_idle : (e : ℕ × ℕ) → Entry c e → is_drawn c f k e ≡ false
  unfolding is_drawn entry_holds disjunct_at disjuncts_of disjuncts_if
  entry_idle e g = go (condition_at c e.0) g.disjunct
    where
      go : (o : Option ℕ) → e.1 < length (disjuncts_if c.conditions o) → (is_condition k o && holds_now c f (get_or (disjuncts_if c.conditions o) e.1 [])) ≡ false
      go none l = refl
      go (some j) l = by_cases (eqb j k) (λ q. rw q (fails j (eqb-true j k q) l)) (λ q. rw q)
        where
          fails : (j : ℕ) → j ≡ k → e.1 < length (disjuncts c.conditions j) → holds_now c f (get_or (disjuncts c.conditions j) e.1 []) ≡ false
          fails j q l = rw q (h (get_or (disjuncts c.conditions k) e.1 []) (at_member (disjuncts c.conditions k) e.1 [] (rw q at l)))

  idle_failing : (s : Opening) → AllGiven c s.waiting → Idle c f k s
  idle_failing s a = record { none = each_imp entry_idle a.given }

-- ---- the code's draw

pub has_true : {vs : List Origin} {ds : List Decision} {s : State} → Has vs ds s → decided_true s ≡ true_of vs ds
unfolding decided_true true_of
has_true h = fun_ext (λ p. rw (h.variables, h.decisions))

-- a draw decides nothing
guards_draw : {c : Catalogue} {vs : List Origin} {ds : List Decision} (k : ℕ) {blocking blocking' : Blocking}
    → (Blocked c (true_of vs ds) blocking → Blocked c (true_of vs ds) blocking') → Guards c vs ds (Command.draw k) blocking blocking'
unfolding carried_out decided_true
guards_draw {c} {vs} {ds} k {blocking} {blocking'} f = record { is = is }
  where
    is : (l : rules.Limits) (s s' : State) → Reached l c s → Has vs ds s → carry_out l c (Command.draw k) s ≡ ok s' → Blocked c (decided_true s) blocking
        → Blocked c (decided_true s') blocking'
    is l s s' r h e b =
        let same : decided_true s' ≡ decided_true s = rw (← carried_is l c s (Command.draw k) s' e) (unfold carried_out decided_true in refl) in
        rw (same ∙ has_true h) (f (rw (has_true h) at b))

module _ {c : Catalogue} {vs : List Origin} {ds : List Decision} (k : ℕ) {flags : List Bool} {blocking : Blocking} where
  -- it is flagged
  pub idles_settled : {b : Bool} → b ≡ get_or flags k false → b ≡ true → Idles c vs ds (Command.draw k) flags blocking true blocking
  idles_settled e q = record { is = λ _ l s g r h z w. settled_draw l c s z k (sym e ∙ q); guards = guards_draw k (λ w. w) }

  -- it is asked
  idles_asked : {b : Bool} {blocking' : Blocking} → k < length c.conditions → Blocks c (true_of vs ds) k b blocking blocking'
      → Idles c vs ds (Command.draw k) flags blocking b blocking'
  idles_asked {b} g d = record { is = is; guards = guards_draw k d.keeps }
    where
      is : b ≡ true → (l : rules.Limits) (s : State) → Given c → Reached l c s → Has vs ds s → Settled c flags s → Blocked c (decided_true s) blocking
          → carry_out l c (Command.draw k) s ≡ ok s
      is e l s n r h z w =
          let fails : (d : Disjunct) → d ∈ disjuncts c.conditions k → holds_now c (decided_true s) d ≡ false = rw (has_true h) (d.none e (rw (has_true h) at w)) in
          drawn_is l c s k g ∙ rw (idle_draw c (decided_true s) k s.opening (idle_failing c (decided_true s) k fails s.opening (all_given (valid n r).opening.waiting)))

  -- there is no such condition
  pub idles_not : Idles c vs ds (Command.draw k) flags blocking false blocking
  idles_not = record { is = λ e. absurd (true≢false (sym e)); guards = guards_draw k (λ w. w) }

-- a condition is asked of a state's assignment
pub blocks_same : {x : encoder.State} {a : Assignment} {c : Catalogue} {k : ℕ} {b : Bool} {blocking blocking' : Blocking} → AssignmentOf x a
    → Blocks c (truth_in a) k b blocking blocking' → Blocks c (truth_of x) k b blocking blocking'
blocks_same e d = rw (← truth_same e) d

pub idles_given : (j : Counts) (m u t : List ℕ) {vs : List Origin} {ds : List Decision} (k : ℕ) {flags : List Bool} {blocking : Blocking} {b : Bool} {blocking' : Blocking} → k < j.conditions
    → Blocks (catalogue j m u t) (true_of vs ds) k b blocking blocking' → Idles (catalogue j m u t) vs ds (Command.draw k) flags blocking b blocking'
idles_given j m u t k h d = idles_asked k (rw (conditions_held j m u t) h) d

-- it is flagged, or blocked, or a range is that its disjuncts share
module _ {flags : List Bool} {blocking : Blocking} {listing : Listing} {conditions k : ℕ} where
  pub blocked_in : k < conditions → get_or blocking.conditions k false ≡ true → IsFlagged flags blocking listing conditions k true
  unfolding is_blocked
  blocked_in h e = record { is = λ _. inr (h, inl e) }

pub idles_flagged : (j : Counts) (m u t : List ℕ) {vs : List Origin} {ds : List Decision} (k : ℕ) {flags : List Bool} {blocking : Blocking} {listing : Listing} {b : Bool}
    → Listed (tables j t).conditions listing → IsFlagged flags blocking listing j.conditions k b → b ≡ true → Idles (catalogue j m u t) vs ds (Command.draw k) flags blocking true blocking
idles_flagged j m u t k y f q =
    ⊎_elim (λ e. idles_settled k refl e) (λ e. ⊎_elim (λ z. idles_given j m u t k e.0 (blocks_known j m u t z)) (λ z. idles_given j m u t k e.0 (shared_blocks j m u t y z)) e.1) (f.is q)

-- the ranges that its disjuncts share were asked before
pub idles_later : (j : Counts) (m u t : List ℕ) {vs : List Origin} {ds : List Decision} (k : ℕ) {flags : List Bool} {blocking blocking' blocking'' : Blocking} {a b : Bool} → k < j.conditions
    → Blocks (catalogue j m u t) (true_of vs ds) k a blocking blocking' → Blocks (catalogue j m u t) (true_of vs ds) k b blocking' blocking''
    → Idles (catalogue j m u t) vs ds (Command.draw k) flags blocking b blocking''
idles_later j m u t k h d e = idles_given j m u t k h (record { none = λ q w. e.none q (d.keeps w); keeps = λ w. e.keeps (d.keeps w) })

-- ---- the code's decision

-- only this part's origin is that of part p
other_origin : (o : code_origin.Origin) (p : ℕ) → (o ≡ O.Part p → ⊥) → origin_of o ≡ part_origin p → ⊥
other_origin O.Root p n e = cc
other_origin (O.Part q) p n e = let z : q ≡ p = cc in n (rw z)
other_origin (O.Forbid q j) p n e = cc
other_origin (O.One q) p n e = cc
other_origin (O.Violation q) p n e = cc
other_origin (O.Gate q) p n e = cc

module _ {vs : List Origin} {x value : ℕ} where
  -- another value than true
  pub makes_value : (value ≡ 1 → ⊥) → MakesTrue vs x value None
  makes_value n = record { is = λ e. absurd (n e) }

  module _ (o : code_origin.Origin) (h : origin_of o ≡ get_or vs x (chosen root)) where
    -- no part's variable
    pub makes_other : ((p : ℕ) → o ≡ O.Part p → ⊥) → MakesTrue vs x value None
    makes_other n = record { is = λ _ q e. absurd (other_origin o q (n q) (h ∙ e)) }

    pub makes_part : (p : ℕ) → o ≡ O.Part p → MakesTrue vs x value (Some p)
    makes_part p k = record { is = λ _ q e. let z : chosen (part p) ≡ part_origin q = rw k at (h ∙ e) in let y : p ≡ q = cc in rw y }

-- where only part p can be made true
made_is : {vs : List Origin} {x value : ℕ} {made : code_option.Option ℕ} → MakesTrue vs x value made → {p q : ℕ} → made ≡ Some p → value ≡ 1 → get_or vs x (chosen root) ≡ part_origin q → q ≡ p
made_is {made = made} d {p} {q} e i j = let a : made ≡ Some q = d.is i q j in cc

module _ {k : Counts} {m : List ℕ} {vs : List Origin} {x value : ℕ} {blocking : Blocking} {made : code_option.Option ℕ} (d : MakesTrue vs x value made) where
  module _ {p : ℕ} (e : made ≡ Some p) where
    pub unblocks_part : {blocking' : Blocking} → Releases k.ranges m p blocking blocking' → Unblocks k m vs x value blocking blocking'
    unblocks_part r = record { is = λ u t f h. r.is k u t refl (λ q n. f q (λ i j. n (made_is d e i j))) h }

-- a decision makes no part true but that of its variable
module _ (x value level : ℕ) (s : State) (p : ℕ) (n : value ≡ 1 → get_or s.variables x (chosen root) ≡ part_origin p → ⊥) where
  other_variable : known s.variables (part_origin p) ≡ true → eqb value 1 ≡ true → x ≢ part_variable s.variables p
  other_variable k e q = n (eqb-true value 1 e) (rw q (stands s.variables (part_origin p) (chosen root) k).1)

  abbrev decision : Decision
  decision = record { variable = x; value = eqb value 1; level = level; clause = none }

  decided_same : decided_true (decide x value level s) p ≡ decided_true s p
  unfolding decide decided_true
  decided_same =
      when_cases (λ (u : State). decided_true u p ≡ decided_true s p) _ _ s refl
      (λ _. by_cases (known s.variables (part_origin p)) (λ k. rw (true_after s.decisions decision (part_variable s.variables p) (other_variable k))) (λ k. rw k))

-- ---- the code's command

-- one that makes no part true
guards_still : {c : Catalogue} {vs : List Origin} {ds : List Decision} (o : Command) {blocking : Blocking}
    → ((l : rules.Limits) (s : State) → Reached l c s → (p : ℕ) → decided_true (carried_out l c o s) p ≡ true → decided_true s p ≡ true) → Guards c vs ds o blocking blocking
guards_still {c} {vs} {ds} o {blocking} f = record { is = is }
  where
    is : (l : rules.Limits) (s s' : State) → Reached l c s → Has vs ds s → carry_out l c o s ≡ ok s' → Blocked c (decided_true s) blocking
        → Blocked c (decided_true s') blocking
    is l s s' r h e w = rw (← carried_is l c s o s' e) (blocked_still w (λ p _ z. contrary (decided_true (carried_out l c o s) p) (decided_true s p) (f l s r p) z))

add_true : (l : rules.Limits) (c : Catalogue) (o : ℕ) (s : State) (p : ℕ) → decided_true (carried_out l c (Command.add o) s) p ≡ decided_true s p
unfolding carried_out decided_true
add_true l c o s p = refl

module _ {l : rules.Limits} {c : Catalogue} {s : State} (r : Reached l c s) (level p : ℕ) where
  run_true : decided_true (carried_out l c (Command.run level) s) p ≡ decided_true s p
  unfolding carried_out
  run_true = run_once_same r level p

  undo_true : decided_true (carried_out l c (Command.undo level) s) p ≡ true → decided_true s p ≡ true
  unfolding carried_out
  undo_true e = decided_before r level p e

module _ (x : code.Command) {c : Catalogue} {vs : List Origin} {ds : List Decision} {flags : List Bool} {blocking : Blocking} where
  idles_no : (o : Command) → command_of x ≡ o → {blocking' : Blocking} → Guards c vs ds o blocking blocking'
      → Idles c vs ds (command_of x) flags blocking false blocking'
  idles_no o q g = rw q (record { is = λ e. absurd (true≢false (sym e)); guards = g })

  pub idles_add : (o : ℕ) → x ≡ C.Add o → Idles c vs ds (command_of x) flags blocking false blocking
  unfolding command_of
  idles_add o q = idles_no (Command.add o) (rw q) (guards_still (Command.add o) (λ l s r p e. sym (add_true l c o s p) ∙ e))

  pub idles_run : (level : ℕ) → x ≡ C.Run level → Idles c vs ds (command_of x) flags blocking false blocking
  unfolding command_of
  idles_run level q = idles_no (Command.run level) (rw q) (guards_still (Command.run level) (λ l s r p e. sym (run_true r level p) ∙ e))

  pub idles_undo : (level : ℕ) → x ≡ C.Undo level → Idles c vs ds (command_of x) flags blocking false blocking
  unfolding command_of
  idles_undo level q = idles_no (Command.undo level) (rw q) (guards_still (Command.undo level) (λ l s r p e. undo_true r level p e))

  -- any of these
  pub idles_same : ((o : ℕ) × (x ≡ C.Add o)) ⊎ (((level : ℕ) × (x ≡ C.Run level)) ⊎ ((level : ℕ) × (x ≡ C.Undo level)))
      → Idles c vs ds (command_of x) flags blocking false blocking
  idles_same e = ⊎_elim (λ a. idles_add a.0 a.1) (λ b. ⊎_elim (λ a. idles_run a.0 a.1) (λ a. idles_undo a.0 a.1) b) e

  pub idles_draw : (k : ℕ) {b : Bool} {blocking' : Blocking} → x ≡ C.Draw k → Idles c vs ds (Command.draw k) flags blocking b blocking'
      → Idles c vs ds (command_of x) flags blocking b blocking'
  unfolding command_of
  idles_draw k q d = rw q d

module _ (j : Counts) (m u t : List ℕ) (x : code.Command) {vs : List Origin} {ds : List Decision} {flags : List Bool} {blocking : Blocking} where
  pub idles_decide : (v value level : ℕ) {blocking' : Blocking} → x ≡ C.Decide v value level → Unblocks j m vs v value blocking blocking'
      → Idles (catalogue j m u t) vs ds (command_of x) flags blocking false blocking'
  unfolding command_of
  idles_decide v value level {blocking'} q d = idles_no x (Command.decide v value level) (rw q) (record { is = is })
    where
      is : (l : rules.Limits) (s s' : State) → Reached l (catalogue j m u t) s → Has vs ds s → carry_out l (catalogue j m u t) (Command.decide v value level) s ≡ ok s' → Blocked (catalogue j m u t) (decided_true s) blocking
          → Blocked (catalogue j m u t) (decided_true s') blocking'
      is l s s' r h e w =
          rw (← carried_is l (catalogue j m u t) s (Command.decide v value level) s' e) (unfold carried_out in d.is u t (λ p n. decided_same v value level s p (rw (← h.variables) at n)) w)
