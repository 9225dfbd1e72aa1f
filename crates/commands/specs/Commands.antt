-- What a command does to the state that the areas hold, or its refusal.
use Rattle.std.specs.Prelude.{◌≡◌, Bool, true, false, ◌&&◌, List, ℕ, length, get_or, Result, Ok, Err}
use Rattle.std.proofs.Math.Option.{none}
use Rattle.rules.specs.Lists.{snoc, when}
use Rattle.rules.specs.Literal.{Literal}
use Rattle.rules.specs.Catalogue.{Owner, Requirement, Catalogue, no_requirement}
use Rattle.rules.specs.Conditions.{is_condition}
use Rattle.rules.specs.Refusals.{ok, refuse}
use Rattle.rules.specs.Records.{Command}
use Rattle.rules.specs.Decisions.{evaluate, is_falsified, is_undecided}
use Rattle.rules.specs.Opening as opening
use Rattle.rules.specs.State as rules
use Rattle.rules.specs.State.{set_decisions, decided_true}
use Rattle.rules.specs.Sheet.{carry_out}
use Rattle.rules.proofs.Each.{Each}
use Rattle.refusal.specs.declared.Refusal.{Refusal}
use Rattle.refusal.specs.declared.Refusal.TheVariants.{DecidedAgainst}
use Rattle.refusal.specs.Refusing.{refusal_of}
use Rattle.state.specs.declared.Limits.{Limits}
use Rattle.state.specs.Layout.{held}
use Rattle.decision_tracker.specs.Tracking.{decisions}
use Rattle.marked.specs.Marked.{Marked}
use Rattle.encoder.specs.declared.Counters.{Counters}
use Rattle.encoder.specs.declared.State.{State}
use Rattle.encoder.specs.Held.{Reading, state_of, Good}
use Rattle.encoder.specs.Did.{on_opening, is_full}
use Rattle.encoder.specs.Does.{regions_of}
use Rattle.state.specs.Limits.{limits_of}
use Rattle.encoder.proofs.Counted.{with_decisions}

-- between two records the state area changed from st to st', and the state by F
pub record ChangesOf (c : Catalogue) (l : Limits) (F : rules.State → rules.State) (n : Counters) (st : ℕ → List ℕ) (cl wt : List ℕ) (n' : Counters) (st' : ℕ → List ℕ) : Type 0 where
  pub good : Good c l n st cl wt → Good c l n' st' cl wt
  pub hand : Marked 14 15 0 st → Marked 14 15 0 st'
  pub full : is_full n' ≡ is_full n
  pub runs : n'.runs ≡ n.runs
  pub is : (v : Reading) → state_of c l v n' st' cl wt ≡ F (state_of c l v n st cl wt)

-- whatever the catalogue and the other areas
pub record Changes (l : Limits) (F : rules.State → rules.State) (n : Counters) (st : ℕ → List ℕ) (n' : Counters) (st' : ℕ → List ℕ) : Type 0 where
  pub is : (c : Catalogue) (cl wt : List ℕ) → ChangesOf c l F n st cl wt n' st'

-- of the encoder's state, in the same area and within the same limits
pub record StateChanges (F : rules.State → rules.State) (x x' : State) : Type 0 where
  pub limits : x'.limits ≡ x.limits
  pub area : x'.area.ghost_name ≡ x.area.ghost_name
  pub changes : Changes x.limits F x.used (regions_of x) x'.used (held x.limits x'.area.now)

-- ---- an added owner

-- counters with another number of added owners
abbrev pub with_added : ℕ → Counters → Counters
with_added x n =
    record {
      variables = n.variables;
      clauses = n.clauses;
      literals = n.literals;
      decisions = n.decisions;
      owners = n.owners;
      names = n.names;
      several = n.several;
      added = x;
      named = n.named;
      tracked = n.tracked;
      waiting = n.waiting;
      drawn = n.drawn;
      first = n.first;
      tail = n.tail;
      runs = n.runs;
      full = n.full;
    }

-- owner o is added where there were k, and there are k'; no other counter changes
pub record AddsOwner (l : Limits) (o : Owner) (k : ℕ) (st : ℕ → List ℕ) (k' : ℕ) (st' : ℕ → List ℕ) : Type 0 where
  pub changes : (n : Counters) → n.added ≡ k → Changes l (on_opening (opening.add o)) n st (with_added k' n) st'

-- ---- a draw

-- b says that no flag is set
pub record NoneSet (b : Bool) (flags : List Bool) : Type 0 where
  pub none : b ≡ true → (i : ℕ) → get_or flags i false ≡ false

-- an entry of condition k, by these requirements, whose disjunct is flagged
unfoldable pub is_flagged : List Requirement → (flags : List Bool) → (k : ℕ) → ℕ × ℕ → Bool
is_flagged rs flags k e = is_condition k (get_or rs e.0 no_requirement).condition && get_or flags e.1 false

-- nothing of condition k is to be drawn
pub record Idle (c : Catalogue) (true? : ℕ → Bool) (k : ℕ) (s : opening.Opening) : Type 0 where
  pub none : Each (λ (e : ℕ × ℕ). opening.is_drawn c true? k e ≡ false) s.waiting

-- the entries of condition k that hold were drawn
pub record Draws (c : Catalogue) (l : Limits) (k : ℕ) (n : Counters) (st : ℕ → List ℕ) (wt : List ℕ) (n' : Counters) (wt' : List ℕ) : Type 0 where
  pub good : (cl : List ℕ) → Good c l n st cl wt → Good c l n' st cl wt'
  pub full : is_full n' ≡ is_full n
  pub runs : n'.runs ≡ n.runs
  pub is : (cl : List ℕ) (v : Reading)
      → state_of c l v n' st cl wt' ≡ on_opening (opening.draw c (decided_true (state_of c l v n st cl wt)) k) (state_of c l v n st cl wt)

-- the same of the encoder's state, whose area stays as it is
pub record DrawDoes (c : Catalogue) (k : ℕ) (x : State) (wt : List ℕ) (x' : State) (wt' : List ℕ) : Type 0 where
  pub limits : x'.limits ≡ x.limits
  pub area : x'.area.ghost_name ≡ x.area.ghost_name
  pub bytes : x'.area.now ≡ x.area.now
  pub draws : Draws c x.limits k x.used (regions_of x) wt x'.used wt'

-- ---- a decision

-- a literal is decided true at this level, unless it is decided
unfoldable pub decided_to : Literal → ℕ → rules.State → rules.State
decided_to x level s =
    when (is_undecided (evaluate s.decisions x))
    (λ (u : rules.State). set_decisions (snoc u.decisions (record { variable = x.variable; value = x.positive; level = level; clause = none })) u) s

-- the same, where there are k decisions, or refused where it is decided false, and then no byte changes; no other counter does
pub record DecidesLiteral (l : Limits) (y : Literal) (level k : ℕ) (s : List ℕ) (r : Result ℕ Refusal) (s' : List ℕ) : Type 0 where
  pub to : (d : ℕ) → r ≡ Ok d → is_falsified (evaluate (decisions k (held l s)) y) ≡ false
  pub changes : (d : ℕ) → r ≡ Ok d → (n : Counters) → n.decisions ≡ k → Changes l (decided_to y level) n (held l s) (with_decisions d n) (held l s')
  pub refused : (f : Refusal) → r ≡ Err f → (f ≡ DecidedAgainst) × (is_falsified (evaluate (decisions k (held l s)) y) ≡ true)
  pub same : (f : Refusal) → r ≡ Err f → s' ≡ s

-- ---- a command

-- carried out
pub record CarriedOut (c : Catalogue) (l : Limits) (o : Command) (n : Counters) (st : ℕ → List ℕ) (cl wt : List ℕ) (m : Counters) (st' : ℕ → List ℕ) : Type 0 where
  pub good : Good c l n st cl wt → Good c l m st' cl wt
  pub hand : Marked 14 15 0 st → Marked 14 15 0 st'
  pub full : is_full m ≡ is_full n
  pub runs : m.runs ≡ n.runs
  pub is : (v : Reading) → carry_out (limits_of l) c o (state_of c l v n st cl wt) ≡ ok (state_of c l v m st' cl wt)

-- the command, of the state alone: carried out as the definition says, or refused with its refusal, and then nothing changes
pub record Outcomes (c : Catalogue) (o : Command) (x : State) (r : Result (Unit {0}) Refusal) (x' : State) : Type 0 where
  pub limits : x'.limits ≡ x.limits
  pub area : x'.area.ghost_name ≡ x.area.ghost_name
  pub carried : r ≡ Ok tt → (cl wt : List ℕ) → CarriedOut c x.limits o x.used (regions_of x) cl wt x'.used (held x.limits x'.area.now)
  pub refused : (f : Refusal) → r ≡ Err f → (cl wt : List ℕ) (v : Reading)
      → carry_out (limits_of x.limits) c o (state_of c x.limits v x.used (regions_of x) cl wt) ≡ refuse (refusal_of f)
  pub same : (f : Refusal) → r ≡ Err f → x' ≡ x

-- the same of one that does not read the catalogue
pub record PlainOutcomes (o : Command) (x : State) (r : Result (Unit {0}) Refusal) (x' : State) : Type 0 where
  pub is : (c : Catalogue) → Outcomes c o x r x'

-- of one that reads only how many parts it has
pub record PartOutcomes (parts : ℕ) (o : Command) (x : State) (r : Result (Unit {0}) Refusal) (x' : State) : Type 0 where
  pub is : (c : Catalogue) → length c.parts ≡ parts → Outcomes c o x r x'

-- of one that changes added owners alone, in an area of these bytes: where there were k there are d, whatever the other counters; if refused, no byte changes
pub record AddsTo (parts : ℕ) (l : Limits) (o : Command) (k : ℕ) (s : List ℕ) (r : Result ℕ Refusal) (s' : List ℕ) : Type 0 where
  pub to : (d : ℕ) → r ≡ Ok d → (n : Counters) → n.added ≡ k → (c : Catalogue) → length c.parts ≡ parts → (cl wt : List ℕ)
      → CarriedOut c l o n (held l s) cl wt (with_added d n) (held l s')
  pub refused : (f : Refusal) → r ≡ Err f → (n : Counters) → n.added ≡ k → (c : Catalogue) → length c.parts ≡ parts → (cl wt : List ℕ) (v : Reading)
      → carry_out (limits_of l) c o (state_of c l v n (held l s) cl wt) ≡ refuse (refusal_of f)
  pub same : (f : Refusal) → r ≡ Err f → s' ≡ s

-- of one that changes decisions alone, where there are v variables and k decisions; likewise
pub record DecidesTo (l : Limits) (o : Command) (v k : ℕ) (s : List ℕ) (r : Result ℕ Refusal) (s' : List ℕ) : Type 0 where
  pub to : (d : ℕ) → r ≡ Ok d → (n : Counters) → n.variables ≡ v → n.decisions ≡ k → (c : Catalogue) (cl wt : List ℕ)
      → CarriedOut c l o n (held l s) cl wt (with_decisions d n) (held l s')
  pub refused : (f : Refusal) → r ≡ Err f → (n : Counters) → n.variables ≡ v → n.decisions ≡ k → (c : Catalogue) (cl wt : List ℕ) (u : Reading)
      → carry_out (limits_of l) c o (state_of c l u n (held l s) cl wt) ≡ refuse (refusal_of f)
  pub same : (f : Refusal) → r ≡ Err f → s' ≡ s

-- of one that changes added owners and their number alone
pub record Adds (parts : ℕ) (o : Command) (x : State) (r : Result (Unit {0}) Refusal) (x' : State) : Type 0 where
  pub outcomes : PartOutcomes parts o x r x'
  pub counters : x'.used ≡ with_added x'.used.added x.used

-- of one that changes decisions and their number alone
pub record Decides (o : Command) (x : State) (r : Result (Unit {0}) Refusal) (x' : State) : Type 0 where
  pub outcomes : PlainOutcomes o x r x'
  pub counters : x'.used ≡ with_decisions x'.used.decisions x.used
