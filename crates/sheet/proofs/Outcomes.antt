-- From the state that the areas hold to the definitions' state: what is not kept changes no outcome.
use mathlib.Core.Path.{◌≡◌, refl, sym, ◌∙◌, ap}
use mathlib.Core.List.{List}
use Prim.Native.Nat.{ℕ, ◌<◌, ◌≤◌}
use native.Mathlib.Omega.{arith}
use Rattle.std.specs.Prelude.{Result, Ok, Err}
use Rattle.rules.specs.Catalogue.{Catalogue}
use Rattle.rules.specs.Refusals.{ok, refuse}
use Rattle.rules.specs.Refusals as rules
use Rattle.rules.specs.Records.{Command}
use Rattle.rules.specs.State.{State}
use Rattle.rules.specs.Sheet.{carry_out}
use Rattle.rules.proofs.Member.{not_one}
use Rattle.rules.proofs.Reached.{Given, Reached}
use Rattle.rules.proofs.Forgotten.{forget, forget_result, carry_out_forgets}
use Rattle.refusal.specs.declared.Refusal.{Refusal}
use Rattle.refusal.specs.declared.Refusal.TheVariants.{Missing}
use Rattle.refusal.specs.declared.Thing.TheVariants as things
use Rattle.refusal.specs.Refusing.{refusal_of}
use Rattle.tables.specs.declared.Counts.{Counts}
use Rattle.cache.specs.Areas.{catalogue}
use Rattle.cache.proofs.Laws.{conditions_held}
use Rattle.state.specs.declared.Limits.{Limits}
use Rattle.state.specs.Layout.{held}
use Rattle.marked.specs.Marked.{Marked}
use Rattle.encoder.specs.declared.Counters.{Counters}
use Rattle.encoder.specs.declared.State as encoder
use Rattle.encoder.specs.Held.{Reading, state_of, Good}
use Rattle.encoder.specs.Did.{is_full}
use Rattle.state.specs.Limits.{limits_of}
use Rattle.reader.specs.declared.Command as code
use Rattle.reader.specs.declared.Command.TheVariants as C
use Rattle.reader.specs.Reading.{command_of}
use Rattle.encoder.proofs.Steps.{nothing_kept}
use Rattle.encoding.specs.Running.{Holds, IsHolding}
use Rattle.commands.specs.Commands.{DrawDoes, Outcomes, Adds, Decides}
use Rattle.commands.proofs.Outcomes.{part_outcome}
use Rattle.commands.proofs.Drawing.{draw_carried, draw_missing}
use Rattle.sheet.specs.Sheet.{Gives, CommandDid}
use Rattle.beginning.proofs.Held.{any_reading}

-- ---- a result but for what is forgotten

-- a state that it gives
record Known (x : rules.Result State) : Type 0 where
  state : State
  is : x ≡ ok state

ok_forgotten : (x : rules.Result State) (u : State) → forget_result x ≡ ok u → Known x
unfolding forget_result
ok_forgotten (ok s) u e = record { state = s; is = refl }
ok_forgotten (refuse f) u e = absurd (not_one (cc))

forgotten_is : (s u : State) → forget_result (ok s) ≡ ok u → forget s ≡ u
unfolding forget_result
forgotten_is s u e = cc

refuse_forgotten : (x : rules.Result State) (f : rules.Refusal) → forget_result x ≡ refuse f → x ≡ refuse f
unfolding forget_result
refuse_forgotten (ok s) f e = absurd (not_one (cc))
refuse_forgotten (refuse g) f e = e

module _ {c : Catalogue} {l : Limits} {s : State} {n : Counters} {st : ℕ → List ℕ} {cl wt : List ℕ} (o : Command) (h : Holds c l s n st cl wt) where
  -- the command, of the areas' state in place of s
  as_held : (v : Reading) (x : rules.Result State) → carry_out (limits_of l) c o (state_of c l v n st cl wt) ≡ x → forget_result (carry_out (limits_of l) c o s) ≡ forget_result x
  as_held v x e = carry_out_forgets (limits_of l) c o s ∙ ap forget_result (rw (h.is v) at e)

  pub held_refused : (f : rules.Refusal) → ((v : Reading) → carry_out (limits_of l) c o (state_of c l v n st cl wt) ≡ refuse f) → carry_out (limits_of l) c o s ≡ refuse f
  held_refused f e = refuse_forgotten (carry_out (limits_of l) c o s) f (as_held any_reading (refuse f) (e any_reading) ∙ unfold forget_result in refl)

  module _ {m : Counters} {st' : ℕ → List ℕ} {cl' wt' : List ℕ} where
    pub held_carried : Good c l m st' cl' wt' → Marked 14 15 0 st' → is_full m ≡ is_full n → m.runs ≡ n.runs
        → ((v : Reading) → carry_out (limits_of l) c o (state_of c l v n st cl wt) ≡ ok (state_of c l v m st' cl' wt')) → Gives c l o s n m st' cl' wt'
    held_carried good hand full runs e =
        let f = ok_forgotten (carry_out (limits_of l) c o s) (state_of c l any_reading m st' cl' wt') (result any_reading) in
        record {
          state = f.state;
          is = f.is;
          holds = record { good = good; hand = hand; room = full ∙ h.room; is = λ v. sym (read f v) };
          runs = omega (arith, runs);
        }
      where
        result : (v : Reading) → forget_result (carry_out (limits_of l) c o s) ≡ ok (state_of c l v m st' cl' wt')
        result v = as_held v (ok (state_of c l v m st' cl' wt')) (e v) ∙ (unfold forget_result in ap ok (nothing_kept c l v m st' cl' wt'))

        read : (f : Known (carry_out (limits_of l) c o s)) (v : Reading) → forget f.state ≡ state_of c l v m st' cl' wt'
        read f v = forgotten_is f.state (state_of c l v m st' cl' wt') (rw f.is at (result v))

-- ---- carried out or refused

module _ {c : Catalogue} {o : Command} {x x' : encoder.State} {cl wt cl' wt' : List ℕ} (limits : x'.limits ≡ x.limits) (area : x'.area.ghost_name ≡ x.area.ghost_name) where
  pub did_carried : ((s : State) → Given c → Reached (limits_of x.limits) c s → IsHolding c s x cl wt → Gives c x.limits o s x.used x'.used (held x.limits x'.area.now) cl' wt')
      → CommandDid c o x cl wt (Ok tt) x' cl' wt'
  did_carried p = record { limits = limits; area = area; carried = λ e. p; refused = λ f e. absurd (not_one (cc)) }

  pub did_refused : {f : Refusal} → ((s : State) → Given c → Reached (limits_of x.limits) c s → IsHolding c s x cl wt → carry_out (limits_of x.limits) c o s ≡ refuse (refusal_of f))
      → CommandDid c o x cl wt (Err f) x' cl' wt'
  did_refused {f} p =
      record {
        limits = limits;
        area = area;
        carried = λ e. absurd (not_one (cc));
        refused = λ g e. let q : g ≡ f = cc in rw q p;
      }

-- ---- the commands

-- of one that changes the state alone
pub did_of : {c : Catalogue} {o : Command} {x x' : encoder.State} {r : Result (Unit {0}) Refusal} → Outcomes c o x r x' → (cl wt : List ℕ) → CommandDid c o x cl wt r x' cl wt
did_of {o = o} d cl wt =
    record {
      limits = d.limits;
      area = d.area;
      carried = λ e s _ _ h. let q = d.carried e cl wt in held_carried o h (q.good h.good) (q.hand h.hand) q.full q.runs q.is;
      refused = λ f e s _ _ h. held_refused o h (refusal_of f) (d.refused f e cl wt);
    }

module _ (k : Counts) (m u t : List ℕ) {x : encoder.State} {cl wt : List ℕ} where
  pub draw_did : {o : ℕ} {x' : encoder.State} {wt' : List ℕ} → o < k.conditions → DrawDoes (catalogue k m u t) o x wt x' wt'
      → CommandDid (catalogue k m u t) (Command.draw o) x cl wt (Ok tt) x' cl wt'
  draw_did {o} p d =
      did_carried d.limits d.area
      (λ s _ _ h.
      let w = d.draws in
      rw d.bytes (held_carried (Command.draw o) h (w.good cl h.good) h.hand w.full w.runs (draw_carried x.limits (catalogue k m u t) o w (rw conditions_held p) cl)))

  pub draw_refused : {o : ℕ} → k.conditions ≤ o → CommandDid (catalogue k m u t) (Command.draw o) x cl wt (Err (Missing things.Condition 1)) x cl wt
  draw_refused {o} p = did_refused refl refl (λ s _ _ _. draw_missing x.limits (catalogue k m u t) o (rw conditions_held p) s)

  pub as_add : {r : Result (Unit {0}) Refusal} {x' : encoder.State} (y : code.Command) (o : ℕ) → y ≡ C.Add o → Adds k.parts (Command.add o) x r x'
      → CommandDid (catalogue k m u t) (command_of y) x cl wt r x' cl wt
  unfolding command_of
  as_add y o e d = rw e (did_of (part_outcome k m u t d.outcomes) cl wt)

-- ---- the code's command

module _ {c : Catalogue} {x : encoder.State} {cl wt : List ℕ} {r : Result (Unit {0}) Refusal} {x' : encoder.State} (y : code.Command) where
  pub as_decide : (z v i : ℕ) → y ≡ C.Decide z v i → Decides (Command.decide z v i) x r x' → CommandDid c (command_of y) x cl wt r x' cl wt
  unfolding command_of
  as_decide z v i e d = rw e (did_of (d.outcomes.is c) cl wt)

  pub as_undo : (i : ℕ) → y ≡ C.Undo i → Decides (Command.undo i) x r x' → CommandDid c (command_of y) x cl wt r x' cl wt
  unfolding command_of
  as_undo i e d = rw e (did_of (d.outcomes.is c) cl wt)

  pub as_draw : {cl' wt' : List ℕ} (o : ℕ) → y ≡ C.Draw o → CommandDid c (Command.draw o) x cl wt r x' cl' wt' → CommandDid c (command_of y) x cl wt r x' cl' wt'
  unfolding command_of
  as_draw o e d = rw e d

  pub as_run : {cl' wt' : List ℕ} (i : ℕ) → y ≡ C.Run i → CommandDid c (Command.run i) x cl wt r x' cl' wt' → CommandDid c (command_of y) x cl wt r x' cl' wt'
  unfolding command_of
  as_run i e d = rw e d
