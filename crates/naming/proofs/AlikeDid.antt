-- A step that gives what G gives, or a state alike: what G settles, and what G leaves settled, is settled after it.
use mathlib.Core.Path.{◌≡◌, ap}
use mathlib.Core.Bool.{true, false}
use mathlib.Core.List.{List}
use Prim.Native.Nat.{ℕ}
use Rattle.rules.specs.Lists.{elem}
use Rattle.rules.specs.Catalogue.{Catalogue, name_of}
use Rattle.rules.specs.Opening.{Opening}
use Rattle.rules.specs.State.{State}
use Rattle.rules.proofs.Bools.{by_cases}
use Rattle.rules.proofs.Membership.{filter_out, elem_in, elem_out}
use Rattle.rules.proofs.Grows.{Prefix, either}
use Rattle.state.specs.declared.Limits.{Limits}
use Rattle.encoder.specs.declared.Counters.{Counters}
use Rattle.encoder.specs.declared.State as encoder
use Rattle.encoder.specs.Held.{Reading, state_of, Good}
use Rattle.encoder.specs.Did.{Did, is_full}
use Rattle.encoder.specs.Does.{Does, IsGoodWith, regions_of}
use Rattle.encoder.proofs.Steps.{not_full}
use Rattle.naming.specs.Settled.{Noted, Settled, AllSettled, Settles, AreSettled}
use Rattle.naming.specs.Alike.{untracked, Alike, AlikeIn, AlikeDid, AlikeDoes, ClausesDoAlike}
use Rattle.naming.proofs.Alike.{in_same, there, tracked_same}
use Rattle.naming.proofs.Settled.{Stands, settled_stands, other_areas}

-- ---- what is settled in a state is so in one alike

noted_alike : (c : Catalogue) (p : ℕ) {o o' : Opening} → Alike c o o' → Noted c p o → Noted c p o'
noted_alike c p {o} {o'} a h =
    let several = elem (name_of c p) o.several in
    rw (tracked_same a, several_same)
    (by_cases (elem p o.tracked) (λ e. rw e) (λ e. rw e (either several several (elem p o.named) (elem p o'.named) (λ z. z) (still e) (rw e at h))))
  where
    several_same : o'.several ≡ o.several
    several_same = ap (λ (x : Opening). x.several) a.rest

    out_of : (ts ps : List ℕ) → elem p (untracked ts ps) ≡ true → elem p ps ≡ true
    out_of ts ps e = unfold untracked in elem_in ps (filter_out _ ps (elem_out p _ e)).0

    still : elem p o.tracked ≡ false → elem p o.named ≡ true → elem p o'.named ≡ true
    still e n = out_of o.tracked o'.named (rw a.joining (there c p o.tracked o.named e n))

settled_alike : {c : Catalogue} {s s' : State} {p : ℕ} → AlikeIn c s s' → Settled c s p → Settled c s' p
settled_alike {c} {s} {s'} {p} a h =
    record {
      known = rw (ap (λ (u : State). u.variables) a.rest) h.known;
      noted = noted_alike c p a.opening h.noted;
      opened = λ e. rw (ap (λ (o : Opening). o.owners) a.opening.rest) (h.opened e);
    }

all_alike : {c : Catalogue} {rs : List ℕ} {s s' : State} → AlikeIn c s s' → AllSettled c rs s → AllSettled c rs s'
all_alike a h = record { each = λ r p m n. settled_alike a (h.each r p m n) }

-- ---- steps

module _ {c : Catalogue} {l : Limits} {G : Reading → State → State} {n n' : Counters} {st st' : ℕ → List ℕ} {cl wt cl' wt' : List ℕ} where
  pub did_alike : Did c l G n st cl wt n' st' cl' wt' → AlikeDid c l G n st cl wt n' st' cl' wt'
  did_alike d = record { step = G; did = d; like = λ f v. in_same }

  -- the same by another name
  pub alike_as : {F : Reading → State → State} → AlikeDid c l F n st cl wt n' st' cl' wt' → ((v : Reading) → F v (state_of c l v n st cl wt) ≡ G v (state_of c l v n st cl wt))
      → AlikeDid c l G n st cl wt n' st' cl' wt'
  alike_as d h = record { step = d.step; did = d.did; like = λ f v. rw (← h v) (d.like f v) }

module _ {c : Catalogue} {l : Limits} {G : Reading → State → State} {n n' : Counters} {st st' : ℕ → List ℕ} {cl wt cl' wt' : List ℕ}
    (d : AlikeDid c l G n st cl wt n' st' cl' wt') (g : Good c l n st cl wt) {rs : List ℕ} where
  -- what is settled by G is settled now
  pub settles_by : ((v : Reading) → is_full n ≡ false → AllSettled c rs (G v (state_of c l v n st cl wt))) → Settles c l rs n' st'
  settles_by h =
      record {
        held = λ f v cl'' wt''.
            let e = not_full d.did g f in
            other_areas l v v n' st' cl' wt' cl'' wt'' (rw (d.did.done g e f v) (all_alike (d.like e v) (h v e)));
      }

  -- G settles them
  pub settles_done : ((v : Reading) (s : State) → AllSettled c rs (G v s)) → Settles c l rs n' st'
  settles_done h = settles_by (λ v e. h v (state_of c l v n st cl wt))

  -- G leaves them settled
  pub settles_stand : ((v : Reading) (s : State) → Stands s.opening (G v s).opening) → Settles c l rs n st → Settles c l rs n' st'
  settles_stand k h =
      settles_by
      (λ v e.
      let s = state_of c l v n st cl wt in
      let more : Prefix s.variables (G v s).variables = rw (ap (λ (u : State). u.variables) (d.like e v).rest) at (d.did.wide v s).grows.variables in
      let x = h.held e v cl wt in
      record { each = λ r p a b. settled_stands more (k v s) (x.each r p a b) })

-- ---- of the encoder's state

module _ {c : Catalogue} {G : Reading → State → State} {x x' : encoder.State} {cl wt cl' wt' : List ℕ} where
  pub does_alike : Does c G x cl wt x' cl' wt' → AlikeDoes c G x cl wt x' cl' wt'
  does_alike d = record { limits = d.limits; area = d.area; did = did_alike d.did }

  pub alike_does_as : {F : Reading → State → State} → AlikeDoes c F x cl wt x' cl' wt'
      → ((v : Reading) → F v (state_of c x.limits v x.used (regions_of x) cl wt) ≡ G v (state_of c x.limits v x.used (regions_of x) cl wt)) → AlikeDoes c G x cl wt x' cl' wt'
  alike_does_as d h = record { limits = d.limits; area = d.area; did = alike_as d.did h }

  module _ (d : AlikeDoes c G x cl wt x' cl' wt') (g : IsGoodWith c x cl wt) where
    pub good_alike : IsGoodWith c x' cl' wt'
    good_alike = rw d.limits (d.did.did.good g)

    module _ {rs : List ℕ} where
      pub settled_by : ((v : Reading) → is_full x.used ≡ false → AllSettled c rs (G v (state_of c x.limits v x.used (regions_of x) cl wt))) → AreSettled c rs x'
      settled_by h = rw d.limits (settles_by d.did g h)

      pub settled_done : ((v : Reading) (s : State) → AllSettled c rs (G v s)) → AreSettled c rs x'
      settled_done h = rw d.limits (settles_done d.did g h)

      pub settled_stand : ((v : Reading) (s : State) → Stands s.opening (G v s).opening) → AreSettled c rs x → AreSettled c rs x'
      settled_stand k h = rw d.limits (settles_stand d.did g k h)

pub clauses_alike_all : {c : Catalogue} {G : Reading → State → State} {x x' : encoder.State} {cl cl' wt : List ℕ} → ClausesDoAlike c G x cl x' cl' → AlikeDoes c G x cl wt x' cl' wt
clauses_alike_all {wt = wt} d = record { limits = d.limits; area = d.area; did = d.did.is wt }
