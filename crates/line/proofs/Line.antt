-- The task line: one task more, the first task, and what a change elsewhere leaves.
use mathlib.Core.Path.{◌≡◌, refl, ap}
use mathlib.Core.Bool.{false}
use mathlib.Core.List.{List, [], ◌∷◌}
use Prim.Native.Nat.{ℕ, ◌+◌, ◌-◌, ◌<◌, ◌≤◌}
use native.Mathlib.Numerals.{add-one}
use native.Mathlib.Omega.{arith}
use lib.ListN.{length, take, drop, length-take, length-drop, drop_of_length-le}
use lib.Seq.{length-take-le, take-suc-set, drop-append-le, drop-cons, get_or-take, take-set-le}
use Rattle.rules.specs.Lists.{any, elem, snoc}
use Rattle.regions.specs.Regions.{stored}
use Rattle.state.specs.declared.Limits.{Limits}
use Rattle.state.specs.Layout.{held, Fits}
use Rattle.state.specs.Changed.{Changed}
use Rattle.state.proofs.Changed.{stored_here, changed_stored}
use Rattle.state.proofs.Sizes.{length_line, length_stored}
use Rattle.line.specs.Line.{queued, line_at, Queued}

-- ---- the code

line_more : (tail x : ℕ) (st : ℕ → List ℕ) → tail < length (st 20) → (head : ℕ) → head ≤ tail
    → queued head (tail + 1) (stored st 20 tail x) ≡ snoc (queued head tail st) x
unfolding queued snoc
line_more tail x st h head g =
    let n : length (take tail (st 20)) ≡ tail = length-take-le tail (st 20) (omega arith) in
    rw (stored_here st 20 tail x, add-one, take-suc-set (st 20) tail x h) (drop-append-le head (take tail (st 20)) (x ∷ []) (omega arith))

pub push_is : (l : Limits) (b b' : List ℕ) (tail n x : ℕ) → n ≡ x → Fits l (length b) → tail < 3649 + l.waiting → held l b' ≡ stored (held l b) 20 tail n
    → Queued tail x (held l b) (tail + 1) (held l b')
push_is l b b' tail n x q f h e' =
    let e : held l b' ≡ stored (held l b) 20 tail x = rw q at e' in
    let g : tail < length (held l b 20) = rw (length_line l b f) h in
    record { count = refl; size = rw e (length_stored (held l b) 20 tail x 20); line = rw e (line_more tail x (held l b) g); before = λ head k. rw (e, stored_here (held l b) 20 tail x) (take-set-le head (held l b 20) tail x k); others = changed_stored 20 tail x e (unfold any in refl) }

-- ---- for callers

-- none waits where head and tail meet
pub queued_none : (n : ℕ) (st : ℕ → List ℕ) → queued n n st ≡ []
unfolding queued
queued_none n st = drop_of_length-le (take n (st 20)) {i = n} (rw length-take (omega arith))

-- the first that waits, and the rest
pub queued_first : (head tail r : ℕ) (st : ℕ → List ℕ) → head < tail → tail ≤ length (st 20) → r ≡ line_at head st
    → queued head tail st ≡ r ∷ queued (head + 1) tail st
unfolding queued line_at
queued_first head tail r st h g e =
    let n : length (take tail (st 20)) ≡ tail = length-take-le tail (st 20) g in
    rw (e, add-one, ← get_or-take tail (st 20) head 0 h) (drop-cons (take tail (st 20)) head 0 (omega arith))

pub length_queued : (head tail : ℕ) (st : ℕ → List ℕ) → tail ≤ length (st 20) → length (queued head tail st) ≡ tail - head
unfolding queued
length_queued head tail st h = rw (length-drop, length-take-le tail (st 20) h)

pub queued_same : (head tail : ℕ) {js : List ℕ} {st st' : ℕ → List ℕ} → Changed js st st' → elem 20 js ≡ false → queued head tail st' ≡ queued head tail st
unfolding queued
queued_same head tail c e = ap (λ (w : List ℕ). drop head (take tail w)) (c.same 20 e)

pub line_room : (l : Limits) (bytes : List ℕ) (tail : ℕ) → Fits l (length bytes) → tail ≤ 3649 + l.waiting → tail ≤ length (held l bytes 20)
line_room l bytes tail f h = rw (length_line l bytes f) h
