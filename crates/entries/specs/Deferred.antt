-- Deferred entries as a list of records with a flag for each: it is free, or it is held.
use Rattle.std.specs.Prelude.{◌≡◌, Bool, false, not, cond, List, ◌++◌, map, ℕ, ◌+◌, ◌<◌, ◌≤◌, eqb, length, get_or}
use Rattle.rules.specs.Lists.{filter, snoc, up_to}
use Rattle.state.specs.declared.Limits.{Limits}
use Rattle.entries.specs.declared.Entry.{Entry}
use Rattle.entries.specs.Entries.{no_entry, entry_of, row_at_index, waiting_in, drawn_in}

-- what stands at the places below n that pass a test, in order
unfoldable pub picked : {A : Type 0} → (ℕ → Bool) → (ℕ → A) → ℕ → List A
picked f g n = map g (filter f (up_to 0 n))

-- by a number for each: 0, it is free, or else it is held
unfoldable pub is_free : List ℕ → ℕ → Bool
is_free held i = eqb (get_or held i 0) 0

unfoldable pub is_held : List ℕ → ℕ → Bool
is_held held i = not (is_free held i)

-- the flag of an entry, by whether it is held
unfoldable pub flag_of : Bool → ℕ
flag_of b = cond b 1 0

-- ---- flags of a list

unfoldable pub held_at : List Bool → ℕ → Bool
held_at held i = get_or held i false

unfoldable pub free_at : List Bool → ℕ → Bool
free_at held i = not (held_at held i)

-- of the first n entries those are held that pass a test
pub record Flags (f : ℕ × ℕ → Bool) (n : ℕ) (xs : List (ℕ × ℕ)) (held : List Bool) : Type 0 where
  pub is : (i : ℕ) → i < n → held_at held i ≡ f (get_or xs i no_entry)

-- ---- records

abbrev pub record_of : ℕ × ℕ → Entry
record_of x = record { requirement = x.0; disjunct = x.1 }

abbrev pub record_at : List Entry → ℕ → Entry
record_at es i = get_or es i (record_of no_entry)

-- the first n rows of the area
unfoldable pub listed : List ℕ → ℕ → List Entry
listed bytes n = map (λ i. record_of (row_at_index bytes i)) (up_to 0 n)

-- of the first n records, and of the first n rows, those that are free
unfoldable pub free_records : List Bool → ℕ → List Entry → List Entry
free_records held n es = picked (free_at held) (record_at es) n

unfoldable pub free_rows : List Bool → ℕ → List ℕ → List Entry
free_rows held n bytes = picked (free_at held) (λ i. record_of (row_at_index bytes i)) n

-- ---- a draw

-- of the first n entries, those that are free, and those that are held
unfoldable pub free_of : List Bool → ℕ → List (ℕ × ℕ) → List (ℕ × ℕ)
free_of held n xs = picked (free_at held) (λ i. get_or xs i no_entry) n

unfoldable pub held_of : List Bool → ℕ → List (ℕ × ℕ) → List (ℕ × ℕ)
held_of held n xs = picked (held_at held) (λ i. get_or xs i no_entry) n

-- of n that wait, the one at place i is drawn behind the d that were, unless it is free
pub record DrawnAt (l : Limits) (held : List Bool) (n i d : ℕ) (b : List ℕ) (d' : ℕ) (b' : List ℕ) : Type 0 where
  pub fewer : d' ≤ d + 1
  pub drawn : drawn_in l d' b' ≡ cond (free_at held i) (drawn_in l d b) (snoc (drawn_in l d b) (get_or (waiting_in l n b) i no_entry))
  pub waiting : waiting_in l n b' ≡ waiting_in l n b

-- all that are held are drawn
pub record DrawnAll (l : Limits) (held : List Bool) (n d : ℕ) (b : List ℕ) (d' : ℕ) (b' : List ℕ) : Type 0 where
  pub drawn : drawn_in l d' b' ≡ drawn_in l d b ++ held_of held n (waiting_in l n b)
  pub waiting : waiting_in l n b' ≡ waiting_in l n b

-- the records wait
pub record Stored (l : Limits) (records : List Entry) (b b' : List ℕ) : Type 0 where
  pub waiting : waiting_in l (length records) b' ≡ map entry_of records
  pub drawn : (k : ℕ) → drawn_in l k b' ≡ drawn_in l k b

-- all that are held are drawn, and those that are free are left
pub record Drawn (l : Limits) (held : List Bool) (n d : ℕ) (b : List ℕ) (kept d' : ℕ) (b' : List ℕ) : Type 0 where
  pub total : d' + kept ≡ d + n
  pub waiting : waiting_in l kept b' ≡ free_of held n (waiting_in l n b)
  pub drawn : drawn_in l d' b' ≡ drawn_in l d b ++ held_of held n (waiting_in l n b)
