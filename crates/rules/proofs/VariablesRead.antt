-- The variables can be read back from a listing: its `v` lines are numbered from 0 (`numbers_back`) and name the root and the parts of the variables, in order
-- (`variables_back`).
use mathlib.Core.Path.{◌≡◌, refl, ◌∙◌}
use mathlib.Core.List.{List, [], ◌∷◌, map, append-nil}
use Prim.Native.Nat.{ℕ, suc}
use lib.ListN.{length}
use Rattle.rules.specs.Lists.{all, list_if, up_to}
use Rattle.rules.specs.Catalogue.{root, part, Catalogue}
use Rattle.rules.specs.Variables.{Origin, chosen, one, violation, gate}
use Rattle.rules.specs.State.{State}
use Rattle.rules.specs.Listing.{ascii, decimal, line, origin_fields, numbered, clause_fields, listing}
use Rattle.rules.specs.ReadBack.{chosen_of, is_letter, is_word, origin_read, variable_read, variables_read, variable_number, numbers_read}
use Rattle.rules.proofs.ListingLines.{PlainAll, number_decimal, plain_decimal, plain_origin, plain_fields, Reads, reads_line, reads_none, reads_then, silent_numbered, OfLines, listing_read}

origin_read_law : (o : Origin) → origin_read (origin_fields o) ≡ chosen_of o
unfolding origin_read origin_fields is_word ascii
origin_read_law (chosen root) = refl
origin_read_law (chosen (part p)) = rw (number_decimal p)
origin_read_law (Origin.forbid n j) = refl
origin_read_law (one n) = refl
origin_read_law (violation r) = refl
origin_read_law (gate g) = refl

plain_line : (i : ℕ) (o : Origin) → PlainAll (ascii "v" ∷ decimal i ∷ origin_fields o)
plain_line i o = (unfold all ascii in refl, (plain_decimal i, plain_origin o))

-- ---- origins

only_variables : OfLines variable_read
unfolding variable_read is_letter list_if
only_variables = record { empty = refl; other = λ b v c fs. rw v }

variable_line : (i : ℕ) (o : Origin) → Reads variable_read (line (ascii "v" ∷ decimal i ∷ origin_fields o)) (chosen_of o ∷ [])
unfolding variable_read is_letter list_if ascii
variable_line i o = rw (origin_read_law o) at (reads_line variable_read (ascii "v") (decimal i ∷ origin_fields o) (plain_line i o))

variables_read_law : (i : ℕ) (os : List Origin) → Reads variable_read (numbered (ascii "v") origin_fields i os) (map chosen_of os)
unfolding numbered
variables_read_law i [] = reads_none variable_read
variables_read_law i (o ∷ os) = reads_then variable_read (variable_line i o) (variables_read_law (suc i) os)

pub variables_back : (c : Catalogue) (s : State) → variables_read (listing c s) ≡ map chosen_of s.variables
unfolding variables_read variable_read is_letter list_if ascii
variables_back c s =
    listing_read variable_read only_variables c s (variables_read_law 0 s.variables) (silent_numbered variable_read 99 (λ fs. refl) refl (clause_fields c) (plain_fields c) 0 s.clauses)
    ∙ append-nil (map chosen_of s.variables)

-- ---- numbers

only_numbers : OfLines variable_number
unfolding variable_number is_letter list_if
only_numbers = record { empty = refl; other = λ b v c fs. rw v }

number_line : (i : ℕ) (o : Origin) → Reads variable_number (line (ascii "v" ∷ decimal i ∷ origin_fields o)) (i ∷ [])
unfolding variable_number is_letter list_if ascii
number_line i o = rw (number_decimal i) at (reads_line variable_number (ascii "v") (decimal i ∷ origin_fields o) (plain_line i o))

numbers_read_law : (i : ℕ) (os : List Origin) → Reads variable_number (numbered (ascii "v") origin_fields i os) (up_to i (length os))
unfolding numbered up_to
numbers_read_law i [] = reads_none variable_number
numbers_read_law i (o ∷ os) = reads_then variable_number (number_line i o) (numbers_read_law (suc i) os)

pub numbers_back : (c : Catalogue) (s : State) → numbers_read (listing c s) ≡ up_to 0 (length s.variables)
unfolding numbers_read variable_number is_letter list_if ascii
numbers_back c s =
    listing_read variable_number only_numbers c s (numbers_read_law 0 s.variables) (silent_numbered variable_number 99 (λ fs. refl) refl (clause_fields c) (plain_fields c) 0 s.clauses)
    ∙ append-nil (up_to 0 (length s.variables))
