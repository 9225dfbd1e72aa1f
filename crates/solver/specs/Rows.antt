-- Rows of stored clauses: ten numbers each, the last two left for what later requests bring.
use Rattle.std.specs.Prelude.{List, [], ◌∷◌, ℕ}
use Rattle.words.specs.Words.{words}
use Rattle.tables.specs.Tables.{listed, field}
use Rattle.solver.specs.declared.Stored.{Stored}

pub record Row : Type 0 where
  pub kind : ℕ
  pub first : ℕ
  pub second : ℕ
  pub start : ℕ
  pub count : ℕ
  pub form : ℕ
  pub number : ℕ
  pub conflict : ℕ  -- the run in which the clause was a conflict, or 0

abbrev pub no_row : Row
no_row = record { kind = 0; first = 0; second = 0; start = 0; count = 0; form = 0; number = 0; conflict = 0 }

unfoldable pub row_in : List ℕ → ℕ → Row
row_in w i =
    record {
      kind = field w 0 10 i 0;
      first = field w 0 10 i 1;
      second = field w 0 10 i 2;
      start = field w 0 10 i 3;
      count = field w 0 10 i 4;
      form = field w 0 10 i 5;
      number = field w 0 10 i 6;
      conflict = field w 0 10 i 7;
    }

unfoldable pub rows : ℕ → List ℕ → List Row
rows n bytes = listed n (row_in (words bytes))

unfoldable pub row_of : Stored → Row
row_of r =
    record {
      kind = r.kind;
      first = r.first;
      second = r.second;
      start = r.start;
      count = r.count;
      form = r.form;
      number = r.number;
      conflict = r.conflict;
    }

unfoldable pub row_numbers : Stored → List ℕ
row_numbers r = r.kind ∷ r.first ∷ r.second ∷ r.start ∷ r.count ∷ r.form ∷ r.number ∷ r.conflict ∷ []
