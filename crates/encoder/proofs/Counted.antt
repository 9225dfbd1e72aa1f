-- Counters with one of them changed.
use Prim.Native.Nat.{ℕ}
use Rattle.encoder.specs.declared.Counters.{Counters}

abbrev pub with_variables : ℕ → Counters → Counters
with_variables x n =
    record {
      variables = x;
      clauses = n.clauses;
      literals = n.literals;
      decisions = n.decisions;
      owners = n.owners;
      names = n.names;
      several = n.several;
      added = n.added;
      named = n.named;
      tracked = n.tracked;
      waiting = n.waiting;
      drawn = n.drawn;
      first = n.first;
      tail = n.tail;
      runs = n.runs;
      full = n.full;
    }

abbrev pub with_decisions : ℕ → Counters → Counters
with_decisions x n =
    record {
      variables = n.variables;
      clauses = n.clauses;
      literals = n.literals;
      decisions = x;
      owners = n.owners;
      names = n.names;
      several = n.several;
      added = n.added;
      named = n.named;
      tracked = n.tracked;
      waiting = n.waiting;
      drawn = n.drawn;
      first = n.first;
      tail = n.tail;
      runs = n.runs;
      full = n.full;
    }

abbrev pub with_owners : ℕ → Counters → Counters
with_owners x n =
    record {
      variables = n.variables;
      clauses = n.clauses;
      literals = n.literals;
      decisions = n.decisions;
      owners = x;
      names = n.names;
      several = n.several;
      added = n.added;
      named = n.named;
      tracked = n.tracked;
      waiting = n.waiting;
      drawn = n.drawn;
      first = n.first;
      tail = n.tail;
      runs = n.runs;
      full = n.full;
    }

abbrev pub with_names : ℕ → Counters → Counters
with_names x n =
    record {
      variables = n.variables;
      clauses = n.clauses;
      literals = n.literals;
      decisions = n.decisions;
      owners = n.owners;
      names = x;
      several = n.several;
      added = n.added;
      named = n.named;
      tracked = n.tracked;
      waiting = n.waiting;
      drawn = n.drawn;
      first = n.first;
      tail = n.tail;
      runs = n.runs;
      full = n.full;
    }

abbrev pub with_several : ℕ → Counters → Counters
with_several x n =
    record {
      variables = n.variables;
      clauses = n.clauses;
      literals = n.literals;
      decisions = n.decisions;
      owners = n.owners;
      names = n.names;
      several = x;
      added = n.added;
      named = n.named;
      tracked = n.tracked;
      waiting = n.waiting;
      drawn = n.drawn;
      first = n.first;
      tail = n.tail;
      runs = n.runs;
      full = n.full;
    }

abbrev pub with_named : ℕ → Counters → Counters
with_named x n =
    record {
      variables = n.variables;
      clauses = n.clauses;
      literals = n.literals;
      decisions = n.decisions;
      owners = n.owners;
      names = n.names;
      several = n.several;
      added = n.added;
      named = x;
      tracked = n.tracked;
      waiting = n.waiting;
      drawn = n.drawn;
      first = n.first;
      tail = n.tail;
      runs = n.runs;
      full = n.full;
    }

abbrev pub with_waiting : ℕ → Counters → Counters
with_waiting x n =
    record {
      variables = n.variables;
      clauses = n.clauses;
      literals = n.literals;
      decisions = n.decisions;
      owners = n.owners;
      names = n.names;
      several = n.several;
      added = n.added;
      named = n.named;
      tracked = n.tracked;
      waiting = x;
      drawn = n.drawn;
      first = n.first;
      tail = n.tail;
      runs = n.runs;
      full = n.full;
    }

abbrev pub with_tail : ℕ → Counters → Counters
with_tail x n =
    record {
      variables = n.variables;
      clauses = n.clauses;
      literals = n.literals;
      decisions = n.decisions;
      owners = n.owners;
      names = n.names;
      several = n.several;
      added = n.added;
      named = n.named;
      tracked = n.tracked;
      waiting = n.waiting;
      drawn = n.drawn;
      first = n.first;
      tail = x;
      runs = n.runs;
      full = n.full;
    }
