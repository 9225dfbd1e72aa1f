-- A job's limits, as the definitions have them.
use Rattle.rules.specs.Limits as rules
use Rattle.state.specs.declared.Limits.{Limits}

unfoldable pub limits_of : Limits → rules.Limits
limits_of l = record { variables = l.variables; clauses = l.clauses; condition_literals = l.literals; waiting = l.waiting }
