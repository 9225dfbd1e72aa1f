-- What a call's answer stands for.
use Rattle.std.specs.Prelude.{◌≡◌, Bool, true, false, eqb}
use Rattle.rules.specs.Job.{accepts, refuses}
use Rattle.rules.specs.Job as job
use Rattle.terms.specs.declared.Answer.{Answer}

-- its five numbers
unfoldable pub numbers_of : job.Answer → Answer
numbers_of (accepts l v c) = record { number = 0; place = 0; length = l; variables = v; clauses = c }
numbers_of (refuses n p) = record { number = n; place = p; length = 0; variables = 0; clauses = 0 }

-- and back
unfoldable pub answer_by : Bool → Answer → job.Answer
answer_by true r = accepts r.length r.variables r.clauses
answer_by false r = refuses r.number r.place

unfoldable pub answer_of : Answer → job.Answer
answer_of r = answer_by (eqb r.number 0) r

pub record Gives (r : Answer) (a : job.Answer) : Type 0 where
  pub is : r ≡ numbers_of a
  pub means : answer_of r ≡ a
