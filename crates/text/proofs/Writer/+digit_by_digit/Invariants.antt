-- `text::Writer::digit_by_digit` meets its contract. It calls itself on the number's tenth, so the number is the measure.
use Rattle.text.proofs.Writer.+digit_by_digit.Given as goal

abbrev pub decreases-digit_by_digit : goal.decreases-digit_by_digit
decreases-digit_by_digit l = l.n
