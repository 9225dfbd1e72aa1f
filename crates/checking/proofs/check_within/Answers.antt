-- `checking::check_within` says what was read; its areas are zero.
use borrow.Author.Rules.{rules}
use Rattle.checking.proofs.Areas.{still_zeroed}
use Rattle.checking.proofs.Laws.{told_within}
use Rattle.checking.proofs.check_within.Goals as goal

pub returns : goal.returns
returns c = record {
  gives = search (rules, told_within);
  marks = search (rules, still_zeroed);
  unions = search (rules, still_zeroed);
  tables = search (rules, still_zeroed);
}
