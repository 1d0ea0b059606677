use Rattle.st_audit.proofs.Counting.{drawn_summary, numbered_summary}
use Rattle.st_audit.proofs.law.a_summary_counts_no_numbers.Goals as goal

pub returns-clause-drawn : goal.returns-clause-drawn
returns-clause-drawn c = drawn_summary

pub returns-clause-numbered : goal.returns-clause-numbered
returns-clause-numbered c = numbered_summary
