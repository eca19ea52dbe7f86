use Rattle.std.proofs.Common.{rules}
use Rattle.std.proofs.iter.runs.Sources.{ranges}
use Rattle.std.proofs.lemmas.Bool.Decides.{same_from_decides}
use Rattle.rows.proofs.Laws.{is_same_decides}
use Rattle.rows.proofs.is_same.Goals as goal

pub returns : goal.returns
returns c = same_from_decides _ _ (search (rules, ranges)) (is_same_decides c.args.key.now c.args.row.now c.requires)
