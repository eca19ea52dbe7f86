-- `ending::settle` meets its contract: the tests in their order, then the header.
use native.Mathlib.Omega.{arith}
use Rattle.std.proofs.Common.{rules}
use Rattle.ending.specs.End.{end_refusal}
use Rattle.ending.proofs.settle.Goals as goal

pub returns-then-is_crowded : goal.returns-then-is_crowded
unfolding end_refusal
returns-then-is_crowded c = record {
  kept = search rules;
  lowest = λ P rest sound h.
      let rooted = c.is_unrooted.ensures P rest sound h (c.root_of-root.ensures P rest sound h) in
      grind (arith, rooted, c.is_crowded.ensures P rest c.args.store.now h (c.subjects_in-subjects.ensures P rest sound h));
  stored = λ z. absurd (omega arith);
  same = search rules;
}

pub returns : goal.returns
unfolding end_refusal
returns c = record {
  kept = search rules;
  lowest = λ P rest sound h.
      let rooted = c.is_unrooted.ensures P rest sound h (c.root_of-root.ensures P rest sound h) in
      grind (arith, rooted, c.is_crowded.ensures P rest c.args.store.now h (c.subjects_in-subjects.ensures P rest sound h));
  stored = λ z P rest sound h. c.finish.ensures.stored P rest h (c.root_of-root.ensures P rest sound h) (c.subjects_in-subjects.ensures P rest sound h);
  same = λ n. absurd (omega arith);
}
