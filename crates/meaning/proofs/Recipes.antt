-- The run that an answer shows, as its records, is a recipe; and the counts of an answer are small.
-- Assumes nothing.
use mathlib.Core.Path.{◌≡◌, refl}
use mathlib.Core.List.{List}
use Prim.Native.Nat.{ℕ, ◌≤◌, ◌<◌}
use lib.ListN.{length}
use Rattle.gran.specs.Policy.{Policy}
use Rattle.gran.specs.Good.{Good}
use Rattle.gran.specs.Real.{started}
use Rattle.gran.specs.Abstract.{Act, abstract}
use Rattle.gran.specs.Run.{Opens, OpensBefore, Shown, Unreached}
use Rattle.gran.specs.declared.State.{State}
use Rattle.gran.proofs.Answers.{reached_fewest}
use Rattle.gran.proofs.Processes.{started_is}
use Rattle.numbered.specs.Number.{Inside}
use Rattle.numbered.proofs.Numbers.{abstract_inside}
use Rattle.records.specs.Record.{records_of}
use Rattle.records.proofs.Bytes.{records_of-length}
use Rattle.ask.specs.Ask.{Asked, start_of, question_of}
use Rattle.ask.proofs.Short.{first_short, counts_few}
use Rattle.replay.proofs.Rows.{holds-run, holds-reached}
use Rattle.replay.proofs.Own.{own-steps_hold}
use Rattle.meaning.specs.Means.{Recipe}

module _ (P : Policy) (good : Good P) (a : Asked) where
  -- what the start stands for
  abbrev origin : State
  origin = abstract P (start_of a)

  inside : Inside P origin
  inside = abstract_inside P good (start_of a) refl

  pub never_few : (opened : ℕ) → Unreached P (question_of a) origin opened → opened ≤ 8192
  never_few opened u = counts_few P good origin inside (Opens P origin) (λ β h. h) opened u.counts

  module _ (zs : List Act) (opened : ℕ) (s : Shown P (question_of a) origin zs opened) where
    pub shown_few : opened ≤ 8192
    shown_few = counts_few P good origin inside (OpensBefore P origin zs) (λ β h. (h.0, h.1.has)) opened s.counts

    same : length (records_of P (start_of a) zs) ≡ length zs
    same = records_of-length P (start_of a) zs

    pub shown_short : length (records_of P (start_of a) zs) < 8192
    shown_short = rw same (first_short P origin (question_of a) zs s.first good inside)

    pub shown_recipe : Recipe P a (records_of P (start_of a) zs)
    shown_recipe =
        let rows = records_of P (start_of a) zs in
        let (file, holds) = own-steps_hold P good (question_of a) a.start a.uid a.gid zs s.first.has in
        let R = holds-run P good a.start (question_of a) (started a.uid a.gid) 0 rows file holds in
        record {
          file = file;
          holds = holds;
          runs = rw (started_is P a.start a.uid a.gid) at R.runs;
          granted = rw (started_is P a.start a.uid a.gid) at R.granted;
          reached = λ fs there. holds-reached P good a.start (question_of a) a.uid a.gid rows file fs holds there;
          fewest = λ fs m less r. reached_fewest P good (question_of a) a.uid a.gid a.start zs opened s fs m (rw same at less) r;
        }
