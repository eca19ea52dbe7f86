-- `shown::exec_shown` meets its contract: each field of the record by what was read for it.
use mathlib.Core.Path.{refl}
use Rattle.gran.specs.Policy.{USER, GROUP}
use Rattle.numbered.proofs.Members.{choice_known}
use Rattle.numbered.proofs.Objects.{path_is}
use Rattle.shown.specs.Shown.{exec_record}
use Rattle.shown.proofs.Tabled.{file_is}
use Rattle.shown.proofs.exec_shown.Goals as goal

pub returns : goal.returns
unfolding exec_record
returns c P rest q β loaded tabled inside known h user group seen = rw (
  c.exec.ensures,
  c.id_after-gid.ensures P rest loaded known (rw seen (choice_known P GROUP β.group inside.group)) group,
  c.id_after-uid.ensures P rest loaded known (rw seen (choice_known P USER β.user inside.user)) user,
  c.file_for-file.ensures,
  c.object_path-object.ensures,
  path_is loaded _ known _ h,
  seen,
  file_is P q _ loaded.good tabled β inside _ known _ h,
) refl
