-- `states` meets its contract: as many as the policy's sizes give.
use Rattle.fields.specs.Fields.{policy_in}
use Rattle.numbered.proofs.Members.{sized}
use Rattle.reply.proofs.states.Goals as goal

pub all_states-requires : goal.all_states-requires
all_states-requires c = rw c.sizes.ensures (sized (policy_in c.args.store.now) c.requires.good)
