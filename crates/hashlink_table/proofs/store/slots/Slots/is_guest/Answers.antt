use Rattle.hashlink_table.proofs.Names.{◌∙◌}
use Rattle.hashlink_table.proofs.{Linking.within_by_kept, Storing.taken_guest}
use Rattle.hashlink_table.proofs.store.slots.Slots.is_guest.Goals as goal

pub mark-requires : goal.mark-requires
mark-requires g c = within_by_kept c.args.self.now.cells c.args.at c.requires

pub returns : goal.returns
returns g c = taken_guest c.mark.result (c.mark.ensures.there ∙ c.requires) ∙ c.mark.ensures.guest
