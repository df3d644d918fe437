use Rattle.hashlink_map.proofs.Names.{sym, ap, ◌∙◌, option_map, deref_pair, entries_of}
use Rattle.hashlink_map.proofs.Names.{lookup_entry-place, lookup_entry-unplaced}
use Rattle.hashlink_map.proofs.raw_entry.builders.RawEntryBuilder.from_key_hashed_nocheck.Goals as goal

pub returns-in_err-found : goal.returns-in_err-found
returns-in_err-found g c =
    ap (option_map deref_pair) c.from_residual.ensures
    ∙ sym (lookup_entry-unplaced (g.Q.Equivalent.matches c.args.key) (entries_of c.args.self.map.now)
    (rw c.map.view_is at c.in_err-found.ensures.found))

pub returns : goal.returns
returns g c =
    sym
    (lookup_entry-place (g.Q.Equivalent.matches c.args.key) (entries_of c.args.self.map.now) _
    (rw c.map.view_is at c.in_ok-found.ensures.found).place
    ∙ c.pair_at.ensures)
