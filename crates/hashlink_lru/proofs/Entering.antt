-- What an entry of the map shows for the cache that made room before. Assumes nothing.
use Rattle.std.proofs.Common.{◌≡◌, Bool, refl, sym, subst}
use Rattle.hashlink_model.specs.{Cache.{CacheState, EntersCache, EvictsFront}, Entries.IsEntries}
use Rattle.hashlink_model.specs.{Entry.{EntryState, entry_of}, MapState.MapState}

module _ {K V S : Type 0} (eq : K → K → Bool) (lent : MapState K V S) (k : K) (e : EntryState K V S)
    (is : e ≡ entry_of eq lent k) where
  -- the entry enters the cache if it enters the map after room was made
  pub enters : (old : CacheState K V S) → EvictsFront old.map lent old.cap → EntersCache eq old k e
  enters old evicts = subst (EntersCache eq old k) (sym is) (record { evicts = evicts; entry = refl })

  -- no two keys are equal
  pub distinct : IsEntries eq lent.entries → IsEntries eq e.map.entries
  distinct d = subst (λ (x : EntryState K V S). IsEntries eq x.map.entries) (sym is) d
