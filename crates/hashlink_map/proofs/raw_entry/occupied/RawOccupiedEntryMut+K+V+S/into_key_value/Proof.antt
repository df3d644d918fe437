-- `into_key_value` lends the value beside the key, and the entry's map follows it.
use Rattle.hashlink_map.proofs.Names.{◌≡◌, [], ◌∷◌, Some, sep, sem, fact, layout, param, slice_get}
use Rattle.hashlink_map.proofs.{Names.{place_number, entries_of, with_value_at}, PairRows.{Lent, lent_laws}}
use Rattle.hashlink_map.proofs.LendForGood.{Map, lends_for_good}
use Rattle.std.specs.Borrow.{Lends}
use Rattle.hashlink_map.specs.contracts.raw_entry.occupied.RawOccupiedEntryMut+K+V+S.into_key_value as f
use Rattle.hashlink_map.proofs.map.LinkedHashMap.pair_at_mut.Met.{met}
use Rattle.hashlink_map.proofs.raw_entry.occupied.RawOccupiedEntryMut+K+V+S.into_key_value.Statement
use Rattle.hashlink_map.proofs.raw_entry.occupied.RawOccupiedEntryMut+K+V+S.into_key_value.Code as code

pub into_key_value_spec : {M : Type 1} → Statement.statement M
into_key_value_spec 𝓤 𝓛 𝓜 𝓡 wired K V S T LK LV LS LT e de p dp h dh b db w dw dd me mp mh mb mw md =
    lends_for_good 𝓤 𝓛 𝓜 𝓡 K V S T p h b w (λ κs. Lent K V LK LV κs.0) (layout (Lent K V LK LV []))
    (λ κs q v is. (((lent_laws K V LK LV κs.0).lawful 𝓛).typed q (v ∷ []) is).0)
    (λ κs r n q. sep 𝓤
    (sem 𝓛 (Lends (Map K V S T p h b w) (param 1 V) r q.1 (with_value_at r.now n)))
    (fact 𝓤 (slice_get (entries_of r.now) (place_number r.now.nodes (Some n)) ≡ Some (q.0.now, q.1.now))))
    (f.signature K V S T e de p dp h dh b db w dw dd).outlives _
    (met 𝓤 𝓛 𝓜 𝓡 (code.calls-hashlink_map::map::LinkedHashMap::pair_at_mut 𝓡.env wired)
    K V S T LK LV LS LT e de p dp h dh b db w dw dd me mp mh mb mw md)
    (code.unfolded 𝓤 𝓛.H 𝓜 𝓡 wired (K, (V, (S, (T, tt)))) de dp dh db dw dd)
