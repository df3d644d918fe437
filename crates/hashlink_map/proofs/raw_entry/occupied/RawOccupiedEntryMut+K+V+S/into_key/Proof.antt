-- `into_key` lends the key, and the entry's map ends as it was.
use Rattle.hashlink_map.proofs.Names.{◌≡◌, [], ◌∷◌, Some, sep, sem, fact, layout, param, named, ShrRef}
use Rattle.hashlink_map.proofs.{Names.{place_number, entries_of, key_at, ⊤}, PairRows.key_laws}
use Rattle.hashlink_map.proofs.LendForGood.{Map, lends_for_good}
use Rattle.std.specs.Borrow.{follows_so}
use mathlib.Core.Option.{none}
use Rattle.hashlink_map.specs.contracts.raw_entry.occupied.RawOccupiedEntryMut+K+V+S.into_key as f
use Rattle.hashlink_map.proofs.map.LinkedHashMap.key_for_good.Met.{met}
use Rattle.hashlink_map.proofs.raw_entry.occupied.RawOccupiedEntryMut+K+V+S.into_key.Statement.{statement}
use Rattle.hashlink_map.proofs.raw_entry.occupied.RawOccupiedEntryMut+K+V+S.into_key.Code as code

pub into_key_spec : {M : Type 1} → statement M
into_key_spec 𝓤 𝓛 𝓜 𝓡 wired K V S T LK LV LS LT e de p dp h dh b db w dw dd me mp mh mb mw md =
    let Held = Map K V S T p h b w in
    lends_for_good 𝓤 𝓛 𝓜 𝓡 K V S T p h b w (λ κs. ShrRef (named 0) κs.0 (param 0 K))
    (layout (ShrRef (named 0) [] (param 0 K)))
    (λ κs q v is. (((key_laws K LK κs.0).lawful 𝓛).typed q (v ∷ []) is).0)
    (λ κs r n q. sep 𝓤
    (sem 𝓛 (follows_so Held Held r.ghost_name none (λ _ _. ⊤) (λ new. new ≡ r.now)))
    (fact 𝓤 (key_at (entries_of r.now) (place_number r.now.nodes (Some n)) ≡ Some q.now)))
    (f.signature K V S T e de p dp h dh b db w dw dd).outlives _
    (met 𝓤 𝓛 𝓜 𝓡 (code.calls-hashlink_map::map::LinkedHashMap::key_for_good 𝓡.env wired)
    K V S T LK LV LS LT e de p dp h dh b db w dw dd me mp mh mb mw md)
    (code.unfolded 𝓤 𝓛.H 𝓜 𝓡 wired (K, (V, (S, (T, tt)))) de dp dh db dw dd)
