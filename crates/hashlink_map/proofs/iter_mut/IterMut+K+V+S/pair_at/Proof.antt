-- `pair_at` lends the value beside the key, if there is one, and the walk follows it.
use Rattle.hashlink_map.specs.contracts.iter_mut.IterMut+K+V+S.pair_at as f
use Rattle.hashlink_map.proofs.{WalkPairs.{Writer, at_node}, LendAtPlace.lends_at_place}
use Rattle.hashlink_map.proofs.iter_mut.IterMut+K+V+S.{pair_at_node.Met.met, pair_at.Statement.statement}
use Rattle.hashlink_map.proofs.iter_mut.IterMut+K+V+S.pair_at.Code as code

pub pair_at_spec : {M : Type 1} → statement M
pair_at_spec 𝓤 𝓛 𝓜 𝓡 wired K V S T LK LV LS LT e de p dp h dh b db w dw dd me mp mh mb mw md =
    lends_at_place 𝓤 𝓛 𝓜 𝓡 K V S T LK LV (Writer K V S T LK LV p h b w) (at_node K V S T LK LV p h b w 𝓛)
    (f.signature K V S T e de p dp h dh b db w dw dd).outlives _
    (met 𝓤 𝓛 𝓜 𝓡 (code.calls-hashlink_map::iter_mut::IterMut+K+V+S::pair_at_node 𝓡.env wired)
    K V S T LK LV LS LT e de p dp h dh b db w dw dd me mp mh mb mw md)
    (code.unfolded 𝓤 𝓛.H 𝓜 𝓡 wired (K, (V, (S, (T, tt)))) de dp dh db dw dd)
