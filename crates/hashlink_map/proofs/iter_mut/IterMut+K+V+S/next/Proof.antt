-- `next` lends the pair of the first entry left, if there is one, and the walk follows it.
use Rattle.hashlink_map.proofs.Names.{first_of, after_front}
use Rattle.hashlink_map.specs.contracts.iter_mut.IterMut+K+V+S.next as f
use Rattle.hashlink_map.proofs.{LendAtPlace.steps_and_lends, WalkPairs.{Writer, taken_off, first-lent}}
use Rattle.hashlink_map.proofs.iter_mut.IterMut+K+V+S.step_first.Met as step
use Rattle.hashlink_map.proofs.iter_mut.IterMut+K+V+S.pair_at.Met as lent
use Rattle.hashlink_map.proofs.iter_mut.IterMut+K+V+S.next.Statement.{statement}
use Rattle.hashlink_map.proofs.iter_mut.IterMut+K+V+S.next.Code as code

pub next_spec : {M : Type 1} → statement M
next_spec 𝓤 𝓛 𝓜 𝓡 wired K V S T LK LV LS LT e de p dp h dh b db w dw dd me mp mh mb mw md =
    steps_and_lends 𝓤 𝓛 𝓜 𝓡 K V S T LK LV (Writer K V S T LK LV p h b w) _
    (taken_off K V S T LK LV p h b w 𝓛 (λ s. s.at) after_front first_of first-lent)
    (f.signature K V S T e de p dp h dh b db w dw dd).outlives _
    (step.met 𝓤 𝓛 𝓜 𝓡 (code.calls-hashlink_map::iter_mut::IterMut+K+V+S::step_first 𝓡.env wired)
    K V S T LK LV LS LT e de p dp h dh b db w dw dd me mp mh mb mw md)
    (lent.met 𝓤 𝓛 𝓜 𝓡 (code.calls-hashlink_map::iter_mut::IterMut+K+V+S::pair_at 𝓡.env wired)
    K V S T LK LV LS LT e de p dp h dh b db w dw dd me mp mh mb mw md)
    (code.unfolded 𝓤 𝓛.H 𝓜 𝓡 wired (K, (V, (S, (T, tt)))) de dp dh db dw dd)
