-- `peek_next` lends the pair at the next place, if there is one, and the cursor follows it.
use Rattle.hashlink_model.specs.Cursor.{place_next}
use Rattle.hashlink_map.specs.contracts.cursor.methods.CursorMut+K+V+S.peek_next as f
use Rattle.hashlink_map.proofs.{CursorPairs.{Cursor, at_place}, LendAtPlace.steps_and_lends}
use Rattle.hashlink_map.proofs.cursor.methods.CursorMut+K+V+S.with_next.Met as step
use Rattle.hashlink_map.proofs.cursor.methods.CursorMut+K+V+S.pair_at.Met as lent
use Rattle.hashlink_map.proofs.cursor.methods.CursorMut+K+V+S.peek_next.Statement.{statement}
use Rattle.hashlink_map.proofs.cursor.methods.CursorMut+K+V+S.peek_next.Code as code

pub peek_next_spec : {M : Type 1} → statement M
peek_next_spec 𝓤 𝓛 𝓜 𝓡 wired K V S T LK LV LS LT e de p dp h dh b db w dw dd me mp mh mb mw md =
    steps_and_lends 𝓤 𝓛 𝓜 𝓡 K V S T LK LV (Cursor K V S T LK LV p h b w) _
    (at_place K V S T LK LV p h b w 𝓛 place_next)
    (f.signature K V S T e de p dp h dh b db w dw dd).outlives _
    (step.met 𝓤 𝓛 𝓜 𝓡 (code.calls-hashlink_map::cursor::methods::CursorMut+K+V+S::with_next 𝓡.env wired)
    K V S T LK LV LS LT e de p dp h dh b db w dw dd me mp mh mb mw md)
    (lent.met 𝓤 𝓛 𝓜 𝓡 (code.calls-hashlink_map::cursor::methods::CursorMut+K+V+S::pair_at 𝓡.env wired)
    K V S T LK LV LS LT e de p dp h dh b db w dw dd me mp mh mb mw md)
    (code.unfolded 𝓤 𝓛.H 𝓜 𝓡 wired (K, (V, (S, (T, tt)))) de dp dh db dw dd)
