-- Hashing the entries left brings the hasher to the state in which the whole list leaves it.
use Rattle.hashlink_map.proofs.Names.{◌≡◌, fold, length, entries_hash_input}
use Rattle.hashlink_map.proofs.hashing.LinkedHashMapHash.hash.Given as goal

abbrev pub invariant-loop-key : goal.invariant-loop-key
invariant-loop-key g l =
    fold g.H.Hasher.write l.state (entries_hash_input g.K.Hash.hash_input g.V.Hash.hash_input l.rest)
    ≡ fold g.H.Hasher.write l.initial.state
    (entries_hash_input g.K.Hash.hash_input g.V.Hash.hash_input l.initial.rest)

abbrev pub decreases-loop-key : goal.decreases-loop-key
decreases-loop-key g l = length l.rest
