-- The elements left take the hasher to the state to which the whole list takes it.
use Rattle.std.proofs.Common.{◌≡◌, fold, length}
use Rattle.hashlink_model.specs.Compare.{elements_hash_input}
use Rattle.hashlink_set.proofs.compared.LinkedHashSetHash.hash.Given as goal

abbrev pub invariant-loop-element : goal.invariant-loop-element
invariant-loop-element g l =
    fold g.H.Hasher.write l.state (elements_hash_input g.T.Hash.hash_input l.rest)
    ≡ fold g.H.Hasher.write l.initial.state (elements_hash_input g.T.Hash.hash_input l.initial.rest)

abbrev pub decreases-loop-element : goal.decreases-loop-element
decreases-loop-element g l = length l.rest
