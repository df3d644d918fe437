use Rattle.hashlink.specs.Entries.{place_or_end, put}
use Rattle.hashlink.proofs.CallerLemmas.{IsEntries-combined, is_member-combined, keys-put_in_place}
use Rattle.hashlink.proofs.CallerLemmas.{lookup-replaced_each}
use Rattle.hashlink_uses.proofs.Common.{◌≡◌, Bool, List, [], ◌∷◌, ◌++◌, ap, sym, ◌∙◌, keys_of, append-nil}
use Rattle.hashlink_uses.proofs.{Appearing.appears, Common.{first_appearances, merged}}
use Rattle.hashlink_uses.proofs.settings.what_a_merge_leaves.Goals as goal

keys-merged : {K V : Type 0} (eq : K → K → Bool) (es pairs : List (K × V))
    → keys_of (merged eq es pairs) ≡ keys_of es ++ first_appearances eq (keys_of es) (keys_of pairs)
keys-merged eq es [] = sym (append-nil (keys_of es))
keys-merged eq es (p ∷ pairs) =
    keys-merged eq (put eq es p.0 p.1 (place_or_end eq es p.0)) pairs
    ∙ ap (λ ks. ks ++ first_appearances eq ks (keys_of pairs)) (keys-put_in_place eq es p.0 p.1)
    ∙ appears eq (keys_of es) p.0 (keys_of pairs)

pub returns : goal.returns
returns g c = record {
  wins = lookup-replaced_each;
  order = keys-merged;
  kept = λ eq. is_member-combined eq (λ old new. new);
  distinct = λ eq. IsEntries-combined eq (λ old new. new);
}
