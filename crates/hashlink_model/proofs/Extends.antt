-- Lists after many inserts at the end.
use Rattle.hashlink_model.proofs.Names.{◌≡◌, Bool, List, [], ◌∷◌, ◌++◌, length, sym, ap, ◌∙◌, append_assoc}
use Rattle.hashlink_model.proofs.Names.{append-nil, IsEquivalence, IsEntries, put, extended}
use Rattle.hashlink_model.proofs.{Distinct.{none_others, each-left}, Puts.{IsEntries-put, put_back_absent}}

module _ {K V : Type 0} (eq : K → K → Bool) (laws : IsEquivalence eq) where
  pub IsEntries-extended : (es pairs : List (K × V)) → IsEntries eq es → IsEntries eq (extended eq es pairs)
  IsEntries-extended es [] d = d
  IsEntries-extended es (p ∷ pairs) d =
      IsEntries-extended (put eq es p.0 p.1 (length es)) pairs
      (IsEntries-put eq laws es p.0 p.1 (length es) d)

  -- pairs whose keys are new and pairwise unequal are appended as they are
  pub extended-absent : (es pairs : List (K × V)) → IsEntries eq (es ++ pairs)
      → extended eq es pairs ≡ es ++ pairs
  extended-absent es [] d = sym (append-nil es)
  extended-absent es (p ∷ pairs) d =
      let none = each-left _ es pairs (none_others eq laws es p pairs d) in
      let moved = append_assoc es (p ∷ []) pairs in
      ap (λ zs. extended eq zs pairs) (put_back_absent eq es p.0 p.1 none)
      ∙ extended-absent (es ++ p ∷ []) pairs (rw moved d) ∙ moved

  -- a list's own pairs, inserted in turn into an empty list, give the list
  pub extended-own : (es : List (K × V)) → IsEntries eq es → extended eq [] es ≡ es
  extended-own es d = extended-absent [] es d

pub ruleset extends = (IsEntries-extended, extended-own)
