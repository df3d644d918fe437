-- The elements that a removal leaves.
use Rattle.hashlink_set.proofs.Names.{◌≡◌, Bool, Option, ap, ◌∙◌, keys_of, remove_key, SetState, elements_of}
use Rattle.hashlink_model.{specs.Steps.RemovesMatch, proofs.SetElements.keys-remove_entry}
use Rattle.hashlink_map.proofs.Outcomes.{removes_entries}

module _ {T S : Type 0} (old new : SetState T S) (test : T → Bool) where
  -- goal: the elements after a removal, even if none was found
  pub removes_match_elements : (r : Option (T × Unit {0})) → RemovesMatch test old new r
      → elements_of new ≡ remove_key test (elements_of old)
  removes_match_elements r s =
      ap keys_of (removes_entries old new test r s) ∙ keys-remove_entry test old.entries
