-- The entries after a call, and its result, by one equation for each.
use Rattle.hashlink_map.proofs.Names
use Names.{◌≡◌, ℕ, suc, Bool, true, false, cond, List, [], ◌∷◌, ◌++◌, length, Option, None, Some, is_some}
use Names.{refl, sym, ap, ◌∙◌, true≢false, arith, Contains, IfOk, IfSome, IsOk, IsSome, OnOk, unwrap_or}
use Names.{lookup, lookup_entry, remove_entry, option_map, none-some, same_Some, place_of, place_or_end, put}
use Names.{MapState, Inserts, RemovesMatch, Replaces, lookup_is, put_at_its_place, put_back_absent}
use Rattle.std.proofs.Common.{Result, Ok, Err}
use Rattle.hashlink_model.proofs.Splits.{none_from_lookup, place_of-here, place_of-none, remove_entry-none}
use Rattle.hashlink_model.proofs.Splits.{stands_from_lookup}

module _ {K V S : Type 0} (eq : K → K → Bool) (old new : MapState K V S) (k : K) (v : V) where
  -- goal: the entries after an insert that is not refused, and its result
  pub inserts_entries : (b : ℕ) (w : Option V) → Inserts eq old new k v b (Ok w)
      → (new.entries ≡ put eq old.entries k v b) × (w ≡ lookup (eq k) old.entries)
  inserts_entries b None s = (s.adds.entries, sym s.absent)
  inserts_entries b (Some w) s = (s.puts.entries, sym s.old_value)

  -- goal: the entries after a replace that is not refused, as a put at the key's place
  pub replaces_entries : (w : Option V) → Replaces eq old new k v (Ok w)
      → new.entries ≡ put eq old.entries k v (place_or_end eq old.entries k)
  replaces_entries None s =
      s.adds.entries
      ∙ ap (λ o. put eq old.entries k v (unwrap_or o (length old.entries)))
      (sym (place_of-none (eq k) old.entries (none_from_lookup (eq k) old.entries s.absent)))
  replaces_entries (Some w) s =
      let at = stands_from_lookup (eq k) old.entries w s.old_value in
      let place : place_of (eq k) old.entries ≡ Some (length at.0)
      = ap (place_of (eq k)) at.3.is ∙ place_of-here (eq k) at.1 at.2 at.3.passes at.0 at.3.before in
      s.writes.entries
      ∙ sym (ap (λ o. put eq old.entries k v (unwrap_or o (length old.entries))) place
      ∙ put_at_its_place eq old.entries k v (length at.0) place)

  -- if the call returns the old value, the pair was put at the place b; it does return it if the key is
  -- present
  abbrev pub PutsAt : ℕ → Result (Option V) (K × V) → Type 0
  PutsAt b r =
      OnOk r (new.entries ≡ put eq old.entries k v b) × IfOk r (λ w. w ≡ lookup (eq k) old.entries)
      × (IsSome (lookup (eq k) old.entries) → IsOk r)

  pub inserts_outcome : (b : ℕ) (r : Result (Option V) (K × V)) → Inserts eq old new k v b r → PutsAt b r
  inserts_outcome b (Ok w) s = let e = inserts_entries b w s in (e.0, e.1, λ _. refl)
  inserts_outcome b (Err pair) s = (
    tt,
    tt,
    λ there. absurd (true≢false
        (sym there ∙ ap is_some s.may_refuse.absent)),
  )

  -- an absent key is put behind the others
  pub inserts_added : (r : Result (Option V) (K × V)) → Inserts eq old new k v (length old.entries) r
      → lookup (eq k) old.entries ≡ None
      → OnOk r (new.entries ≡ old.entries ++ (k, v) ∷ [])
  inserts_added (Ok w) s none =
      (inserts_entries (length old.entries) w s).0
      ∙ put_back_absent eq old.entries k v (none_from_lookup (eq k) old.entries none)
  inserts_added (Err pair) s none = tt

  pub replaces_outcome : (r : Result (Option V) (K × V)) → Replaces eq old new k v r
      → PutsAt (place_or_end eq old.entries k) r
  replaces_outcome (Ok None) s = (replaces_entries None s, sym s.absent, λ _. refl)
  replaces_outcome (Ok (Some w)) s = (replaces_entries (Some w) s, sym s.old_value, λ _. refl)
  replaces_outcome (Err pair) s = (
    tt,
    tt,
    λ there. absurd (true≢false
        (sym there ∙ ap is_some s.may_refuse.absent)),
  )

module _ {K V : Type 0} (test : K → Bool) where
  Contains-lookup_entry : (es : List (K × V)) (e : K × V) → lookup_entry test es ≡ Some e → Contains es e
  Contains-lookup_entry [] e l = absurd (none-some e l)
  Contains-lookup_entry (x ∷ es) e l = by (test x.0) l (Contains-lookup_entry es e)
    where
      by : (b : Bool) → cond b (Some x) (lookup_entry test es) ≡ Some e
          → (lookup_entry test es ≡ Some e → Contains es e)
          → Contains (x ∷ es) e
      by true l behind = (0, omega arith, same_Some x e l)
      by false l behind = let found = behind l in (suc found.0, omega (arith, found.1), found.2)

module _ {K V S : Type 0} (old new : MapState K V S) (test : K → Bool) where
  -- goal: the entries after a removal, even if no key was found
  pub removes_entries : (r : Option (K × V)) → RemovesMatch test old new r
      → new.entries ≡ remove_entry test old.entries
  removes_entries None s =
      let none : lookup test old.entries ≡ None
      = lookup_is test old.entries ∙ ap (option_map (λ e. e.1)) (sym s.answer) in
      ap (λ m. m.entries) s.step
      ∙ sym (remove_entry-none test old.entries (none_from_lookup test old.entries none))
  removes_entries (Some e) s = s.step.entries

  -- goal: the entry that a removal returns was present
  pub removed_was_there : (r : Option (K × V)) → RemovesMatch test old new r
      → IfSome r (Contains old.entries)
  removed_was_there None s = tt
  removed_was_there (Some e) s = Contains-lookup_entry test old.entries e (sym s.answer)
