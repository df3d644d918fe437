use Rattle.hashlink_model.proofs.Names.{slice_get, length, ap, ◌∙◌, cond, Some, le_refl, arith, option_map_or}
use Rattle.hashlink_model.proofs.{Names.{put, place_or_end, stored_key}, Puts.lookup_entry-put}
use Rattle.hashlink_model.proofs.Places.{slice_get-place_or_end, lookup_entry_at, stored_key_at}
use Rattle.std.proofs.lemmas.Option.{slice_get_past}
use Rattle.hashlink_model.proofs.cursor.cursor_stays_on_its_entry.Goals as goal

pub returns-clause-entry : goal.returns-clause-entry
returns-clause-entry g c eq laws es i e k v b d at =
    let zs = put eq es k v b in
    ap (λ o. slice_get zs (option_map_or (λ x. place_or_end eq zs x.0) o (length zs))) at
    ∙ slice_get-place_or_end eq e.0 zs ∙ lookup_entry-put eq laws e.0 es k v b d
    ∙ ap (cond (eq k e.0) (Some (stored_key eq es k, v)))
    (lookup_entry_at eq laws es i e e.0 d at (laws.refl e.0))
    ∙ grind (arith, stored_key_at eq laws es i e k d at)

pub returns-clause-guard : goal.returns-clause-guard
returns-clause-guard g c eq laws es i k v b at = rw at (slice_get_past (put eq es k v b) _ (le_refl _))
