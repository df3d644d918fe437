-- The state in which a cache ends, from the state in which its map ends.
use Rattle.std.specs.{Prelude.{◌≡◌, ℕ, Bool, Option, None, Some, OnSome, length}, Option.option_map_or}
use Rattle.std.proofs.{Common.{ap, sym, ◌∙◌, subst, arith}, lemmas.Map.length-set_value}
use Rattle.hashlink_model.specs.Cache.{CacheState, CacheGetsMatch, CacheGetsMatchAndWrites, EvictsFront}
use Rattle.hashlink_model.specs.{Entries.{moved_at, moved_match}, MapState.MapState, Steps.with_match_value}
use Rattle.hashlink_model.proofs.CacheBounds.{within-gets_match, within-gets_match_and_writes}
use Rattle.hashlink_model.proofs.Splits.{none_from_lookup, place_of-none}
use Rattle.hashlink_core.specs.Keyed.{Keyed, state_of}
use Rattle.hashlink_lru.specs.Cached.{StaysWithin}

pub on_some : {A : Type 0} (r : Option A) {P Q : Type 0} → (P → Q) → OnSome r P → OnSome r Q
on_some None f p = tt
on_some (Some x) f p = f p

-- an eviction that led to the map that was then lent
pub evicted : {K V S : Type 0} {old : MapState K V S} (cap : ℕ) {left lent : Keyed K V S} → left ≡ lent
    → EvictsFront old (state_of left) cap
    → EvictsFront old (state_of lent) cap
evicted {old = old} cap same s = subst (λ m. EvictsFront old (state_of m) cap) same s

-- a step of the cache, which keeps every bound on the entries beyond the capacity
module _ {K V S : Type 0} (test : K → Bool) (old new : CacheState K V S) where
  gets_entries : (r : Option V) → CacheGetsMatch test old new r
      → new.map.entries ≡ moved_match test old.map.entries (length old.map.entries)
  gets_entries None s =
      let es = old.map.entries in
      let none = place_of-none test es (none_from_lookup test es (sym s.map.answer)) in
      ap (λ m. m.entries) s.map.step
      ∙ sym (ap (λ o. option_map_or (λ j. moved_at es j (length es)) o es) none)
  gets_entries (Some w) s = s.map.step.entries

  pub used : (r : Option V) → CacheGetsMatch test old new r → CacheGetsMatch test old new r
      × StaysWithin old new × (new.map.entries ≡ moved_match test old.map.entries (length old.map.entries))
  used r s = (s, λ n. within-gets_match old new n test r s, gets_entries r s)

  pub used_and_written : (v : V) → CacheGetsMatchAndWrites test old new v
      → CacheGetsMatchAndWrites test old new v × StaysWithin old new
  used_and_written v s = (s, λ n. within-gets_match_and_writes old new n test v s)

  pub written : (v : V) → new ≡ record old { map = with_match_value test old.map v }
      → (new ≡ record old { map = with_match_value test old.map v }) × StaysWithin old new
  written v s = (
    s,
    λ n within.
        let long = ap (λ c. length c.map.entries) s ∙ length-set_value test old.map.entries v in
        let cap = ap (λ c. c.cap) s in omega arith,
  )
