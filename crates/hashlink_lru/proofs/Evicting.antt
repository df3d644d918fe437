-- Which entry an insert evicts first, and what it leaves.
use Rattle.std.specs.Prelude.{◌≡◌, ℕ, suc, ◌+◌, ◌-◌, ◌≤◌, ◌<◌, Bool, List, [], ◌∷◌, ◌++◌, length, take, drop}
use Rattle.std.specs.{Prelude.{Option, None, Some, Ok}, Map.{lookup, remove_entry}}
use Rattle.std.proofs.Common.{true, false, true≢false, is_some, refl, ap, ap₂, sym, ◌∙◌, ⊎_elim, arith}
use Rattle.std.proofs.lemmas.{Bool.{lt-ltb, le-ltb, cases_lt}, List.{take-append-drop, length-append}}
use Rattle.std.proofs.lemmas.Option.{none-some, same_Some}
use Rattle.hashlink_model.specs.Cache.{CacheState, CacheInserts, IsWithin, last_entries}
use Rattle.hashlink_model.{proofs.Puts.{put_back, put_back_absent}, specs.Entries.{put, without, stored_key}}
use Rattle.hashlink_model.{proofs.Caches.last_entries-within, proofs.Splits.none_from_lookup}
use Rattle.hashlink_model.{proofs.CacheSteps.inserts_entries, specs.Walk.first_of}
use Rattle.hashlink_lru.specs.Evicted.{evicted_by}

-- ---- the first entry of a list

module _ {X : Type 0} where
  pub first_of-some : (xs : List X) (x : X) → first_of xs ≡ Some x → xs ≡ x ∷ drop 1 xs
  first_of-some [] x f = absurd (none-some x f)
  first_of-some (y ∷ xs) x f = ap (λ z. z ∷ xs) (same_Some y x f)

  first_of-none : (xs : List X) → first_of xs ≡ None → length xs ≡ 0
  first_of-none [] f = refl
  first_of-none (x ∷ xs) f = absurd (none-some x (sym f))

-- ---- the entries other than the key's own

module _ {K V : Type 0} (test : K → Bool) where
  others-absent : (es : List (K × V)) → is_some (lookup test es) ≡ false → remove_entry test es ≡ es
  others-absent [] absent = refl
  others-absent (e ∷ es) absent = grind (arith, absent, others-absent es)

  others-there : (es : List (K × V)) → is_some (lookup test es) ≡ true
      → length (remove_entry test es) + 1 ≡ length es
  others-there [] there = absurd (true≢false (sym there))
  others-there (e ∷ es) there = grind (arith, there, others-there es)

  module _ (es : List (K × V)) (cap : ℕ) where
    evicted-room : length (remove_entry test es) < cap → evicted_by test es cap ≡ None
    evicted-room l = rw (lt-ltb (length (remove_entry test es)) cap l) refl

    evicted-full : cap ≤ length (remove_entry test es)
        → evicted_by test es cap ≡ first_of (remove_entry test es)
    evicted-full l = rw (le-ltb (length (remove_entry test es)) cap l) refl

    -- an absent key
    pub evicted-absent_room : is_some (lookup test es) ≡ false → length es < cap
        → evicted_by test es cap ≡ None
    evicted-absent_room a l = evicted-room (omega (arith, ap length (others-absent es a)))

    pub evicted-absent_full : is_some (lookup test es) ≡ false → cap ≤ length es
        → evicted_by test es cap ≡ first_of es
    evicted-absent_full a l =
        evicted-full (omega (arith, ap length (others-absent es a))) ∙ ap first_of (others-absent es a)

    -- a present key
    pub evicted-there_room : is_some (lookup test es) ≡ true → length es ≤ cap
        → evicted_by test es cap ≡ None
    evicted-there_room f l = evicted-room (omega (arith, others-there es f))

    pub evicted-there_full : is_some (lookup test es) ≡ true → cap < length es
        → evicted_by test es cap ≡ first_of (remove_entry test es)
    evicted-there_full f l = evicted-full (omega (arith, others-there es f))

-- for the call `evicted_by`
pub ruleset if_absent = (evicted-absent_room, evicted-absent_full)

pub ruleset if_there = (evicted-there_room, evicted-there_full)

-- ---- what an insert evicts

module _ {K V : Type 0} (eq : K → K → Bool) (es : List (K × V)) (cap : ℕ) (k : K) (v : V) where
  abbrev All : List (K × V)
  All = put eq es k v (length es)

  abbrev Last : K × V
  Last = (stored_key eq es k, v)

  pub split : All ≡ without eq es k ++ Last ∷ []
  split = put_back eq es k v

  pub long : length All ≡ length (without eq es k) + 1
  long = let a = length-append (without eq es k) (Last ∷ []) in ap length split ∙ a

  -- if an entry is named, the other entries fill the capacity, and it is the first of them
  pub named : (e : K × V) → evicted_by (eq k) es cap ≡ Some e
      → (cap ≤ length (without eq es k)) × (first_of (without eq es k) ≡ Some e)
  named e n =
      ⊎_elim (λ room. absurd (none-some e (sym (evicted-room (eq k) es cap room) ∙ n)))
      (λ full. (full, sym (evicted-full (eq k) es cap full) ∙ n))
      (cases_lt (length (without eq es k)) cap)

  -- it is the first entry, and the insert keeps only an end of the others
  pub named_parts : (e : K × V) → evicted_by (eq k) es cap ≡ Some e
      → (rest : List (K × V)) × (All ≡ e ∷ rest) × (cap < length All)
      × (last_entries All cap ≡ drop (length All - cap - 1) rest)
  named_parts e n =
      let m = named e n in
      let rest = drop 1 (without eq es k) ++ Last ∷ [] in
      let is : All ≡ e ∷ rest = split ∙ ap (λ zs. zs ++ Last ∷ []) (first_of-some (without eq es k) e m.1) in
      let l = long in
      let more : length All - cap ≡ suc (length All - cap - 1) = omega arith in
      (rest, is, omega arith, ap₂ drop more is)

  pub named_first : (e : K × V) → evicted_by (eq k) es cap ≡ Some e
      → (others : List (K × V)) × (All ≡ e ∷ others ++ last_entries All cap)
  named_first e n =
      let p = named_parts e n in
      let d = length All - cap - 1 in
      let parted = sym (take-append-drop d p.0) ∙ ap (λ zs. take d p.0 ++ zs) (sym p.3) in
      (take d p.0, p.1 ∙ ap (λ zs. e ∷ zs) parted)

  -- if no entry is named, there is room
  pub unnamed : evicted_by (eq k) es cap ≡ None → 1 ≤ cap → last_entries All cap ≡ All
  unnamed n one =
      let others = without eq es k in
      let l = long in
      let fits : length All ≤ cap =
      ⊎_elim (λ (room : length others < cap). omega arith) (λ (full : cap ≤ length others).
      let none = first_of-none others (sym (evicted-full (eq k) es cap full) ∙ n) in absurd (omega arith))
      (cases_lt (length others) cap) in
      last_entries-within All cap fits

-- ---- the same for a cache

module _ {K V S : Type 0} (eq : K → K → Bool) (old new : CacheState K V S) (k : K) (v : V) where
  abbrev Put : List (K × V)
  Put = put eq old.map.entries k v (length old.map.entries)

  pub evicts_first : (w : Option V) (e : K × V) → CacheInserts eq old new k v (Ok w)
      → evicted_by (eq k) old.map.entries old.cap ≡ Some e
      → (others : List (K × V)) × (Put ≡ e ∷ others ++ new.map.entries)
  evicts_first w e s n =
      let f = named_first eq old.map.entries old.cap k v e n in
      (f.0, f.1 ∙ ap (λ zs. e ∷ f.0 ++ zs) (sym (inserts_entries eq old new k v w s)))

  -- for a cache within its capacity
  pub evicts_alone : (w : Option V) (e : K × V) → CacheInserts eq old new k v (Ok w)
      → evicted_by (eq k) old.map.entries old.cap ≡ Some e → IsWithin old 0
      → old.map.entries ++ (k, v) ∷ [] ≡ e ∷ new.map.entries
  evicts_alone w e s n within = by (lookup (eq k) old.map.entries) refl
    where
      by : (o : Option V) → lookup (eq k) old.map.entries ≡ o
          → old.map.entries ++ (k, v) ∷ [] ≡ e ∷ new.map.entries
      by None l =
          let es = old.map.entries in
          let p = named_parts eq es old.cap k v e n in
          let all = put_back_absent eq es k v (none_from_lookup (eq k) es l) in
          let l1 = ap length all ∙ length-append es ((k, v) ∷ []) in
          let none : length Put - old.cap - 1 ≡ 0 = omega arith in
          let left = inserts_entries eq old new k v w s ∙ p.3 ∙ ap (λ d. drop d p.0) none in
          sym all ∙ p.1 ∙ ap (λ zs. e ∷ zs) (sym left)
      by (Some x) l =
          let es = old.map.entries in
          let full = (named eq es old.cap k v e n).0 in
          let one = others-there (eq k) es (ap is_some l) in
          absurd (omega arith)

  pub evicts_none : (w : Option V) → CacheInserts eq old new k v (Ok w)
      → evicted_by (eq k) old.map.entries old.cap ≡ None → 1 ≤ old.cap
      → new.map.entries ≡ Put
  evicts_none w s n one = inserts_entries eq old new k v w s ∙ unnamed eq old.map.entries old.cap k v n one
