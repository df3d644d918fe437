-- What caches hold, and what they return, along several calls.
use Rattle.std.proofs.Common.{◌≡◌, ℕ, ◌≤◌, Bool, false, ◌&&◌, List, [], ◌∷◌, ◌++◌, length, nat_lt, is_some}
use Rattle.std.proofs.Common.{Option, refl, ap, arith, append_assoc, append-nil, true≢false, true, le_refl}
use Rattle.std.specs.{Cmp.IsEquivalence, List.{AllZip, AllByRecursion}, Map.lookup, Set.is_member}
use Rattle.std.proofs.lemmas.List.Elements.{recursion_from_All}
use Rattle.hashlink_model.proofs.Caches.{cache_put-at_most, IsEntries-cache_put, IsEntries-cache_use}
use Rattle.hashlink_model.specs.{Entries.{IsEntries, without}, Cache.{cache_use, cache_put}}
use Rattle.hashlink_model.proofs.{Puts.IsEntries-without, Caches.cache_use-at_most, Distinct.IsEntries-nil}
use Rattle.hashlink_history.specs.CacheRuns.{CacheEvent, Insert, Use, Remove, Peek, key_of, is_use, NoUse}
use Rattle.hashlink_history.specs.CacheRuns.{NoRemoval, used_keys, answer_to, after_event, after_events}
use Rattle.hashlink_history.proofs.Ends.{end-cache_put, end-without, end-cache_use, end-finds}
use Rattle.hashlink_history.proofs.Reuse.{HoldsRecent-start, HoldsRecent-cache_put, HoldsRecent-cache_use}
use Rattle.hashlink_history.specs.{CacheRuns.answers, History.{reuse_distance, HoldsRecent}}
use Rattle.hashlink_history.specs.Inclusion.{IsEndOf, SameKey, SameEntry, AlsoFinds, FindsTheSame}
use Rattle.hashlink_history.proofs.{Ends.same_end-answers, Reuse.held_exactly}

module _ {K V : Type 0} (eq : K → K → Bool) where
  -- ---- the calls in two parts

  pub after_events-append : (c : ℕ) (es : List (K × V)) (xs ys : List (CacheEvent K V))
      → after_events eq c es (xs ++ ys) ≡ after_events eq c (after_events eq c es xs) ys
  after_events-append c es [] ys = refl
  after_events-append c es (x ∷ xs) ys = after_events-append c (after_event eq c es x) xs ys

  pub answers-append : (c : ℕ) (es : List (K × V)) (xs ys : List (CacheEvent K V))
      → answers eq c es (xs ++ ys) ≡ answers eq c es xs ++ answers eq c (after_events eq c es xs) ys
  answers-append c es [] ys = refl
  answers-append c es (x ∷ xs) ys =
      ap (λ os. answer_to eq es x ∷ os) (answers-append c (after_event eq c es x) xs ys)

  -- ---- the length of the list

  without_shorter : (es : List (K × V)) (k : K) → length (without eq es k) ≤ length es
  without_shorter [] k = le_refl 0
  without_shorter (e ∷ es) k = grind (arith, without_shorter es k)

  pub after_event-at_most : (es : List (K × V)) (cap n : ℕ) (e : CacheEvent K V) → cap ≤ n → length es ≤ n
      → length (after_event eq cap es e) ≤ n
  after_event-at_most es cap n (Insert k v) c m = omega (arith, cache_put-at_most eq es cap k v)
  after_event-at_most es cap n (Use k v) c m = cache_use-at_most eq es cap n k v c m
  after_event-at_most es cap n (Remove k) c m = omega (arith, without_shorter es k)
  after_event-at_most es cap n (Peek k) c m = m

  pub after_events-at_most : (es : List (K × V)) (cap n : ℕ) (events : List (CacheEvent K V))
      → cap ≤ n → length es ≤ n → length (after_events eq cap es events) ≤ n
  after_events-at_most es cap n [] c m = m
  after_events-at_most es cap n (e ∷ events) c m =
      after_events-at_most (after_event eq cap es e) cap n events c (after_event-at_most es cap n e c m)

module _ {K V : Type 0} (eq : K → K → Bool) (laws : IsEquivalence eq) where
  IsEntries-after_event : (cap : ℕ) (es : List (K × V)) (e : CacheEvent K V) → IsEntries eq es
      → IsEntries eq (after_event eq cap es e)
  IsEntries-after_event cap es (Insert k v) u = IsEntries-cache_put eq laws es cap k v u
  IsEntries-after_event cap es (Use k v) u = IsEntries-cache_use eq laws es cap k v u
  IsEntries-after_event cap es (Remove k) u = IsEntries-without eq laws es k u
  IsEntries-after_event cap es (Peek k) u = u

  pub IsEntries-after_events : (cap : ℕ) (es : List (K × V)) (events : List (CacheEvent K V))
      → IsEntries eq es → IsEntries eq (after_events eq cap es events)
  IsEntries-after_events cap es [] u = u
  IsEntries-after_events cap es (e ∷ events) u =
      IsEntries-after_events cap (after_event eq cap es e) events (IsEntries-after_event cap es e u)

  -- ---- two caches that get the same calls

  module _ (c d : ℕ) (fewer : c ≤ d) where
    -- what stays true for both along the calls
    pub record Alike (R : K × V → K × V → Type 0) (small large : List (K × V)) : Type 0 where
      pub unequal : IsEntries eq large
      pub within : length small ≤ c
      pub end : IsEndOf R small large

    start : (R : K × V → K × V → Type 0) → Alike R [] []
    start R = record {
      unequal = IsEntries-nil V eq;
      within = omega arith;
      end = record { front = []; back = []; is = refl; alike = tt };
    }

    -- the allowed calls; after an allowed use the smaller cache has to stay an end of the larger one
    module _ (R : K × V → K × V → Type 0) (equal : (p q : K × V) → R p q → eq p.0 q.0 ≡ true)
        (again : (p q : K) (v : V) → eq p q ≡ true → R (p, v) (q, v)) (Allowed : CacheEvent K V → Type 0)
        (uses : (k : K) (v : V) → Allowed (Use k v) → (small large : List (K × V)) → Alike R small large
        → IsEndOf R (cache_use eq small c k v) (cache_use eq large d k v)) where
      end_after : (small large : List (K × V)) (e : CacheEvent K V) → Allowed e → Alike R small large
          → IsEndOf R (after_event eq c small e) (after_event eq d large e)
      end_after small large (Insert k v) n a =
          end-cache_put eq laws R equal again c d k v small large a.unequal fewer a.within a.end
      end_after small large (Use k v) n a = uses k v n small large a
      end_after small large (Remove k) n a = end-without eq laws R equal k small large a.unequal a.end
      end_after small large (Peek k) n a = a.end

      alike_after : (small large : List (K × V)) (e : CacheEvent K V) → Allowed e → Alike R small large
          → Alike R (after_event eq c small e) (after_event eq d large e)
      alike_after small large e n a = record {
        unequal = IsEntries-after_event d large e a.unequal;
        within = after_event-at_most eq small c c e (omega arith) a.within;
        end = end_after small large e n a;
      }

      end-events : (small large : List (K × V)) (events : List (CacheEvent K V))
          → AllByRecursion Allowed events → Alike R small large
          → IsEndOf R (after_events eq c small events) (after_events eq d large events)
      end-events small large [] n a = a.end
      end-events small large (e ∷ events) n a =
          end-events (after_event eq c small e) (after_event eq d large e) events n.1
          (alike_after small large e n.0 a)

      answers-events : (Q : Option V → Option V → Type 0)
          → ((k : K) (small large : List (K × V)) → Alike R small large
          → Q (lookup (eq k) small) (lookup (eq k) large))
          → (small large : List (K × V)) (events : List (CacheEvent K V)) → AllByRecursion Allowed events
          → Alike R small large → AllZip Q (answers eq c small events) (answers eq d large events)
      answers-events Q finds small large [] n a = tt
      answers-events Q finds small large (e ∷ events) n a = (
        finds (key_of e) small large a,
        answers-events Q finds (after_event eq c small e) (after_event eq d large e) events n.1
            (alike_after small large e n.0 a),
      )

    -- two caches that start empty, by their keys only: every call is allowed
    key_uses : (k : K) (v : V) → Unit {0} → (small large : List (K × V)) → Alike (SameKey eq) small large
        → IsEndOf (SameKey eq) (cache_use eq small c k v) (cache_use eq large d k v)
    key_uses k v _ small large a = end-cache_use eq laws c d k v small large a.unequal fewer a.within a.end

    pub keys_along : (events : List (CacheEvent K V))
        → IsEndOf (SameKey eq) (after_events eq c [] events) (after_events eq d [] events)
    keys_along events =
        end-events (SameKey eq) (λ p q r. r) (λ p q v t. t) (λ _. Unit {0}) key_uses [] [] events
        (recursion_from_All _ events (λ _ _ _. tt)) (start (SameKey eq))

    pub finds_along : (events : List (CacheEvent K V))
        → AllZip AlsoFinds (answers eq c [] events) (answers eq d [] events)
    finds_along events =
        answers-events (SameKey eq) (λ p q r. r) (λ p q v t. t) (λ _. Unit {0}) key_uses AlsoFinds
        (λ k small large a. end-finds eq laws (SameKey eq) (λ p q r. r) k small large a.end) [] [] events
        (recursion_from_All _ events (λ _ _ _. tt)) (start (SameKey eq))

    -- by keys and values: all calls except uses
    pub entries_along : (events : List (CacheEvent K V)) → NoUse events
        → IsEndOf (SameEntry eq) (after_events eq c [] events) (after_events eq d [] events)
    entries_along events n =
        end-events (SameEntry eq) (λ p q r. r.0) (λ p q v t. (t, refl)) (λ e. is_use e ≡ false)
        (λ k v u _ _ _. absurd (true≢false u)) [] [] events n (start (SameEntry eq))

    pub finds_the_same_along : (events : List (CacheEvent K V)) → NoUse events
        → AllZip FindsTheSame (answers eq c [] events) (answers eq d [] events)
    finds_the_same_along events n =
        answers-events (SameEntry eq) (λ p q r. r.0) (λ p q v t. (t, refl)) (λ e. is_use e ≡ false)
        (λ k v u _ _ _. absurd (true≢false u)) FindsTheSame
        (λ k small large a w. same_end-answers eq laws k w small large a.unequal a.end) [] [] events n
        (start (SameEntry eq))

  -- ---- by the history of the calls

  HoldsRecent-events : (c : ℕ) (used : List K) (es : List (K × V)) (events : List (CacheEvent K V))
      → NoRemoval events
      → HoldsRecent eq c used es → HoldsRecent eq c (used ++ used_keys events) (after_events eq c es events)
  HoldsRecent-events c used es [] n h = rw append-nil h
  HoldsRecent-events c used es (Insert k v ∷ events) n h =
      let rest = HoldsRecent-events c (used ++ k ∷ []) (cache_put eq es c k v) events n.1
      (HoldsRecent-cache_put eq laws c used es k v h) in
      rw append_assoc at rest
  HoldsRecent-events c used es (Use k v ∷ events) n h =
      let rest = HoldsRecent-events c (used ++ k ∷ []) (cache_use eq es c k v) events n.1
      (HoldsRecent-cache_use eq laws c used es k v h) in
      rw append_assoc at rest
  HoldsRecent-events c used es (Remove k ∷ events) n h = absurd (true≢false n.0)
  HoldsRecent-events c used es (Peek k ∷ events) n h = HoldsRecent-events c used es events n.1 h

  pub holds_along : (c : ℕ) (events : List (CacheEvent K V)) → NoRemoval events
      → HoldsRecent eq c (used_keys events) (after_events eq c [] events)
  holds_along c events n = HoldsRecent-events c [] [] events n (HoldsRecent-start V eq c)

  pub answers_along : (c : ℕ) (events : List (CacheEvent K V)) (e : CacheEvent K V) → NoRemoval events
      → is_some (answer_to eq (after_events eq c [] events) e)
      ≡ (is_member eq (used_keys events) (key_of e) && nat_lt
      (reuse_distance eq (used_keys events) (key_of e)) c)
  answers_along c events e n =
      held_exactly eq laws c (used_keys events) (after_events eq c [] events) (key_of e)
      (holds_along c events n)

pub ruleset parts = (after_events-append, answers-append, IsEntries-after_events, after_events-at_most)

pub ruleset along = (holds_along, answers_along, keys_along, finds_along, entries_along, finds_the_same_along)

pub ruleset recent = (HoldsRecent-start, HoldsRecent-cache_put, HoldsRecent-cache_use, held_exactly)

pub ruleset runs = (parts, along, recent)
