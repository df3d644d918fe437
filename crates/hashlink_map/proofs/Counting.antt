-- What a retain leaves whose closure counts: it removes the first entries that pass, up to a number.
use Rattle.std.{proofs.Common.{◌≡◌, ◌+◌, ◌≤◌, ℕ, zero, suc, Bool, cond, not, ◌&&◌, nat_lt}, specs.Map.keys_of}
use Rattle.std.proofs.Common.{List, [], ◌∷◌, length, ap, refl, sym, subst, ◌∙◌, arith, true, false, filter}
use Rattle.hashlink_model.specs.{MapState.MapState, Retain.{KeepsInOrder, RetainsInOrder}, Steps.KeepsOnly}
use Rattle.hashlink_map.specs.WithoutFirst.{without_first}

module _ {X : Type 0} (passes : X → Bool) where
  without_first-none : (n : ℕ) → without_first passes n [] ≡ []
  without_first-none zero = refl
  without_first-none (suc n) = refl

  -- goal: items of a kind none of which pass, once the first that pass have left
  pub filter-without_first : (kind : X → Bool) → ((x : X) → passes x ≡ true → kind x ≡ false)
      → (n : ℕ) (xs : List X) → filter kind (without_first passes n xs) ≡ filter kind xs
  filter-without_first kind apart zero xs = refl
  filter-without_first kind apart (suc n) [] = refl
  filter-without_first kind apart (suc n) (x ∷ xs) =
      grind (arith, apart x, filter-without_first kind apart n xs, filter-without_first kind apart (suc n) xs)

  -- where x is kept or not by whether it passes and n is not zero, and of the items behind it m are removed
  without_first-cons : (p b : Bool) (n m : ℕ) (x y : X) (xs rest kept : List X) → passes x ≡ p
      → b ≡ not (p && nat_lt 0 n) → m + cond b 0 1 ≡ n → y ≡ x → kept ≡ cond b (y ∷ rest) rest
      → rest ≡ without_first passes m xs → kept ≡ without_first passes n (x ∷ xs)
  without_first-cons p b zero m x y xs rest kept px answer count same is behind =
      let none : m ≡ 0 = omega arith in
      grind (arith, without_first-none 0, ap (λ k. without_first passes k xs) none)
  without_first-cons p b (suc n) m x y xs rest kept px answer count same is behind =
      let less = λ (e : m ≡ n). ap (λ k. without_first passes k xs) e in
      let more = λ (e : m ≡ suc n). ap (λ k. without_first passes k xs) e in
      grind (arith, less, more)

-- T describes one call. If the closure's number is not zero, it removes an entry that passes, and lowers the
-- number by one. It writes no value. The number is behind a reference whose name stays.
module _ {F K V N : Type 0} (T : F → K → V → Bool → V → F → Type 0) (passes : K × V → Bool) where
  module _ (left : F → ℕ) (name : F → N) where
    -- what one call does
    abbrev pub CallsCount : Type 0
    CallsCount =
        (f : F) (k : K) (v : V) (b : Bool) (w : V) (g : F) → T f k v b w g
        → (b ≡ not (passes (k, v) && nat_lt 0 (left f))) × (left g + cond b 0 1 ≡ left f) × (w ≡ v)
        × (name f ≡ name g)

    module _ (call : CallsCount) where
      record CountsDown (f : F) (es kept : List (K × V)) (g : F) : Type 0 where
        pub entries : kept ≡ without_first passes (left f) es
        pub count : left f + length kept ≡ left g + length es
        pub fewer : left g ≤ left f
        pub same : name f ≡ name g

      counted_more : (f f' g : F) (e : K × V) (es kept rest : List (K × V)) (b : Bool) (w : V)
          → left f' + cond b 0 1 ≡ left f → kept ≡ cond b ((e.0, w) ∷ rest) rest
          → left f' + length rest ≡ left g + length es → left g ≤ left f'
          → (left f + length kept ≡ left g + length (e ∷ es)) × (left g ≤ left f)
      counted_more f f' g e es kept rest b w count is more below = grind arith

      counts_down : (f : F) (es kept : List (K × V)) (g : F) → KeepsInOrder T f es kept g
          → CountsDown f es kept g
      counts_down f [] kept g h =
          let none = ap length h.0 in
          let left-same = ap left h.1 in
          record {
            entries = h.0 ∙ sym (without_first-none passes (left f));
            count = omega arith;
            fewer = omega arith;
            same = sym (ap name h.1);
          }
      counts_down f (e ∷ es) kept g h =
          let one = call f e.0 e.1 h.0 h.1 h.2 h.4 in
          let more = counts_down h.2 es h.3 g h.5 in
          let count = counted_more f h.2 g e es kept h.3 h.0 h.1 one.1 h.6 more.count more.fewer in
          record {
            entries = without_first-cons passes (passes e) h.0 (left f) (left h.2) e (e.0, h.1) es h.3 kept
                refl one.0 one.1 (ap (λ v. (e.0, v)) one.2) h.6 more.entries;
            count = count.0;
            fewer = count.1;
            same = one.3 ∙ more.same;
          }

      -- the whole retain: the first entries that pass were removed, as many as the number fell by
      pub record RemovesFirst {S : Type 0} (f : F) (old new : MapState K V S) (g : F) : Type 0 where
        pub left_are : KeepsOnly old new (without_first passes (left f) old.entries)
        pub count : left f + length new.entries ≡ left g + length old.entries
        pub fewer : left g ≤ left f
        pub same : name f ≡ name g

      -- goal: what a retain leaves whose closure counts down, and how far it counted. The step is
      -- `c.retain_from.ensures.retained` of a map, `c.retain.ensures.retained.1`, and the field `map` of a
      -- cache's
      pub removes_first : {S : Type 0} (f : F) (old new : MapState K V S) (g : F)
          → RetainsInOrder T f old new g → RemovesFirst f old new g
      removes_first f old new g r =
          let all = counts_down f old.entries r.kept g r.calls in
          record {
            left_are = subst (KeepsOnly old new) all.entries r.keeps;
            count = ap (λ es. left f + length es) r.keeps.entries ∙ all.count;
            fewer = all.fewer;
            same = all.same;
          }

-- goal: the same of a set, whose elements are the keys
module _ {K V : Type 0} (passes : K → Bool) where
  pub without_first-keys : (n : ℕ) (es : List (K × V))
      → keys_of (without_first (λ e. passes e.0) n es) ≡ without_first passes n (keys_of es)
  without_first-keys zero es = refl
  without_first-keys (suc n) [] = refl
  without_first-keys (suc n) (e ∷ es) =
      grind (arith, without_first-keys n es, without_first-keys (suc n) es)
