-- What a step of a lazy iterator looks at, returns and leaves.
use Rattle.hashlink_set.proofs.Names.{◌≡◌, ℕ, ◌^◌, ◌≤◌, Bool, true, false, cond, List, [], ◌∷◌, filter, not}
use Rattle.hashlink_set.proofs.Names.{Option, None, Some, refl, sym, ap, ◌∙◌, option_copied, IfSome, at_most}
use Rattle.hashlink_set.proofs.Names.{UpTo, is_member, Bor, TakesFirst, deref, first_passing, at_most_both}
use Rattle.hashlink_set.{proofs.Names.{elements_in, sifts}, specs.Walks.{LooksOn, SiftedSteps}}
use Rattle.hashlink_set.specs.declared.sifted.Sifted.{Sifted}
use Rattle.std.{proofs.Common.{◌+◌, nat_lt}, specs.Bool.beq}
use Rattle.hashlink_model.proofs.LazyWalks.{first_passing-takes}

module _ {T : Type 0} where
  -- a step on a list of references
  as_seen : (s t : List T) (r : Option (Bor T)) → TakesFirst (λ y. y) s (option_copied r) t
      → TakesFirst deref s r t
  as_seen s t None h = h
  as_seen s t (Some x) h = h

  pub looks_takes : (p : T → Bool) (old new : List T) (r : Option (Bor T)) → LooksOn p old r new
      → TakesFirst deref (filter p old) r (filter p new)
  looks_takes p old new r l =
      as_seen (filter p old) (filter p new) r (rw (l.gives, l.leaves) (first_passing-takes p old))

  pub some_looks : (p : T → Bool) (old here new : List T) (x : Bor T) → first_passing p old
      ≡ first_passing p here
      → here ≡ x.now ∷ new → p x.now ≡ true
      → LooksOn p old (Some x) new
  some_looks p old here new x skipped is h =
      let passes : first_passing p (x.now ∷ new) ≡ (Some x.now, new) = rw h refl in
      let step = skipped ∙ ap (first_passing p) is ∙ passes in
      record { gives = ap (λ s. s.0) (sym step); leaves = ap (λ s. s.1) (sym step) }

  pub none_looks : (p : T → Bool) (old here new : List T) → first_passing p old ≡ first_passing p here
      → (here ≡ []) × (new ≡ [])
      → LooksOn p old None new
  none_looks p old here new skipped is =
      let step = skipped ∙ ap (first_passing p) is.0 in
      record { gives = ap (λ s. s.0) (sym step); leaves = is.1 ∙ ap (λ s. s.1) (sym step) }

  -- an element passes if the other set has it or if it lacks it, depending on `asked`
  pub sifts_asked : (eq : T → T → Bool) (asked : Bool) (ys : List T) (x : T) (b : Bool)
      → b ≡ is_member eq ys x → beq b asked ≡ true
      → sifts eq asked ys x ≡ true
  sifts_asked eq true ys x true is same = sym is
  sifts_asked eq true ys x false is same = absurd (cc same)
  sifts_asked eq false ys x true is same = absurd (cc same)
  sifts_asked eq false ys x false is same = ap not (sym is)

-- ---- the steps of the iterators

module _ {T S H : Type 0} (eq : T → T → Bool) where
  pub sifted_steps : {has : ℕ} (asked : Bool) (old : Sifted T S has H) (r : Option (Bor T))
      (new : Sifted T S has H)
      → new.other.now ≡ old.other.now
      → LooksOn (sifts eq asked (elements_in old.other.now)) old.iter r new.iter
      → SiftedSteps eq asked old r new
  sifted_steps asked old r new same l = record {
    takes = rw same (looks_takes (sifts eq asked (elements_in old.other.now)) old.iter new.iter r l);
    looks = l;
    same_other = same;
  }

-- ---- size hints

-- the upper bound l + r of both sides also bounds each number up to it
pub bounds_both : (n l r : ℕ) → n ≤ l + r → IfSome (at_most_both l r) (UpTo (at_most n))
bounds_both n l r h = by (nat_lt (l + r) (2 ^ 64))
  where
    by : (b : Bool) → IfSome (cond b (Some (l + r)) None) (UpTo (at_most n))
    by true = (tt, h)
    by false = tt
