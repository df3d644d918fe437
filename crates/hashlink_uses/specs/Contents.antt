-- Pages of a store with a cache in front of it.
use Rattle.std.specs.{Prelude.{◌≡◌, ◌≤◌, ◌+◌, ℕ, false, List, Some, length, nat_eq}, Map.lookup}
use Rattle.std.specs.Option.{option_map_or}
use Rattle.hashlink_uses.specs.declared.pages.Page.{Page}

-- what a contract sees of a cache of pages: the pages that it holds, how many it may hold, and the store
pub record Pages (V T : Type 0) : Type 0 where
  pub held : List (ℕ × Page V)
  pub capacity : ℕ
  pub store : T

module _ {V : Type 0} where
  -- the cache has room for at least one page, and no more pages than it has room for; each page that was not
  -- changed is as the store has it
  pub record IsSound (held : List (ℕ × Page V)) (capacity : ℕ) (stored : ℕ → V) : Type 0 where
    pub some : 1 ≤ capacity
    pub within : length held ≤ capacity + 0
    pub clean : (n : ℕ) (p : Page V) → lookup (nat_eq n) held ≡ Some p → p.is_changed ≡ false
        → p.value ≡ stored n

  -- the content under a number: the page in the cache if there is one, else the page in the store, which
  -- `page` returns
  abbrev pub content : {T : Type 0} → (T → ℕ → V) → Pages V T → ℕ → V
  content page c n = option_map_or (λ p. p.value) (lookup (nat_eq n) c.held) (page c.store n)
