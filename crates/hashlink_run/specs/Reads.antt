-- The reply to a command that reads a pair: `Says k v b` states that the closure may return b for the key k
-- and the value v.
use Rattle.std.specs.{Prelude.{◌≡◌, List, [], ◌∷◌, Option, None, Some}, Fn.{Shared, FnReturns}, Borrow.Bor}
use Rattle.hashlink_model.specs.MapState.{MapState}
use Rattle.hashlink_run.specs.declared.replies.{Reply.Reply, Reply.TheVariants.Seen}

module _ {F K V B : Type 0} (g : Shared F (Bor K × (Bor V × Unit {0})) B) (f : F) where
  -- f may be called at references to k and v
  abbrev pub CallableAt : K → V → Type 0
  CallableAt k v = (key : Bor K) (value : Bor V) → key.now ≡ k → value.now ≡ v → g.pre f (key, (value, tt))

  -- f may be called on each pair for which `These` holds
  abbrev pub CallableOn : (K × V → Type 0) → Type 0
  CallableOn These = (pair : K × V) → These pair → CallableAt pair.0 pair.1

-- a call of the closure f at references to k and v may return b
pub record ClosureSays {F K V B : Type 0} (g : Shared F (Bor K × (Bor V × Unit {0})) B) (f : F)
    (k : K) (v : V) (b : B) : Type 0 where
  pub key : Bor K
  pub value : Bor V
  pub shows : (key.now ≡ k) × (value.now ≡ v)
  pub says : FnReturns g f (key, (value, tt)) b

module _ {K V B : Type 0} (Says : K → V → B → Type 0) where
  -- what the closure may return for a pair that is read, and nothing if there is none
  abbrev pub SaysOf : Option (K × V) → Option B → Type 0
  SaysOf None None = Unit {0}
  SaysOf (Some pair) (Some said) = Says pair.0 pair.1 said
  SaysOf None (Some said) = ⊥
  SaysOf (Some pair) None = ⊥

  -- the reply contains that value
  abbrev pub Replies : Option (K × V) → List (Reply K V B) → Type 0
  Replies pair replies = (said : Option B) × SaysOf pair said × (replies ≡ Seen said ∷ [])

  -- a pair is read, and nothing changes
  abbrev pub Reads : {S : Type 0} → MapState K V S → Option (K × V) → List (Reply K V B)
      → MapState K V S → Type 0
  Reads old pair replies new = (new ≡ old) × Replies pair replies
