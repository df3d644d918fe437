-- The elements of a set and its entries.
use Rattle.hashlink_model.proofs.Names.{◌≡◌, ℕ, Bool, List, [], ◌∷◌, refl, sym, ap, keys_of, put, pairs_of}
use Rattle.hashlink_model.proofs.Names.{put_element}

module _ {T : Type 0} where
  pub pairs_of-keys_of : (es : List (T × Unit {0})) → pairs_of (keys_of es) ≡ es
  pairs_of-keys_of [] = refl
  pairs_of-keys_of (e ∷ es) = ap (λ r. e ∷ r) (pairs_of-keys_of es)

  pub keys_of-pairs_of : (ts : List T) → keys_of (pairs_of ts) ≡ ts
  keys_of-pairs_of [] = refl
  keys_of-pairs_of (t ∷ ts) = ap (λ r. t ∷ r) (keys_of-pairs_of ts)

  pub keys_of-put : (eq : T → T → Bool) (es : List (T × Unit {0})) (t : T) (b : ℕ)
      → keys_of (put eq es t tt b) ≡ put_element eq (keys_of es) t b
  keys_of-put eq es t b = ap (λ zs. keys_of (put eq zs t tt b)) (sym (pairs_of-keys_of es))
