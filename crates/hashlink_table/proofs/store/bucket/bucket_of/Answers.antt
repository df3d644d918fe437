-- A power of two minus one is a mask of the low bits.
use Rattle.hashlink_table.proofs.Names.{◌≡◌, ℕ, ◌-◌, ◌%◌, bit_and, sym, subst, and_mask}
use Rattle.hashlink_table.proofs.store.bucket.bucket_of.Goals as goal

pub returns : goal.returns
returns c =
    let Masks : ℕ → Type 0 = λ n. bit_and c.args.hash (n - 1) ≡ c.args.hash % n in
    subst Masks (sym c.requires.1) (and_mask c.args.hash c.requires.0)
