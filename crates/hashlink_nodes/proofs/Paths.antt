-- Paths along links, and their parts that a change of one link leaves.
use Rattle.hashlink_nodes.proofs.Names
use Names.{◌≡◌, ℕ, zero, suc, false, cond, List, [], ◌∷◌, ◌++◌, length, refl, sym, ap, ◌∙◌, subst}
use Names.{IsDistinct-head, IsDistinct-tail, IsDistinct-cons, IsDistinct-IsPermutation, AllByRecursion}
use Names.{IsDistinct, Node, same_node, same_node_equiv, same_node-refl, set_at, IsLinked, IsChain, walk}
use Rattle.std.proofs.lemmas.List.Sorted.{IsPermutation-middle, IsPermutation-sym}

-- the first of the nodes, or b
abbrev pub head_or : Node → List Node → Node
head_or b [] = b
head_or b (n ∷ ns) = n

-- the last of the nodes, or a
abbrev pub last_or : Node → List Node → Node
last_or a [] = a
last_or a (n ∷ ns) = last_or n ns

abbrev pub Off : Node → Node → Type 0
Off n m = same_node n m ≡ false

-- n is none of the nodes
abbrev pub IsOff : Node → List Node → Type 0
IsOff n ns = AllByRecursion (λ m. same_node n m ≡ false) ns

-- f and f' agree on the nodes
abbrev pub Agrees : {X : Type 0} → (Node → X) → (Node → X) → List Node → Type 0
Agrees f' f ns = AllByRecursion (λ m. f' m ≡ f m) ns

pub flip : (n m : Node) → same_node n m ≡ false → same_node m n ≡ false
flip n m h = same_node_equiv.symm m n ∙ h

pub set_at_here : {X : Type 0} (f : Node → X) (n : Node) (x : X) → set_at f n x n ≡ x
set_at_here f n x = ap (λ y. cond y x (f n)) (same_node-refl n)

pub set_at_other : {X : Type 0} (f : Node → X) (n m : Node) (x : X) → same_node m n ≡ false
    → set_at f n x m ≡ f m
set_at_other f n m x h = ap (λ y. cond y x (f m)) h

-- ---- nodes that are distinct
module _ {X : Type 0} (P : X → Type 0) where
  pub all_left : (xs ys : List X) → AllByRecursion P (xs ++ ys) → AllByRecursion P xs
  all_left [] ys h = tt
  all_left (x ∷ xs) ys h = (h.0, all_left xs ys h.1)

  pub all_right : (xs ys : List X) → AllByRecursion P (xs ++ ys) → AllByRecursion P ys
  all_right [] ys h = h
  all_right (x ∷ xs) ys h = all_right xs ys h.1

  pub all_both : (xs ys : List X) → AllByRecursion P xs → AllByRecursion P ys → AllByRecursion P (xs ++ ys)
  all_both [] ys h k = k
  all_both (x ∷ xs) ys h k = (h.0, all_both xs ys h.1 k)

  -- a fact of all elements, without the one in the middle and with it
  pub all_without : (xs : List X) (n : X) (ys : List X) → AllByRecursion P (xs ++ n ∷ ys)
      → AllByRecursion P (xs ++ ys)
  all_without xs n ys h = all_both xs ys (all_left xs (n ∷ ys) h) (all_right xs (n ∷ ys) h).1

  pub all_with : (xs : List X) (n : X) (ys : List X) → P n → AllByRecursion P (xs ++ ys)
      → AllByRecursion P (xs ++ n ∷ ys)
  all_with xs n ys p h = all_both xs (n ∷ ys) (all_left xs ys h) (p, all_right xs ys h)

  pub all_middle : (xs : List X) (n : X) (ys : List X) → AllByRecursion P (xs ++ n ∷ ys) → P n
  all_middle xs n ys h = (all_right xs (n ∷ ys) h).0

pub all_as : {X : Type 0} {P Q : X → Type 0} → ((x : X) → P x → Q x) → (xs : List X) → AllByRecursion P xs
    → AllByRecursion Q xs
all_as f [] h = tt
all_as f (x ∷ xs) h = (f x h.0, all_as f xs h.1)

-- two facts of each element imply a third
pub all_zip : {X : Type 0} {P Q R : X → Type 0} → ((x : X) → P x → Q x → R x) → (xs : List X)
    → AllByRecursion P xs
    → AllByRecursion Q xs
    → AllByRecursion R xs
all_zip f [] h k = tt
all_zip f (x ∷ xs) h k = (f x h.0 k.0, all_zip f xs h.1 k.1)

-- the node in the middle is moved to the front, and back
pub to_front : (xs : List Node) (n : Node) (ys : List Node) → IsDistinct same_node (xs ++ n ∷ ys)
    → IsDistinct same_node (n ∷ (xs ++ ys))
to_front xs n ys d =
    IsDistinct-IsPermutation same_node same_node_equiv.symm _ _ (IsPermutation-middle xs n ys) d

pub from_front : (xs : List Node) (n : Node) (ys : List Node) → IsDistinct same_node (n ∷ (xs ++ ys))
    → IsDistinct same_node (xs ++ n ∷ ys)
from_front xs n ys d =
    IsDistinct-IsPermutation same_node same_node_equiv.symm _ _
    (IsPermutation-sym _ _ (IsPermutation-middle xs n ys)) d

-- the last of the first nodes is not among the rest
pub off_rest : (a : Node) (xs ys : List Node) → IsDistinct same_node (a ∷ (xs ++ ys))
    → IsOff (last_or a xs) ys
off_rest a [] ys d = IsDistinct-head same_node a ys d
off_rest a (x ∷ xs) ys d = off_rest x xs ys (IsDistinct-tail same_node a _ d)

pub off_last : (a x : Node) (xs rest : List Node) → IsOff a (x ∷ (xs ++ rest))
    → same_node a (last_or x xs) ≡ false
off_last a x [] rest o = o.0
off_last a x (y ∷ xs) rest o = off_last a y xs rest o.1

-- ---- links
pub linked_same : (f' f b' b : Node → Node) (a : Node) (ns : List Node) (z : Node) → Agrees f' f (a ∷ ns)
    → Agrees b' b ns → b' z ≡ b z → IsLinked f b a ns z → IsLinked f' b' a ns z
linked_same f' f b' b a [] z h k kz l = (h.0 ∙ l.0, kz ∙ l.1)
linked_same f' f b' b a (n ∷ ns) z h k kz l =
    ((h.0 ∙ l.0.0, k.0 ∙ l.0.1), linked_same f' f b' b n ns z h.1 k.1 kz l.1)

pub chain_same : (f' f : Node → Node) (a : Node) (ns : List Node) → Agrees f' f ns → IsChain f a ns →
    IsChain f' a ns
chain_same f' f a [] h c = tt
chain_same f' f a (n ∷ ns) h c = (
  c.0,
  subst (λ m. IsChain f' m ns) (sym h.0)
      (chain_same f' f (f n) ns h.1 c.1),
)

-- f' and f agree except at one node, or at two, none of which is in ns
pub agrees_off : {X : Type 0} (f' f : Node → X) (p : Node) (ns : List Node)
    → ((m : Node) → same_node m p ≡ false → f' m ≡ f m) → IsOff p ns
    → Agrees f' f ns
agrees_off f' f p ns others o = all_as (λ m h. others m (flip p m h)) ns o

pub agrees_off_two : {X : Type 0} (f' f : Node → X) (n p : Node) (ns : List Node)
    → ((m : Node) → same_node m n ≡ false → same_node m p ≡ false → f' m ≡ f m) → IsOff n ns → IsOff p ns
    → Agrees f' f ns
agrees_off_two f' f n p ns others o q = all_zip (λ m h k. others m (flip n m h) (flip p m k)) ns o q

pub off_head : (x : Node) (ys : List Node) (b : Node) → IsOff x ys → same_node x b ≡ false
    → same_node x (head_or b ys) ≡ false
off_head x [] b o h = h
off_head x (y ∷ ys) b o h = o.0

-- the node in the middle is taken out: its neighbours are linked
pub linked_detach : (f' f b' b : Node → Node) (n a : Node) (xs ys : List Node) (z : Node)
    → IsLinked f b a (xs ++ n ∷ ys) z → f' (last_or a xs) ≡ head_or z ys → b' (head_or z ys) ≡ last_or a xs
    → ((m : Node) → same_node m (last_or a xs) ≡ false → f' m ≡ f m)
    → ((m : Node) → same_node m (head_or z ys) ≡ false → b' m ≡ b m)
    → IsDistinct same_node (a ∷ (xs ++ n ∷ ys)) → IsDistinct same_node (z ∷ (xs ++ n ∷ ys))
    → IsLinked f' b' a (xs ++ ys) z
linked_detach f' f b' b n a [] [] z l on back others backs d e = (on, back)
linked_detach f' f b' b n a [] (y ∷ ys) z l on back others backs d e =
    let rest = IsDistinct-tail same_node n _ (IsDistinct-tail same_node a _ d) in (
      (on, back),
      linked_same f' f b' b y ys z (agrees_off f' f a (y ∷ ys) others (IsDistinct-head same_node a _ d).1)
          (agrees_off b' b y ys backs (IsDistinct-head same_node y ys rest))
          (backs z (IsDistinct-head same_node z _ e).1.0) l.1.1,
    )
linked_detach f' f b' b n a (x ∷ xs) ys z l on back others backs d e =
    let o = IsDistinct-head same_node z _ e in let rest = IsDistinct-tail same_node a _ d in
    let off_x = all_right (Off x) xs ys (all_without (Off x) xs n ys (IsDistinct-head same_node x _ rest)) in
    let here = others a (off_last a x xs (n ∷ ys) (IsDistinct-head same_node a _ d)) ∙ l.0.0 in
    let there = backs x (off_head x ys z off_x (flip z x o.0)) ∙ l.0.1 in (
      (here, there),
      linked_detach f' f b' b n x xs ys z l.1 on back others backs rest
          (IsDistinct-cons same_node z _ o.1 (IsDistinct-tail same_node x _ rest)),
    )

-- a node is linked in between
pub linked_attach : (f' f b' b : Node → Node) (n a : Node) (xs ys : List Node) (z : Node)
    → IsLinked f b a (xs ++ ys) z → f' (last_or a xs) ≡ n → b' n ≡ last_or a xs → f' n ≡ head_or z ys
    → b' (head_or z ys) ≡ n
    → ((m : Node) → same_node m n ≡ false → same_node m (last_or a xs) ≡ false → f' m ≡ f m)
    → ((m : Node) → same_node m n ≡ false → same_node m (head_or z ys) ≡ false → b' m ≡ b m)
    → IsDistinct same_node (n ∷ a ∷ (xs ++ ys)) → IsDistinct same_node (n ∷ z ∷ (xs ++ ys))
    → IsLinked f' b' a (xs ++ n ∷ ys) z
linked_attach f' f b' b n a [] [] z l to_n from_n on back others backs d e = ((to_n, from_n), (on, back))
linked_attach f' f b' b n a [] (y ∷ ys) z l to_n from_n on back others backs d e =
    let o = IsDistinct-head same_node n _ d in let rest = IsDistinct-tail same_node n _ d in
    let oz = IsDistinct-head same_node z _ (IsDistinct-tail same_node n _ e) in (
      (to_n, from_n),
      (
        (on, back),
        linked_same f' f b' b y ys z
            (agrees_off_two f' f n a (y ∷ ys) others o.1 (IsDistinct-head same_node a _ rest))
            (agrees_off_two b' b n y ys backs o.1.1
            (IsDistinct-head same_node y ys (IsDistinct-tail same_node a _ rest)))
            (backs z (flip n z (IsDistinct-head same_node n _ e).0) oz.0) l.1,
      ),
    )
linked_attach f' f b' b n a (x ∷ xs) ys z l to_n from_n on back others backs d e =
    let o = IsDistinct-head same_node n _ d in let rest = IsDistinct-tail same_node n _ d in
    let oz = IsDistinct-head same_node z _ (IsDistinct-tail same_node n _ e) in
    let rest_x = IsDistinct-tail same_node a _ rest in
    let off_x = all_right (Off x) xs ys (IsDistinct-head same_node x _ rest_x) in
    let here = others a (flip n a o.0) (off_last a x xs ys (IsDistinct-head same_node a _ rest)) ∙ l.0.0 in
    let there = backs x (flip n x o.1.0) (off_head x ys z off_x (flip z x oz.0)) ∙ l.0.1 in (
      (here, there),
      linked_attach f' f b' b n x xs ys z l.1 to_n from_n on back others backs
          (IsDistinct-cons same_node n _ o.1 rest_x)
          (IsDistinct-cons same_node n _ ((IsDistinct-head same_node n _ e).0, o.1.1)
          (IsDistinct-cons same_node z _ oz.1 (IsDistinct-tail same_node x _ rest_x))),
    )

-- the links of a node in the middle
pub linked_at : (f b : Node → Node) (n a : Node) (xs ys : List Node) (z : Node)
    → IsLinked f b a (xs ++ n ∷ ys) z → (f n ≡ head_or z ys) × (b n ≡ last_or a xs)
linked_at f b n a [] [] z l = (l.1.0, l.0.1)
linked_at f b n a [] (y ∷ ys) z l = (l.1.0.0, l.0.1)
linked_at f b n a (x ∷ xs) ys z l = linked_at f b n x xs ys z l.1

-- the last of the first nodes and the first of the rest are linked
pub linked_cut : (f b : Node → Node) (a : Node) (xs ys : List Node) (z : Node) → IsLinked f b a (xs ++ ys) z
    → (f (last_or a xs) ≡ head_or z ys) × (b (head_or z ys) ≡ last_or a xs)
linked_cut f b a [] [] z l = l
linked_cut f b a [] (y ∷ ys) z l = l.0
linked_cut f b a (x ∷ xs) ys z l = linked_cut f b x xs ys z l.1

-- ---- paths along one link
pub length-walk : (f : Node → Node) (a : Node) (count : ℕ) → length (walk f a count) ≡ count
unfolding walk
length-walk f a zero = refl
length-walk f a (suc count) = ap suc (length-walk f (f a) count)

pub walk-chain : (f : Node → Node) (a : Node) (ns : List Node) → IsChain f a ns → walk f a (length ns) ≡ ns
unfolding walk
walk-chain f a [] c = refl
walk-chain f a (n ∷ ns) c = λ i. c.0 i ∷
    (ap (λ m. walk f (f m) (length ns)) c.0 ∙ walk-chain f (f n) ns c.1) i

pub chain_of_linked : (f b : Node → Node) (a : Node) (ns : List Node) (z : Node) → IsLinked f b a ns z
    → IsChain f (f a) ns
chain_of_linked f b a [] z l = tt
chain_of_linked f b a (n ∷ ns) z l = (l.0.0, chain_of_linked f b n ns z l.1)

pub walk-linked : (f b : Node → Node) (a : Node) (ns : List Node) (z : Node) → IsLinked f b a ns z
    → walk f (f a) (length ns) ≡ ns
walk-linked f b a ns z l = walk-chain f (f a) ns (chain_of_linked f b a ns z l)
