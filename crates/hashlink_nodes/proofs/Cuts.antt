-- A node of a list of entries, and a place in the list: the entries before and after it, and the values of
-- the contracts' definitions there.
use Rattle.hashlink_nodes.proofs.Names.{subst, alter, ◌≡◌, Bool, true, false, cond, List, [], ◌∷◌, ◌++◌}
use Rattle.hashlink_nodes.proofs.Names.{Option, None, Some, refl, sym, ap, ◌∙◌, is_some, slice_get, unwrap_or}
use Rattle.hashlink_nodes.proofs.Names.{lookup, lookup_entry, remove_entry, set_value, keys_of, append_assoc}
use Rattle.hashlink_nodes.proofs.Names.{append-nil, Node, same_node, eq-same_node, same_node-refl, put_before}
use Rattle.hashlink_nodes.proofs.Names.{put_before_node, put_after, put_after_node, IsPlace, Holds}
use Rattle.hashlink_nodes.proofs.Names.{node_after, node_before, last_node, next_place, prev_place}
use Rattle.hashlink_nodes.proofs.Paths.{head_or, last_or}

pub same_some : {X : Type 0} {x y : X} → Some x ≡ Some y → x ≡ y
same_some e = cc

module _ {X : Type 0} where
  -- a node in the list, with the entries before and after it, and the values of the contracts' definitions at
  -- it
  pub record Cut (es : List (Node × X)) (n : Node) : Type 0 where
    pub before : List (Node × X)
    pub value : X
    pub after : List (Node × X)
    pub is : es ≡ before ++ (n, value) ∷ after
    pub looked : lookup (same_node n) es ≡ Some value
    pub entry : lookup_entry (same_node n) es ≡ Some (n, value)
    pub removed : remove_entry (same_node n) es ≡ before ++ after
    pub renewed : (w : X) → set_value (same_node n) es w ≡ before ++ (n, w) ∷ after
    pub altered : (f : X → X) → alter (same_node n) f es ≡ before ++ (n, f value) ∷ after
    pub put_in_before : (y : Node × X) → put_before_node n y es ≡ before ++ y ∷ (n, value) ∷ after
    pub put_in_after : (y : Node × X) → put_after_node n y es ≡ (before ++ (n, value) ∷ []) ++ y ∷ after
    pub comes_before : (o : Option Node) → node_before n o (keys_of es) ≡ last_node o (keys_of before)
    pub comes_after : node_after n (keys_of es) ≡ slice_get (keys_of after) 0
    pub others : (m : Node) → same_node m n ≡ false
        → lookup (same_node m) (before ++ after) ≡ lookup (same_node m) es

  pub cut : (es : List (Node × X)) (n : Node) → Holds es n → Cut es n
  cut [] n there = absurd (cc there)
  cut (e ∷ es) n there =
      (elim (same_node n e.0) as
      (λ (y : Bool). same_node n e.0 ≡ y → is_some (cond y (Some e.1) (lookup (same_node n) es)) ≡ true
      → Cut (e ∷ es) n) [
        | true ↦ λ same _. let here = same_node-refl n in
            subst (λ m. Cut ((m, e.1) ∷ es) n) (eq-same_node n e.0 same) (record {
              before = [];
              value = e.1;
              after = es;
              is = refl;
              looked = rw here;
              entry = rw here;
              removed = rw here;
              renewed = λ w. rw here;
              altered = λ f. rw here;
              put_in_before = λ y. rw here;
              put_in_after = λ y. rw here;
              comes_before = λ o. rw here;
              comes_after = rw here;
              others = λ m off. rw off;
            })
        | false ↦ λ other rest. let c = cut es n rest in record {
          before = e ∷ c.before;
          value = c.value;
          after = c.after;
          is = ap (λ l. e ∷ l) c.is;
          looked = rw other c.looked;
          entry = rw other c.entry;
          removed = rw other (ap (λ l. e ∷ l) c.removed);
          renewed = λ w. rw other (ap (λ l. e ∷ l) (c.renewed w));
          altered = λ f. rw other (ap (λ l. e ∷ l) (c.altered f));
          put_in_before = λ y. rw other (ap (λ l. e ∷ l) (c.put_in_before y));
          put_in_after = λ y. rw other (ap (λ l. e ∷ l) (c.put_in_after y));
          comes_before = λ o. rw other (c.comes_before (Some e.0));
          comes_after = rw other c.comes_after;
          others = λ m off. ap (λ o. cond (same_node m e.0) (Some e.1) o) (c.others m off);
        }
      ]) refl there

  -- the node at which a lookup found x
  pub cut_at : (es : List (Node × X)) (n : Node) (x : X) → lookup (same_node n) es ≡ Some x
      → (c : Cut es n) × (c.value ≡ x)
  cut_at es n x e = let c = cut es n (ap is_some e) in (c, same_some (sym c.looked ∙ e))

  pub last-pushed : (a : Node) (xs : List (Node × X)) (e : Node × X) →
      last_or a (keys_of (xs ++ e ∷ [])) ≡ e.0
  last-pushed a [] e = refl
  last-pushed a (x ∷ xs) e = last-pushed x.0 xs e

  -- the place at which put inserts an entry into the list
  pub record Gap (es : List (Node × X)) (put : Node × X → List (Node × X)) : Type 0 where
    pub before : List (Node × X)
    pub after : List (Node × X)
    pub is : es ≡ before ++ after
    pub puts : (e : Node × X) → put e ≡ before ++ e ∷ after

  -- the place directly before a place
  pub record BeforePlace (es : List (Node × X)) (g : Node) (place : Option Node) : Type 0 where
    pub gap : Gap es (λ e. put_before place e es)
    pub node : unwrap_or place g ≡ head_or g (keys_of gap.after)
    pub beside : prev_place (keys_of es) place ≡ last_node None (keys_of gap.before)

  pub before_place : (es : List (Node × X)) (g : Node) (place : Option Node) → IsPlace es place
      → BeforePlace es g place
  before_place es g None is = record {
    gap = record { before = es; after = []; is = sym (append-nil es); puts = λ e. refl };
    node = refl;
    beside = refl;
  }
  before_place es g (Some n) is = let c = cut es n is in record {
    gap = record { before = c.before; after = (n, c.value) ∷ c.after; is = c.is; puts = c.put_in_before };
    node = refl;
    beside = c.comes_before None;
  }

  -- the place directly after a place
  pub record AfterPlace (es : List (Node × X)) (g : Node) (place : Option Node) : Type 0 where
    pub gap : Gap es (λ e. put_after place e es)
    pub node : unwrap_or place g ≡ last_or g (keys_of gap.before)
    pub beside : next_place (keys_of es) place ≡ slice_get (keys_of gap.after) 0

  pub after_place : (es : List (Node × X)) (g : Node) (place : Option Node) → IsPlace es place
      → AfterPlace es g place
  after_place es g None is = record {
    gap = record { before = []; after = es; is = refl; puts = λ e. refl };
    node = refl;
    beside = refl;
  }
  after_place es g (Some n) is = let c = cut es n is in record {
    gap = record {
      before = c.before ++ (n, c.value) ∷ [];
      after = c.after;
      is = c.is ∙ sym (append_assoc c.before ((n, c.value) ∷ []) c.after);
      puts = c.put_in_after;
    };
    node = sym (last-pushed g c.before (n, c.value));
    beside = c.comes_after;
  }
