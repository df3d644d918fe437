-- What the proofs of the arena's functions share. Assumes `Logic`.
use Rattle.hashlink_nodes.proofs.Names.{ℕ, ◌<◌, ty_int, Good, ◌≡◌, ◌^◌, List, [], ◌∷◌, refl, subst, Ura, lit<}
use Rattle.hashlink_nodes.proofs.Names.{int_big, w64, Fits, Val, vint, vstruct, vcons, vnil, SProp, ent, emp}
use Rattle.hashlink_nodes.proofs.Names.{guard_i, via, fact, fact_i, prop, raw, use0, Item, Goal, Seq, Step}
use Rattle.hashlink_nodes.proofs.Names.{step, ◌$◌, Env, Opd, Logic, sem, RattleType, Laws, Struct, shape, Al}
use Rattle.hashlink_nodes.proofs.Names.{impl, tnil, dnil, ftrue}
use denote.Shadow.{makes_shadow}
use Rattle.hashlink_nodes.specs.contracts.arena.Arena as A
use Rattle.hashlink_nodes.specs.contracts.node.Node as N
use Rattle.std.specs.contracts.alloc.Global as heap
use Rattle.std.proofs.alloc.Global.TheLaws as heap_laws
use Rattle.std.proofs.BoxSteps.Form.{Bx}

-- the arena's only field, which takes no bytes
abbrev pub Mark : RattleType → RattleType
Mark R = Struct (shape (A.the_type R))

abbrev pub mark : Val
mark = vstruct (vcons (vstruct vnil) vnil)

abbrev pub Nd : RattleType
Nd = N.the_row

pub mark_made : (R : RattleType) {M : Type 1} {𝓤 : Ura M} (𝓛 : Logic 𝓤)
    → ent 𝓤 (emp 𝓤) (sem 𝓛 ((Mark R).own_val (tt, tt) (mark ∷ [])))
mark_made R 𝓛 =
    makes_shadow 𝓛 ((Mark R).own_val (tt, tt) (mark ∷ [])) (λ vss. (tt, ((λ uss. (tt, tt)), tt)))
    ((vstruct vnil ∷ [], tt), (refl, ((tt, (refl, tt)), tt)))

pub fits_word : {n : ℕ} → n < 2 ^ 64 → Good (ty_int w64) (vint w64 n)
fits_word p = (tt, record { fits = p })

-- what std's lemmas on machine values require besides a row, and do not use
abbrev pub as_handle : (R : RattleType) → Laws R → Al
as_handle R L = record {
  row = R;
  laws = L;
  g = record { dealloc_token = λ _ _ _. ftrue };
  d = impl [] tnil dnil;
  drops = impl [] tnil dnil;
}

abbrev pub Heap : RattleType
Heap = heap.the_row

abbrev pub heap_handle : Al
heap_handle = as_handle Heap heap_laws.the_row_laws

abbrev pub no_box : Bx
no_box = record { row = Heap; laws = heap_laws.the_row_laws; al = heap_handle }

module _ {M : Type 1} {𝓤 : Ura M} {𝓛 : Logic 𝓤} {K : Type 0} {Γ : List (Item 𝓤)} {E : Env 𝓤 𝓛.H} where
  -- the number of a block that has no pair, as the code has it
  pub no_entry : K → Opd K 𝓛 Γ E (int_big w64 (2 ^ 48)) (vint w64 (2 ^ 48))
  no_entry t = record {
    go = λ Kt h. via 𝓤 (Kt (vint w64 (2 ^ 48))) h
        (guard_i 𝓤 (Fits w64 (2 ^ 48)) (Kt (vint w64 (2 ^ 48))) (record { fits = lit< tt }));
  }

module _ {M : Type 1} {𝓤 : Ura M} {𝓛 : Logic 𝓤} {K : Type 0} {Γ : List (Item 𝓤)} where
  -- a fact is stated
  pub states : K → {G : Goal 𝓤 𝓛.H} {φ : Type 0} → φ → Step K 𝓛 (raw (fact 𝓤 φ) ∷ Γ) G Γ G
  states t {φ = φ} p = step (λ s. use0 𝓛 (raw (fact 𝓤 φ)) (fact_i 𝓤 φ (emp 𝓤) p) $ s)

  -- the machine values of the arguments are known
  pub args_are : K → {X : Type 0} (Run : X → SProp 𝓤) {x y : X} → x ≡ y
      → Step K 𝓛 Γ (prop (Run x)) Γ (prop (Run y))
  args_are t Run e = step (λ s. subst (λ w. Seq K 𝓛 Γ (prop (Run w))) e s)
