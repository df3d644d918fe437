-- A value's one machine value, and the parts of a `Result` and of an `Option`. Assumes `Logic`.
use Rattle.hashlink_map.proofs.Names.{◌≡◌, List, [], ◌∷◌, ◌++◌, refl, ap, subst, ◌∙◌, Ura, Val, of_list}
use Rattle.hashlink_map.proofs.Names.{Logic, live, Is, shows, Typed, layout, Laws, RattleType, peeks, Ok, Err}
use Rattle.std.specs.Prelude.{Some, None}
use Rattle.std.specs.contracts.option.Option as option
use Rattle.std.specs.contracts.result.Result as result
use types.Kit.{Item, Goal, Seq, ‵, ◌$◌, move, drop, fsplit, fpick, feq_l, rewrite}
use Rattle.std.proofs.cell.Inside.{Good, one}

module _ {M : Type 1} {𝓤 : Ura M} (𝓛 : Logic 𝓤) (R : RattleType) (L : Laws R) where
  pub value_of : (x : R.Denot) (vs : List Val) → Is R x vs → (v : Val) × (vs ≡ v ∷ []) × Good (layout R) v
  value_of x vs is = one (layout R) vs (subst (λ τs. Typed τs vs) L.one ((L.lawful 𝓛).typed x vs is))

module _ {M : Type 1} {𝓤 : Ura M} {𝓛 : Logic 𝓤} {K : Type 0} {Γ : List (Item 𝓤)} {G : Goal 𝓤 𝓛.H} where
  pub valued : K → (R : RattleType) (L : Laws R) (x : R.Denot) (vs : List Val)
      → ((v : Val) → vs ≡ v ∷ [] → Good (layout R) v → Seq K 𝓛 (‵ (R.own_val x (v ∷ [])) ∷ Γ) G)
      → Seq K 𝓛 (‵ (R.own_val x vs) ∷ Γ) G
  valued t R L x vs k =
      peeks t R (Is R) (shows 𝓛 R) x vs
      (λ is. let got = value_of 𝓛 R L x vs is in
      rewrite t 0 (λ (us : List Val). ‵ (R.own_val x us)) got.1 refl $ k got.0 got.1 got.2)

  pub ok_had : K → (X E : RattleType) (x : X.Denot) (vs : List Val)
      → ((ws : List Val) → vs ≡ live 0 (of_list (ws ++ [])) ∷ [] → Seq K 𝓛 (‵ (X.own_val x ws) ∷ Γ) G)
      → Seq K 𝓛 (‵ ((result.the_row X E).own_val (Ok x) vs) ∷ Γ) G
  ok_had t X E x vs k =
      fpick t
      (λ us. fsplit t $ feq_l t
      (λ ev. fpick t
      (λ vss. fsplit t $ feq_l t
      (λ eu. fsplit t $ move t (1 ∷ []) $ drop t $ k vss.0 (ev ∙ ap (λ ws. live 0 (of_list ws) ∷ []) eu)))))

  pub err_had : K → (X E : RattleType) (x : E.Denot) (vs : List Val)
      → ((ws : List Val) → vs ≡ live 1 (of_list (ws ++ [])) ∷ [] → Seq K 𝓛 (‵ (E.own_val x ws) ∷ Γ) G)
      → Seq K 𝓛 (‵ ((result.the_row X E).own_val (Err x) vs) ∷ Γ) G
  err_had t X E x vs k =
      fpick t
      (λ us. fsplit t $ feq_l t
      (λ ev. fpick t
      (λ vss. fsplit t $ feq_l t
      (λ eu. fsplit t $ move t (1 ∷ []) $ drop t $ k vss.0 (ev ∙ ap (λ ws. live 1 (of_list ws) ∷ []) eu)))))

  pub some_had : K → (X : RattleType) (x : X.Denot) (vs : List Val)
      → ((ws : List Val) → vs ≡ live 1 (of_list (ws ++ [])) ∷ [] → Seq K 𝓛 (‵ (X.own_val x ws) ∷ Γ) G)
      → Seq K 𝓛 (‵ ((option.the_row X).own_val (Some x) vs) ∷ Γ) G
  some_had t X x vs k =
      fpick t
      (λ us. fsplit t $ feq_l t
      (λ ev. fpick t
      (λ vss. fsplit t $ feq_l t
      (λ eu. fsplit t $ move t (1 ∷ []) $ drop t $ k vss.0 (ev ∙ ap (λ ws. live 1 (of_list ws) ∷ []) eu)))))

  pub none_had : K → (X : RattleType) (vs : List Val)
      → (vs ≡ live 0 (of_list []) ∷ [] → Seq K 𝓛 Γ G)
      → Seq K 𝓛 (‵ ((option.the_row X).own_val None vs) ∷ Γ) G
  none_had t X vs k =
      fpick t
      (λ us. fsplit t $ feq_l t
      (λ ev. fpick t
      (λ vss. fsplit t $ feq_l t
      (λ eu. drop t $ k (ev ∙ ap (λ ws. live 0 (of_list ws) ∷ []) eu)))))
