-- `or_insert` lends the pair of the entry that `or_insert_entry` returns.
use Rattle.hashlink_map.specs.declared.raw_entry.RawEntryMut.TheVariants as found
use Rattle.hashlink_map.specs.contracts.raw_entry.RawEntryMut.or_insert as f
use Rattle.hashlink_map.proofs.raw_entry.RawEntryMut.or_insert_entry.Met as entered
use Rattle.hashlink_map.proofs.raw_entry.occupied.RawOccupiedEntryMut+K+V+S.pair_of.Met as lent
use Rattle.hashlink_map.proofs.raw_entry.RawEntryMut.or_insert.Code as code
use Rattle.hashlink_map.{proofs.Names.{◌≡◌, [], ◌∷◌, refl, ftrue, fsep, ent, via}, proofs.PairValues.value_of}
use Rattle.hashlink_map.{proofs.Names.raw_pair, proofs.raw_entry.RawEntryMut.or_insert.Statement.statement}
use Rattle.hashlink_map.proofs.Names.{sem, of_opd, and_then, no_more, returns, enter, alloc_all, pass_all}
use Rattle.hashlink_map.proofs.Names.{free_all, look_at, get, sets, lands_as, Lfts, tables, no, Last, left}
use Rattle.hashlink_map.proofs.Names.{rest, param, param_laws, plain, nothing, calls_from, framed}
use Rattle.hashlink_map.proofs.Names.{stay_dropped, Goes-dropped, IfOk, MatchOption, raw_map, raw_state}
use Rattle.hashlink_map.{proofs.LastMoved.given_parts, proofs.PairRows.{Answer, Entered, Found, found_laws}}
use Rattle.hashlink_map.{proofs.EnterAndLend.{all_five, entered_and_lent, returned}, proofs.PutLast.puts_last}
use types.Kit.{‵, raw, ◌$◌, ◌∵◌, !, qed, done, move, fjoin}

pub or_insert_spec : {M : Type 1} → statement M
or_insert_spec 𝓤 𝓛 𝓜 𝓡 wired K V S T LK LV LS LT e de p dp h dh b db w dw dd dk dv me mp mh mb mw md mk mv =
    let H = 𝓛.H in let 𝓣 = tables 𝓤 H 𝓜 𝓡 𝓡.env in
    let En = f.ended K V S T e de p dp h dh b db w dw dd dk dv in
    let self = plain (λ (κs : Lfts 5). Found K V LK LV κs.0 S T LS LT p h b w) in
    let key = plain (λ (κs : Lfts 5). param 0 K) in
    let value = plain (λ (κs : Lfts 5). param 1 V) in
    entered_and_lent 𝓤 𝓛 𝓜 𝓡 K V S T LK LV LS LT e de p dp h dh b db w dw dd 5 (all_five 𝓛)
    En.signature.outlives En.signature.params En.kept
    (stay_dropped self no, (stay_dropped key no, (stay_dropped value no, tt))) (λ κs bounds. bounds)
    (λ κs a. puts_last 𝓤 𝓛 K V S T LK LV LS LT p h b w κs.0 me.laws (raw_map a.0) (raw_state a.0)
    (λ e. e ≡ (a.1.0, a.1.1.0)) (λ r. IfOk r (λ q. MatchOption (raw_pair (raw_state a.0))
    ((q.0.now ≡ a.1.0) × (q.1.now ≡ a.1.1.0)) (λ stood. (q.0.now ≡ stood.0) × (q.1.now ≡ stood.1))))
    (given_parts (raw_state a.0) a.1.0 a.1.1.0))
    (λ κs a. f.requires-absent K V S T e de p dp h dh b db w dw dd dk dv 𝓛 κs 𝓜.mem 𝓡.returns a.0
    a.1.0 a.1.1.0) (
      (λ κs x f us ok.
          let quiet = via 𝓤 (sem 𝓛 (fsep (fsep ftrue ftrue) ftrue))
          (qed 𝓛 (‵ ftrue ∷ []) ∵ nothing ! $ fjoin ! $
          nothing ! $ move ! (1 ∷ 0 ∷ []) $ fjoin ! $ done !)
          (𝓛.laws.⇛_intro (sem 𝓛 (fsep (fsep ftrue ftrue) ftrue))) in
          (elim x as (λ y. (l : Last ((Found K V LK LV κs.0 S T LS LT p h b w).exit no) y) → ent 𝓤
          (sem 𝓛 ftrue) (H.⇛ (sem 𝓛 (left ((Found K V LK LV κs.0 S T LS LT p h b w).exit no) y l)))) [
            | found.Occupied o ↦ λ l. quiet
            | found.Vacant v ↦ λ l. quiet
          ]) f),
      (Goes-dropped 𝓛 5 key no (λ κs x f. refl), (Goes-dropped 𝓛 5 value no (λ κs x f. refl), tt)),
    )
    (λ κs a. (rest ((Found K V LK LV κs.0 S T LS LT p h b w).exit no) a.0, (tt, (tt, tt))))
    (λ κs a. (tt, (tt, (tt, tt))))
    (λ κs a vss. qed 𝓛 [] ∵ nothing ! $ nothing ! $ fjoin ! $ nothing ! $ fjoin ! $ nothing ! $ fjoin ! $
    done !)
    _ _ _ _
    (entered.met 𝓤 𝓛 𝓜 𝓡 (code.calls-hashlink_map::raw_entry::RawEntryMut::or_insert_entry 𝓡.env wired)
    K V S T LK LV LS LT e de p dp h dh b db w dw dd dk dv me mp mh mb mw md mk mv)
    (lent.met 𝓤 𝓛 𝓜 𝓡
    (code.calls-hashlink_map::raw_entry::occupied::RawOccupiedEntryMut+K+V+S::pair_of 𝓡.env wired)
    K V S T LK LV LS LT e de p dp h dh b db w dw dd me mp mh mb mw md)
    (code.unfolded 𝓤 H 𝓜 𝓡 wired (K, (V, (S, (T, tt)))) de dp dh db dw dd dk dv) (λ κs a vss are.
    let self_at = value_of 𝓛 (Found K V LK LV κs.0 S T LS LT p h b w)
    (found_laws K V LK LV κs.0 S T LS LT p h b w) a.0 vss.0 are.0 in
    let key_at = value_of 𝓛 (param 0 K) (param_laws 0 K LK) a.1.0 vss.1.0 are.1.0 in
    let value_at = value_of 𝓛 (param 1 V) (param_laws 1 V LV) a.1.1.0 vss.1.1.0 are.1.1.0 in (
      (self_at.0 ∷ [], (key_at.0 ∷ [], (value_at.0 ∷ [], tt))),
      (λ i. (self_at.1 i, (key_at.1 i, (value_at.1 i, tt)))),
      λ A Q Post first second.
          qed 𝓛 (raw A ∷ []) ∵ enter ! _ _ _ _ _ $ alloc_all !
          (λ l. pass_all ! refl (self_at.2, (key_at.2, (value_at.2, tt))) $
          sets ! (of_opd ! (get ! refl)) refl self_at.2 $ sets ! (of_opd ! (get ! refl)) refl key_at.2 $
          sets ! (of_opd ! (get ! refl)) refl value_at.2 $
          calls_from ! (framed 𝓤 H 𝓜 𝓣) (raw A) _ _ first
          (and_then ! (get ! refl) (and_then ! (get ! refl) (and_then ! (get ! refl) (no_more !)))) (λ v.
          returned ! tt (Entered K V LK LV κs.0 S T LS LT p h b w) Q v (λ is_in. lands_as ! refl refl is_in $
          calls_from ! (framed 𝓤 H 𝓜 𝓣) (raw (Q v)) _ _ (second v) (and_then ! (get ! refl) (no_more !))
          (λ v₂.
          returned ! tt (Answer K V LK LV κs.0) Post v₂ (λ is_out. lands_as ! refl refl is_out $
          returns ! (look_at ! 0 refl) $ free_all ! refl $ done !))))),
    ))
