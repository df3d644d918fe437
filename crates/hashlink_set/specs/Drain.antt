-- What a contract sees of a drain.
use Rattle.std.specs.{Prelude.{◌≡◌, List, Option}, Borrow.MutBor, Map.Iter.{TakesFirst, TakesLast}}
use Rattle.hashlink_model.specs.{Sets.{SetState, elements_of}, Steps.{PopsFront, PopsBack}}
use Rattle.hashlink_core.specs.Drained.{state_with}
use Rattle.hashlink_map.specs.Bounds.{EqGhosts, HashGhosts, HasherGhosts, BuilderGhosts}
use Rattle.hashlink_map.specs.declared.drain.AsChain.{Ghosts as ChainGhosts}
use Rattle.hashlink_set.specs.{Answers.as_entry, declared.drain.Drain.Drain}

module _ {T S H : Type 0} {g : EqGhosts T} {h : HashGhosts T} {b : BuilderGhosts S H} {w : HasherGhosts H}
    {D : Type 0} {d : ChainGhosts D T (Unit {0})} where
  -- the set that it borrows, as if the elements left still belonged to it
  abbrev pub drained_set : Drain T S D H g h b w d → MutBor (SetState T S)
  drained_set i = record i.set { now = state_with i.set.now (d.pairs i.chain) }

  -- the elements left
  abbrev pub drain_rest : Drain T S D H g h b w d → List T
  drain_rest i = elements_of (drained_set i).now

  -- `next` removed the first element left, if any, from the set
  pub record DrainSteps (old : Drain T S D H g h b w d) (r : Option T)
      (new : Drain T S D H g h b w d) : Type 0 where
    pub takes : TakesFirst (λ t. t) (drain_rest old) r (drain_rest new)
    pub pops : PopsFront (drained_set old).now (drained_set new).now (as_entry r)
    pub same_set : (drained_set new).ghost_name ≡ (drained_set old).ghost_name

  -- `next_back` removed the last one
  pub record DrainStepsBack (old : Drain T S D H g h b w d) (r : Option T)
      (new : Drain T S D H g h b w d) : Type 0 where
    pub takes : TakesLast (λ t. t) (drain_rest old) r (drain_rest new)
    pub pops : PopsBack (drained_set old).now (drained_set new).now (as_entry r)
    pub same_set : (drained_set new).ghost_name ≡ (drained_set old).ghost_name
