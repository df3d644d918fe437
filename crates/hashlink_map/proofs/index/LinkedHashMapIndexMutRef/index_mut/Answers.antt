use Rattle.hashlink_map.proofs.Names.{refl, subst, sym, HasKey, stored-value}
use Rattle.hashlink_map.proofs.Indexing.{found_there, written_there}
use Rattle.hashlink_map.proofs.index.LinkedHashMapIndexMutRef.index_mut.Goals as goal

pub unwrap-found-requires : goal.unwrap-found-requires
unwrap-found-requires g c =
    let eq = g.K.PartialEq.eq in let k = c.args.key.now in
    found_there eq c.self.inside.list k c.find.result c.find.ensures.found
    (subst (λ l. HasKey eq l k) (sym c.self.view_is) c.requires)

pub returns : goal.returns
returns g c =
    let eq = g.K.PartialEq.eq in let k = c.args.key.now in
    let m = c.self.inside.list in let n = c.unwrap-found.result.node in
    let found = rw c.unwrap-found.ensures at c.find.ensures.found in
    rw (← c.self.view_is) (
      (refl, written_there eq m k n found),
      record {
        lends = tt;
        value = stored-value (eq k) m m n found c.value_mut.result.now c.value_mut.ensures.value;
      },
    )
