use Rattle.std.{proofs.Common.{refl, ap, sym, ◌∙◌, None, Some}, specs.Option.option_copied_mut}
use Rattle.hashlink_core.specs.Keyed.{state_of}
use Rattle.hashlink_model.proofs.MovedLast.{moved_match_last}
use Rattle.hashlink_lru.proofs.Ends.{used}
use Rattle.hashlink_lru.proofs.cache.LruCache.get.Goals as goal

pub returns-in-Some : goal.returns-in-Some
returns-in-Some g c =
    let test = g.Q.Equivalent.matches c.args.key in
    let v = c.in-Some.value.now in
    let at = sym c.to_back.ensures.value ∙ ap option_copied_mut c.in-Some.is in (
      (
        refl,
        λ _. tt,
        used test _ _ (Some v)
            (record {
              map =
                  moved_match_last g.K.PartialEq.eq g.met.K.Eq.laws test
                  (g.met.Q.Equivalent.finds_equal c.args.key) (state_of c.args.self.now.map) _ v
                  c.to_back.ensures.distinct at (c.to_back.follows.holds v);
              cap = refl;
            }),
      ),
      record {
        used = tt;
        keeps = c.to_back.ensures.keeps;
        value = sym at;
        distinct = c.to_back.ensures.distinct;
      },
    )

pub returns-in-None : goal.returns-in-None
returns-in-None g c =
    let test = g.Q.Equivalent.matches c.args.key in
    let none = sym c.to_back.ensures.value ∙ ap option_copied_mut c.in-None.is in (
      (
        refl,
        λ _. tt,
        used test _ _ None
            (record {
              map = record { answer = sym none; step = c.to_back.follows.holds-at-none };
              cap = refl;
            }),
      ),
      record {
        used = tt;
        keeps = c.to_back.ensures.keeps;
        value = sym none;
        distinct = c.to_back.ensures.distinct;
      },
    )
