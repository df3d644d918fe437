use Rattle.std.{proofs.Common.{refl, ap, sym, ◌∙◌, inl, inr}, specs.Option.option_map}
use Rattle.hashlink_lru.{specs.Cached.{FitsUnless, state_of}, proofs.Ends.on_some, proofs.Using.same_last}
use Rattle.hashlink_lru.proofs.cache.LruCache.lend_last.Goals as goal
use Rattle.hashlink_lru.proofs.cache.LruCache.lend_last.Goals.{then-len-before, else-len-before}

pub returns : goal.returns
returns g c =
    let old = state_of c.args.self.now in let mid = state_of c.if-len-before.self in
    let last = c.back_value_mut in
    let fits : FitsUnless c.args.before old mid =
    elim c.if-len-before.branch [
      | then-len-before w ↦ rw (w.self-is, ← w.max.ensures)
          (inr (λ same. w.if-len-before.true (c.len.ensures.len ∙ same), w.keep_last.ensures.keeps))
      | else-len-before w ↦ inl (sym c.len.ensures.len ∙ w.if-len-before.false, ap state_of w.self-is)
    ] in (
      (
        refl,
        λ w. on_some last.result (λ s. (mid, fits, ap (λ m. record { map = m; cap = mid.cap }) s))
            (last.follows.holds w),
        tt,
      ),
      record {
        lends = tt;
        value = last.ensures.value ∙ ap (option_map (λ e. e.1)) (same_last c.args.before old mid fits);
      },
    )
