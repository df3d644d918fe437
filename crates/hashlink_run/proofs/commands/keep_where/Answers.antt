use Rattle.hashlink_run.proofs.{Names.{rules, ◌∙◌, ClosureSays}, Kept.{retained-asked, callable_on_each}}
use Rattle.hashlink_run.proofs.commands.keep_where.Goals as goal

pub retain-requires : goal.retain-requires
retain-requires g c = record {
  callable = callable_on_each _ (ClosureSays g.G.Fn c.args.keep.now) _ (λ k v b w h call. search rules) _ _
      (λ pair is key value first second. λ p q first' second'.
      c.requires.keep pair (record { stands = is }) p q (first' ∙ first) (second' ∙ second));
}

pub returns : goal.returns
returns g c = retained-asked _ (ClosureSays g.G.Fn c.args.keep.now) _ (λ k v b w h call. search rules) _ _ _
    c.retain.ensures.retained.1
