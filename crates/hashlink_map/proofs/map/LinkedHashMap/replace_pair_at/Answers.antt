use Rattle.hashlink_map.proofs.Names.{ap₂, sym, ◌∙◌, key_at, entries_of}
use Rattle.hashlink_map.proofs.AtNode.{stays_twice}
use Rattle.hashlink_core.proofs.Steps.{then_sets_key, key-set_value_at, pair_from_parts}
use Rattle.hashlink_core.proofs.Holding.{holds-equal}
use Rattle.hashlink_map.proofs.map.LinkedHashMap.replace_pair_at.Goals as goal

pub replace_key_at-old_key-requires-clause-equal : goal.replace_key_at-old_key-requires-clause-equal
replace_key_at-old_key-requires-clause-equal g c =
    let first = c.replace_value_at-old_value in
    holds-equal g.K.PartialEq.eq first.new.self c.args.node c.args.key
    (first.ensures.stays.keys c.args.key c.requires)

pub returns-clause-replaces : goal.returns-clause-replaces
returns-clause-replaces g c =
    let first = c.replace_value_at-old_value.ensures in
    let second = c.replace_key_at-old_key.ensures.replaces in
    let es = entries_of c.args.self.now in
    let key = ap₂ key_at first.replaces.step.entries first.stays.place
    ∙ key-set_value_at es _ _ c.args.value in
    record {
      answer = pair_from_parts es _ _ _ (sym key ∙ second.answer) first.replaces.answer;
      step = then_sets_key _ _ _ _ first.replaces.step _ _ c.args.key first.stays.place second.step;
    }

pub returns-clause-stays : goal.returns-clause-stays
returns-clause-stays g c =
    let first = c.replace_value_at-old_value.ensures.stays in
    rw first.place at (stays_twice _ _ _ c.args.node _ _ first c.replace_key_at-old_key.ensures.stays)
