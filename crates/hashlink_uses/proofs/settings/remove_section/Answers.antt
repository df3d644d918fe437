use Rattle.std.specs.Option.{option_map}
use Rattle.hashlink.{specs.Texts.is_text, proofs.CallerLemmas.{lookup-map_values, remove_entry-map_values}}
use Rattle.hashlink_uses.{proofs.Common.{ap, entries_of, sym, ◌∙◌}, specs.Sections.settings_in}
use Rattle.hashlink_uses.proofs.settings.remove_section.Goals as goal

pub returns-clause-found : goal.returns-clause-found
returns-clause-found c =
    ap (option_map entries_of) c.remove.ensures.value
    ∙ sym (lookup-map_values entries_of (is_text c.args.name.now) (entries_of c.args.sections.now))

pub returns-clause-left : goal.returns-clause-left
returns-clause-left c =
    ap settings_in c.remove.ensures.entries
    ∙ remove_entry-map_values entries_of (is_text c.args.name.now) (entries_of c.args.sections.now)
