use Rattle.std.specs.String.{string_eq}
use Rattle.hashlink.proofs.CallerLemmas.{IsEntries-map_values, put_in_place-map_values}
use Rattle.hashlink_uses.{proofs.Common.{ap, entries_of, ◌∙◌}, specs.Sections.settings_in}
use Rattle.hashlink_uses.proofs.settings.set_section.Goals as goal

pub returns-clause-set : goal.returns-clause-set
returns-clause-set c =
    ap settings_in c.in-Ok.ensures.entries
    ∙ put_in_place-map_values entries_of string_eq (entries_of c.args.sections.now) c.args.name
    c.args.settings

pub returns-clause-distinct : goal.returns-clause-distinct
returns-clause-distinct c = IsEntries-map_values entries_of string_eq _ c.in-Ok.ensures.distinct

pub returns-in_default-clause-unchanged : goal.returns-in_default-clause-unchanged
returns-in_default-clause-unchanged c = ap settings_in c.in_default.ensures.replaces.grows.entries

pub returns-in_default-clause-distinct : goal.returns-in_default-clause-distinct
returns-in_default-clause-distinct c =
    IsEntries-map_values entries_of string_eq _ c.in_default.ensures.distinct
