use Rattle.std.proofs.Common.{◌≡◌, ℕ, ◌+◌, ◌<◌, Bool, true, false, List, length, get_or, drop, cond, Some}
use Rattle.std.{proofs.Common.{Bor, sym, ap, ◌∙◌}, specs.Map.lookup, specs.Str.bytes_eq}
use Rattle.std.proofs.lemmas.List.{at_drop_all, at_drop_more}
use Rattle.hashlink_text.specs.Cuts.{words_shown}
use Rattle.hashlink_text.proofs.tables.said_by.Goals as goal

-- the entry of this name in the table, from index i on
said_from : {X : Type 0} (name : List ℕ) (table : List (Bor (List ℕ) × X)) (i : ℕ) (entry : Bor (List ℕ) × X)
    (b : Bool) → entry ≡ get_or table i entry → i < length table → bytes_eq name entry.0.now ≡ b
    → lookup (bytes_eq name) (words_shown (drop i table))
    ≡ cond b (Some entry.1) (lookup (bytes_eq name) (words_shown (drop (i + 1) table)))
said_from name table i entry b is at same =
    let later = lookup (bytes_eq name) (words_shown (drop (i + 1) table)) in
    at_drop_more (λ es. lookup (bytes_eq name) (words_shown es)) table i entry at
    ∙ ap (λ e. cond (bytes_eq name e.0.now) (Some e.1) later) (sym is)
    ∙ ap (λ t. cond t (Some entry.1) later) same

pub loop-word-preserved : goal.loop-word-preserved
loop-word-preserved g c =
    sym (said_from _ _ _ _ false c.loop-word-item.is c.loop-word-test.true (sym c.eq.ensures ∙ c.if-eq.false))
    ∙ c.loop-word.invariant

pub returns-then-eq : goal.returns-then-eq
returns-then-eq g c =
    sym (said_from _ _ _ _ true c.loop-word-item.is c.loop-word-test.true (sym c.eq.ensures ∙ c.if-eq.true))
    ∙ c.loop-word.invariant

pub returns : goal.returns
returns g c =
    sym (at_drop_all (λ t. lookup (bytes_eq c.args.name.now) (words_shown t)) c.args.table.now
    c.loop-word.word-index c.loop-word-test.false)
    ∙ c.loop-word.invariant
