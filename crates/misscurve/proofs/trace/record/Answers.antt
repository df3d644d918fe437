use Rattle.std.{proofs.Common.{◌≡◌, [], ◌∷◌, cond, ap, sym, ◌∙◌, rules}, specs.Prelude.nat_eq}
use Rattle.std.{specs.Cmp.Lexicographic.{pointwise, bytes_decides}, proofs.lemmas.Cmp.nat_list_eq_equiv}
use Rattle.std.proofs.lemmas.List.Folds.{Any-from_list_any}
use Rattle.misscurve.proofs.trace.record.Goals as goal

pub record_with-requires : goal.record_with-requires
record_with-requires g c none = (
  tt,
  λ key made.
      let line = c.args.line.now in
      let is : key.items ≡ line = search rules in
      ap (pointwise nat_eq line) is ∙ nat_list_eq_equiv.refl line,
)

pub returns-in_ok-record_with : goal.returns-in_ok-record_with
returns-in_ok-record_with g c used h =
    let line = c.args.line.now in
    let new = c.record_with.new.self in
    let some = Any-from_list_any (λ key. pointwise nat_eq line key.items) new.keys
    c.in_ok-record_with.ensures.there in
    let k = some.1 in
    let same = (bytes_decides line k.items).0 some.4 in (
      k ∷ [],
      ap (λ bytes. bytes ∷ []) (sym same)
          ∙ ap (λ b. cond b (line ∷ []) []) c.if-is_picked.ensures,
      (c.in_ok-record_with.ensures.counted used k some.4 h).0,
    )
