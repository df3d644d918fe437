-- A key that moved last, after its own value was written through it.
use Rattle.hashlink_model.proofs.Names.{◌≡◌, ℕ, Bool, Some, length, IsEquivalence, lookup, ap, refl, sym}
use Rattle.hashlink_model.proofs.Names.{subst, ◌∙◌, NonePasses, arith, le_refl, IsEntries, IsKeyTest, moved}
use Rattle.hashlink_model.proofs.Names.{MapState, Changes, Moves, MovesMatch, set_value_same}
use Rattle.hashlink_model.specs.Steps.{MovesAndWrites, MovesMatchAndWrites, with_match_value}
use Rattle.hashlink_model.proofs.Afterwards.{lookup-moved, moved_match-none}
use Rattle.hashlink_model.proofs.Splits.{key_from_lookup, set_value-none}

-- it moved last, and nothing else changed
pub moved_last : {K V S : Type 0} (eq : K → K → Bool) → IsEquivalence eq
    → (old new : MapState K V S) (k : K) (w : V)
    → IsEntries eq old.entries → lookup (eq k) old.entries ≡ Some w
    → MovesAndWrites eq old new k (length old.entries) w → Moves eq old new k (length old.entries) (Some w)
moved_last eq laws old new k w d at s =
    let b = length old.entries in
    let stands : lookup (eq k) s.between.entries ≡ Some w
    = ap (lookup (eq k)) s.moves.entries ∙ lookup-moved eq laws k old.entries k b d ∙ at in
    let same : new ≡ s.between
    = s.writes ∙ ap (λ es. record s.between { entries = es })
    (set_value_same (eq k) s.between.entries w stands) in
    record {
      answer = sym at;
      step = subst (λ m. Changes old m (moved eq old.entries k b) 6) (sym same) s.moves;
    }

-- the same for a test of keys
pub moved_match_last : {K V S : Type 0} (eq : K → K → Bool) → IsEquivalence eq → (test : K → Bool)
    → IsKeyTest eq test → (old new : MapState K V S) (w : V)
    → IsEntries eq old.entries → lookup test old.entries ≡ Some w
    → MovesMatchAndWrites test old new (length old.entries) w
    → MovesMatch test old new (length old.entries) (Some w)
moved_match_last eq laws test tells old new w d at s =
    let b = length old.entries in
    let k = key_from_lookup test eq tells old.entries w at in
    subst
    (λ t. lookup t old.entries ≡ Some w → MovesMatchAndWrites t old new b w → MovesMatch t old new b (Some w))
    (sym k.1) (λ l m. moved_last eq laws old new k.0 w d l m) at s

-- ---- if no key passes, nothing is lent, and a write of any value changes nothing

module _ {K V S : Type 0} (test : K → Bool) (m : MapState K V S) (w : V)
    (none : NonePasses test m.entries) where
  pub writes_none : m ≡ with_match_value test m w
  writes_none = ap (λ es. record m { entries = es }) (sym (set_value-none test m.entries w none))

  pub moves_none : (b : ℕ) → MovesMatchAndWrites test m m b w
  moves_none b = record {
    between = m;
    moves = record {
      entries = sym (moved_match-none test m.entries b none);
      spare = refl;
      room = refl;
      link_writes = record { grows = le_refl m.link_writes; bound = omega arith };
      hasher = refl;
    };
    writes = writes_none;
  }
