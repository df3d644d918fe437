use Rattle.hashlink_table.proofs.Names.{[], All-nil, ap, IsStored, List, Record, marks_in, ◌≡◌, length}
use Rattle.hashlink_table.proofs.store.slots.Slots.new.Goals as goal

pub invariant_of-result : goal.invariant_of-result
invariant_of-result g c = record {
  tagged = record {
    rows = [];
    marks = ap (λ (bs : List Record). marks_in bs) c.new.ensures.items;
    nodes = c.new-2.ensures.items;
    rests = c.new-3.ensures.items;
    stored = All-nil IsStored;
  };
  even = rw c.new.ensures.items (All-nil (λ (b : Record). length b.marks ≡ 16));
}
