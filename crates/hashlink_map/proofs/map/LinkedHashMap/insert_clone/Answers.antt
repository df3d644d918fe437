use Rattle.hashlink_map.proofs.map.LinkedHashMap.insert_clone.Goals as goal

pub returns-in-Ok : goal.returns-in-Ok
returns-in-Ok g c = (
  (c.in_ok-clone.field-0, c.in_ok-clone-2.field-0),
  c.in-Ok.field-0,
  c.in_ok-clone.ensures.cases,
  c.in_ok-clone-2.ensures.cases,
  c.in-Ok.ensures.inserts,
)
