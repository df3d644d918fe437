use Rattle.hashlink_run.proofs.Names.{◌≡◌, Bool, ap, refl, subst, sym, ◌∙◌, lookup_entry, entries_of}
use Rattle.hashlink_run.proofs.{Names.{CacheCommand, CacheState}, Moved.by_key}
use Rattle.hashlink_run.specs.CacheStep.{CommandReads, ReadFromCache}
use Rattle.hashlink_lru.specs.Cached.{state_of}
use Rattle.hashlink_run.proofs.cache_steps.answer_cache.Goals as goal

-- the pair that an arm's command reads is the pair that the given command reads
reads_of : {K V S : Type 0} (eq : K → K → Bool) (old : CacheState K V S) (pair : K × V)
    (given of_arm : CacheCommand K V) → given ≡ of_arm → CommandReads eq old of_arm pair
    → ReadFromCache eq old given pair
reads_of eq old pair given of_arm is read =
    record { reads = subst (λ command. CommandReads eq old command pair) (sym is) read }

pub answer_use-requires : goal.answer_use-requires
answer_use-requires g c =
    record { says = λ pair read. c.requires.says pair (reads_of _ _ pair _ _ c.in-Use.is read) }

pub reply_of_entry-requires : goal.reply_of_entry-requires
reply_of_entry-requires g c = record {
  says = λ pair read.
      let from = rw c.map_mut.ensures.unchanged at read in
      let evicts = c.make_room.ensures.evicts in
      c.requires.says pair
      (reads_of _ _ pair _ _ c.in-Entry.is ((state_of c.make_room.new.self).map, evicts.map, from));
}

pub reply_of_entry-requires-in-Get : goal.reply_of_entry-requires-in-Get
reply_of_entry-requires-in-Get g c = record {
  says = λ pair read.
      let from = rw c.map_mut-in-Get.ensures.unchanged at read in
      c.requires.says pair (reads_of _ _ pair _ _ c.in-Get.is from);
}

pub said_of-requires : goal.said_of-requires
said_of-requires g c = record {
  says = λ pair read.
      let there =
      c.from_key.ensures ∙ ap (λ map. lookup_entry (g.K.PartialEq.eq c.in-Peek.key) (entries_of map))
      c.raw_entry.ensures in
      c.requires.says pair (reads_of _ _ pair _ _ c.in-Peek.is (sym there ∙ read));
}

pub returns-in-Entry : goal.returns-in-Entry
returns-in-Entry g c =
    let from = rw c.map_mut.ensures.unchanged at c.reply_of_entry.ensures in
    let evicts = c.make_room.ensures.evicts in
    rw c.in-Entry.is ((state_of c.make_room.new.self).map, evicts.map, from, evicts.cap)

pub returns-in-Get : goal.returns-in-Get
returns-in-Get g c =
    let step = rw c.map_mut-in-Get.ensures.unchanged at c.reply_of_entry-in-Get.ensures in
    let moved = by_key g.K.PartialEq.eq _ _ _ c.in-Get.key _ _ step in
    rw c.in-Get.is (record { map = moved.0; cap = refl }, moved.1)
