use Rattle.hashlink_run.proofs.Names.{ap, sym, ◌∙◌, option_map}
use Rattle.hashlink_run.proofs.weighted_steps.answer_weighted.Goals as goal

pub said_of_value-requires : goal.said_of_value-requires
said_of_value-requires g c = record {
  says = λ pair read.
      (rw c.in-Get.is at c.requires) pair
      (ap (option_map (λ v. (c.in-Get.key, v))) (sym c.get.ensures.value) ∙ read);
}

pub said_of_value-requires-in-Peek : goal.said_of_value-requires-in-Peek
said_of_value-requires-in-Peek g c = record {
  says = λ pair read.
      (rw c.in-Peek.is at c.requires) pair
      (ap (option_map (λ v. (c.in-Peek.key, v))) (sym c.peek.ensures) ∙ read);
}
