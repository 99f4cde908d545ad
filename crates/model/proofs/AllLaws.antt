-- Every law of exchanges is proved.
-- Assumes nothing.
use Rattle.model.specs.Laws.{Laws}
use Rattle.model.proofs.Laws.{reading_keeps_lem, others_fail_lem, failure_keeps_lem, frozen_outside_all, queue_frozen_outside_lem, txqen_outside_all, answers_27, others_answer_none_lem}

pub laws : Laws
laws = record {
  reading_keeps = reading_keeps_lem;
  others_fail = others_fail_lem;
  failure_keeps = failure_keeps_lem;
  frozen_outside = frozen_outside_all;
  queue_frozen_outside = queue_frozen_outside_lem;
  txqen_outside = txqen_outside_all;
  answers27 = answers_27;
  others_answer_none = others_answer_none_lem;
}
