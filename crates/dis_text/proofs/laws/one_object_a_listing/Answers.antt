use Rattle.dis_text.proofs.Listed.{same_object}
use Rattle.dis_text.proofs.Plain.{plain}
use Rattle.dis_text.proofs.laws.one_object_a_listing.Goals as goal

pub returns-clause-shown : goal.returns-clause-shown
returns-clause-shown c = same_object

pub returns-clause-valid : goal.returns-clause-valid
returns-clause-valid c = plain
