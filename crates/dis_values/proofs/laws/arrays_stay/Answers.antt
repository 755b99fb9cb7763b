use Rattle.dis_values.proofs.Stays.{array_stays, elements_stay, plain_stays}
use Rattle.dis_values.proofs.Marked.{marked_stays}
use Rattle.dis_values.proofs.laws.arrays_stay.Goals as goal

pub returns-clause-array : goal.returns-clause-array
returns-clause-array c old new s p a = array_stays old new s p a

pub returns-clause-elements : goal.returns-clause-elements
returns-clause-elements c old new s p a = elements_stay old new s p a

pub returns-clause-plain : goal.returns-clause-plain
returns-clause-plain c old new s size p a = plain_stays old new s size p a

pub returns-clause-marked : goal.returns-clause-marked
returns-clause-marked c old new s size marks p a = marked_stays old new s size marks p a
