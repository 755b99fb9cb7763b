use Rattle.heap_cuts.proofs.Listed.{at_shapes, held_shapes, length_shapes, new_shapes, put_shapes, taken_shapes}
use Rattle.heap_cuts.proofs.laws.places.Goals as goal

pub returns-clause-at : goal.returns-clause-at
returns-clause-at c h ok n = at_shapes h ok n

pub returns-clause-length : goal.returns-clause-length
returns-clause-length c h = length_shapes h

pub returns-clause-made : goal.returns-clause-made
returns-clause-made c h b = new_shapes h b

pub returns-clause-put : goal.returns-clause-put
returns-clause-put c h k b = put_shapes h k b

pub returns-clause-taken : goal.returns-clause-taken
returns-clause-taken c h k = taken_shapes h k

pub returns-clause-held : goal.returns-clause-held
returns-clause-held c h k b is = held_shapes h k b is
