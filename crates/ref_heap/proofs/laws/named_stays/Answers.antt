use Rattle.ref_heap.proofs.Steps.{kept_named, kept_within}
use Rattle.ref_heap.proofs.laws.named_stays.Goals as goal

pub returns-clause-outside : goal.returns-clause-outside
returns-clause-outside c limit outside before after f n h = kept_named limit outside before after f n h

pub returns-clause-within : goal.returns-clause-within
returns-clause-within c limit outside before after f n h = kept_within limit outside before after f n h
