use Rattle.ref_heap.proofs.Steps.{freed_one}
use Rattle.ref_heap.proofs.laws.one_rest.Goals as goal

pub returns : goal.returns
returns c limit outside before a b f g n = freed_one limit outside before a b f g n
