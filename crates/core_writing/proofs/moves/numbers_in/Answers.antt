use Rattle.core_writing.proofs.moves.numbers_in.Goals as goal

pub returns : goal.returns
returns c = λ defs. rw c.new-numbers.ensures.items at (c.in_ok-add_numbers.ensures {u = tt} defs)
