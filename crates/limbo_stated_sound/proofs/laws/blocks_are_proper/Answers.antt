use Rattle.limbo_tree.specs.Stmts.{spell_block}
use Rattle.limbo_stated_sound.proofs.Spelled.{good_tokens, block}
use Rattle.limbo_stated_sound.proofs.laws.blocks_are_proper.Goals as goal

pub returns : goal.returns
returns c = λ b behind h l. (block b behind (good_tokens (spell_block b behind) h l)).0
