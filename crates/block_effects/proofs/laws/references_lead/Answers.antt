use Rattle.block_effects.proofs.Referring as proved
use Rattle.block_effects.proofs.laws.references_lead.Goals as goal

pub returns : goal.returns
returns g c = proved.references_lead g.J.Blocks.defs g.J.Blocks.contents g.J.Blocks.are
