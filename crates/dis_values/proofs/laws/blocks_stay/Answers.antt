use Rattle.dis_values.proofs.Stays.{stay_made, stay_held}
use Rattle.dis_values.proofs.laws.blocks_stay.Goals as goal

pub returns-clause-made : goal.returns-clause-made
returns-clause-made c h b ok = stay_made h b ok

pub returns-clause-held : goal.returns-clause-held
returns-clause-held c h k b is = stay_held h k b is
