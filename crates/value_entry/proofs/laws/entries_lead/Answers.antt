use Rattle.value_entry.proofs.Entry as proved
use Rattle.value_entry.proofs.laws.entries_lead.Goals as goal

pub returns : goal.returns
returns c = proved.entries_lead
