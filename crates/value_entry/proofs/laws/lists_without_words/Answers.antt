use Rattle.value_entry.proofs.Entry as proved
use Rattle.value_entry.proofs.laws.lists_without_words.Goals as goal

pub returns : goal.returns
returns c = proved.without_words
