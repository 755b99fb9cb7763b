use Rattle.rows_places.proofs.CharacterWrites as proved
use Rattle.rows_places.proofs.laws.character_writes_go.Goals as goal

pub returns : goal.returns
returns c = proved.character_writes_go
