-- Where nothing was written, something stands as it stood.
use Rattle.std.proofs.Common.{◌≡◌, ℕ, List, refl, sym, subst}
use Rattle.std.specs.Prelude.{Some, None}
use Rattle.inf_ports.specs.Outside.{Told, AnythingStands}

unchanged : (told : Told) (path : List ℕ) → AnythingStands told told path
unchanged None path = (None, refl)
unchanged (Some files) path = (files path, (files, refl, refl, λ other ne. refl))

pub untouched : (old new : Told) (path : List ℕ) → new ≡ old → AnythingStands old new path
untouched old new path same = subst (λ (z : Told). AnythingStands old z path) (sym same) (unchanged old path)
