-- No bytes are both read and refused.
use Rattle.std.proofs.Common.{◌≡◌, ℕ, List, Ok, Err}
use Rattle.dis_file.specs.declared.object.Object.{Object}
use Rattle.dis_format.specs.declared.fault.Refusal.{Refusal}
use Rattle.dis_format.specs.Reading.{object_at}

pub never : (o : Object) (r : Refusal) (bytes : List ℕ) → object_at bytes ≡ Ok o → object_at bytes ≡ Err r → ⊥
never o r bytes e f = cc
