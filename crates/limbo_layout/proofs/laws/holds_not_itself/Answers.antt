use Rattle.std.proofs.Common.{inl, refl}
use Rattle.limbo_types.specs.Types.{Adt}
use Rattle.limbo_layout.proofs.Ways.{not_itself}
use Rattle.limbo_layout.proofs.laws.holds_not_itself.Goals as goal

pub returns : goal.returns
returns c = λ defs n r h w. not_itself defs (Adt n) r h n (inl refl) w
