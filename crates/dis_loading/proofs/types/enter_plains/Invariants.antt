use Rattle.std.proofs.Common.{◌≡◌, ℕ, ◌<◌, Some}
use Rattle.std.specs.Prelude.{slice_get}
use Rattle.dis_isa.specs.declared.inst.Inst.{Inst}
use Rattle.dis_loading.specs.Growing.{plain_asked, Extends, HasPlainType}
use Rattle.dis_loading.proofs.types.enter_plains.Given as goal

-- What stood there stands there, and what instructions so far ask for.
abbrev pub invariant-loop-inst : goal.invariant-loop-inst
invariant-loop-inst l =
    Extends l.fn.types.items l.types.items
    × ((k : ℕ) → k < l.inst-index → (i : Inst) (size : ℕ) → slice_get l.insts k ≡ Some i → plain_asked i ≡ Some size → HasPlainType l.types.items size)
