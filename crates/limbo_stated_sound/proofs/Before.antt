-- What describes or covers a longer context does so with one that it extends.
use Rattle.std.proofs.Common.{◌≡◌, ℕ, List, Some, sym, subst, ◌∙◌, arith}
use Rattle.std.specs.Prelude.{slice_get}
use Rattle.limbo_typed.specs.Typed.{Module, Var}
use Rattle.limbo_typed.specs.Fitting.{IsConstant}
use Rattle.limbo_typed.specs.Sound.{Each, IsSettled}
use Rattle.limbo_context.specs.Context.{Context, Callee}
use Rattle.limbo_typed_sound.specs.Describing.{Begins, Describes, IsThrough, HasFunctionOf}
use Rattle.limbo_stated_sound.specs.Growing.{Extends}
use Rattle.limbo_stated_sound.specs.Standing.{Covers}
use Rattle.limbo_stated_sound.proofs.Lists.{begins_on, as_long, each_before}

pub described_before : (m : Module) (c d : Context) → Extends c d → Describes m d → Describes m c
described_before m c d g h = record {
  adts = begins_on c.adts d.adts m.adts g.adts h.adts;
  modules = let a = as_long c.modules d.modules g.modules in let b = h.modules in omega arith;
  interfaces = begins_on c.interfaces d.interfaces m.interfaces g.interfaces h.interfaces;
  globals = subst (λ (vs : List Var). Begins vs m.globals) g.globals h.globals;
  functions =
      subst (λ (fs : List Callee). (n : ℕ) (f : Callee) → slice_get fs n ≡ Some f → HasFunctionOf m n f.of) g.functions h.functions;
  system = sym g.system ∙ h.system;
  fd = λ n e. h.fd n (g.fd ∙ e);
  constants = each_before (λ v. IsConstant v.ty v.value) c.constants d.constants g.constants h.constants;
  types = each_before IsSettled c.types d.types g.types h.types;
  imports =
      subst (λ (vs : List Var). Each (IsThrough vs) c.imports) g.globals
      (each_before (IsThrough d.globals) c.imports d.imports g.imports h.imports);
}

pub covered_before : (m : Module) (c d : Context) → Extends c d → Covers m d → Covers m c
covered_before m c d g h = record {
  adts = begins_on c.adts d.adts m.adts g.adts h.adts;
  modules = let a = as_long c.modules d.modules g.modules in let b = h.modules in omega arith;
  interfaces = begins_on c.interfaces d.interfaces m.interfaces g.interfaces h.interfaces;
  exceptions = begins_on c.exceptions d.exceptions m.exceptions g.exceptions h.exceptions;
}
