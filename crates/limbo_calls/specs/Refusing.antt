-- When parts are no call (Limbo Language Reference, expressions), and what is told then.
use Rattle.std.specs.Prelude.{ℕ, ◌≡◌, List, Option, None, Some}
use Rattle.limbo_types.specs.Types.{Ty, FnTy, Adt, RefAdt, Module}
use Rattle.limbo_layout.specs.Adts.{Def}
use Rattle.limbo_typed.specs.declared.print.Printed.{Printed}
use Rattle.limbo_typed.specs.declared.print.Piece.{Piece}
use Rattle.limbo_typed.specs.Typed.{Expr, Exprs, Optional}
use Rattle.limbo_typed.specs.Sound.{type_of}
use Rattle.limbo_refusals.specs.Refusals.{Refusal, Clash, ModuleValue, BadFormat, NoneIs}
use Rattle.limbo_arguments.specs.Failing.{FailsAt, FailsEach}
use Rattle.limbo_calls.specs.Calls.{Arguments, PassesNone, FieldsOf}
use Rattle.limbo_calls.specs.Prints.{Output, Print, Fprint, Sprint, PrintsTo, Formats}

-- Of a call through a module's value: what stands before `->` is no value of that module's type; an argument doesn't stand for its
-- parameter's type, or there aren't as many; a value of a module's type would be passed.
pub data RefusesThrough (system : Option ℕ) (instance : Expr) (interface : ℕ) (of : FnTy) (args : Exprs) (r : Refusal) : Type 0 where
  no_module : (type_of instance ≡ Module interface → ⊥) → r ≡ Clash (type_of instance) (Module interface)
      → RefusesThrough system instance interface of args r
  unlike : type_of instance ≡ Module interface → FailsEach of.answer of.args args r → RefusesThrough system instance interface of args r
  passes : (values : Exprs) → type_of instance ≡ Module interface → Arguments of.args args values → (PassesNone system of.args → ⊥)
      → r ≡ ModuleValue → RefusesThrough system instance interface of args r

-- Of a value of an adt: there is no such adt, no such variant, or none where one is needed; a value doesn't stand for its field's type,
-- or there aren't as many.
pub data RefusesConstruct (defs : List Def) (adt : ℕ) (variant : Option ℕ) (args : Exprs) (r : Refusal) : Type 0 where
  no_value : NoneIs (FieldsOf defs adt variant) → r ≡ Clash (Adt adt) (Adt adt) → RefusesConstruct defs adt variant args r
  unlike_field : (ts : List Ty) → FieldsOf defs adt variant ts → FailsEach (Adt adt) ts args r → RefusesConstruct defs adt variant args r

-- Of a file: it is no `ref` of `FD`, or there is no `FD`.
abbrev pub FailsAsFile : Expr → (fd : Option ℕ) → Refusal → Type 0
FailsAsFile e None r = r ≡ Clash (type_of e) (type_of e)
FailsAsFile e (Some n) r = FailsAt (RefAdt n) e r

-- The same of what is printed to: `fprint` alone has a file.
abbrev pub FailsFile : Output → (fd : Option ℕ) → Refusal → Type 0
FailsFile Print fd r = ⊥
FailsFile (Fprint e) fd r = FailsAsFile e fd r
FailsFile Sprint fd r = ⊥

-- Of a print: its file is none; the text is no format, or the arguments don't fit it.
pub data RefusesPrint (fd : Option ℕ) (output : Output) (text : List ℕ) (args : Exprs) (r : Refusal) : Type 0 where
  no_file : FailsFile output fd r → RefusesPrint fd output text args r
  no_format : (which : Printed) (file : Optional) → PrintsTo output fd which file
      → ((ps : List Piece) (es : Exprs) → Formats text args ps es → ⊥) → r ≡ BadFormat → RefusesPrint fd output text args r
