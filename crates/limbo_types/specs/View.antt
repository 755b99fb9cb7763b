-- The types of the code, without how they lie in memory.
use Rattle.std.specs.Prelude.{List, [], ◌∷◌, map}
use Rattle.limbo_types.specs.declared.ty.Ty as code_ty
use Rattle.limbo_types.specs.declared.ty.Ty.{Ty-F, fold-Ty}
use Rattle.limbo_types.specs.declared.ty.FnTy as code_fn
use Rattle.limbo_types.specs.Types.{Ty, Tys, FnTy, Byte, Int, Big, Chars, Nothing, Nil, ArrayOf, ListOf, ChanOf, Tuple, Adt, RefAdt, RefPick, Module, NoTys, MoreTys}

abbrev pub tys_of : List Ty → Tys
tys_of [] = NoTys
tys_of (t ∷ ts) = MoreTys t (tys_of ts)

abbrev pub ty_step : Ty-F Ty → Ty
ty_step Ty-F.Byte = Byte
ty_step Ty-F.Int = Int
ty_step Ty-F.Big = Big
ty_step Ty-F.Chars = Chars
ty_step Ty-F.Nothing = Nothing
ty_step Ty-F.Nil = Nil
ty_step (Ty-F.Array t) = ArrayOf t.value
ty_step (Ty-F.List t) = ListOf t.value
ty_step (Ty-F.Chan t) = ChanOf t.value
ty_step (Ty-F.Tuple ts) = Tuple (tys_of ts.items)
ty_step (Ty-F.Adt n) = Adt n
ty_step (Ty-F.RefAdt n) = RefAdt n
ty_step (Ty-F.RefPick adt variant) = RefPick adt variant
ty_step (Ty-F.Module n) = Module n

-- a type of the code
unfoldable pub view_ty : code_ty.Ty → Ty
view_ty = fold-Ty Ty ty_step

-- types of the code in a row
abbrev pub view_tys : List code_ty.Ty → Tys
view_tys ts = tys_of (map view_ty ts)

-- the type of a function
abbrev pub view_fn : code_fn.FnTy → FnTy
view_fn f = record { args = map view_ty f.args.items; answer = view_ty f.answer }
