-- Types whose values name adts.
use Rattle.std.proofs.Common.{◌≡◌, ℕ, List, Some, refl, subst}
use Rattle.limbo_types.specs.Types as ty
use Rattle.limbo_types.specs.Types.{Ty}
use Rattle.limbo_layout.specs.Adts.{Def}
use Rattle.limbo_typed.specs.declared.operation.Operation.TheVariants.{Ref as OfRef}
use Rattle.limbo_typed.specs.Fitting.{IsRefOf}
use Rattle.limbo_meaning.specs.Operations.{item_of}
use Rattle.limbo_meaning.specs.Trees.{Operate}
use Rattle.limbo_meaning.specs.Values.{Ref, fitted}
use Rattle.core_typing.specs.Going.{got_by}
use Rattle.value_words.specs.Forms as forms
use Rattle.value_words.specs.Forms.{Adts}
use Rattle.value_words.specs.Stands.{IsReference}
use Rattle.value_frames.specs.Frames.{AsReference, form_of}
use Rattle.value_frames.specs.Standing.{NamesOnly}
use Rattle.rows_lists.proofs.Lists.{one_name}

-- Values of a type name values of this adt.
pub record NamesAdt (defs : List Def) (t : Ty) (adt : ℕ) : Type 0 where
  pub item : item_of t ≡ ty.Adt adt
  pub reference : IsReference t
  pub asked : forms.form_of t ≡ Some (Adts adt)
  pub form : form_of t ≡ AsReference
  pub names : (n : ℕ) → NamesOnly (got_by defs t (Operate OfRef)) (Ref (Some n))
  pub fits : (n : ℕ) → fitted defs t (Ref (Some n)) ≡ Ref (Some n)

pub names_adt : (defs : List Def) (t : Ty) (adt : ℕ) → IsRefOf adt t → NamesAdt defs t adt
names_adt defs (ty.RefAdt n) adt e = subst (NamesAdt defs (ty.RefAdt n)) e (record {
  item = refl;
  reference = tt;
  asked = refl;
  form = refl;
  names = λ n j l h. one_name l (Some n) j h;
  fits = λ n. refl;
})
names_adt defs (ty.RefPick n v) adt e = subst (NamesAdt defs (ty.RefPick n v)) e (record {
  item = refl;
  reference = tt;
  asked = refl;
  form = refl;
  names = λ n j l h. one_name l (Some n) j h;
  fits = λ n. refl;
})
names_adt defs t adt e = absurd e
