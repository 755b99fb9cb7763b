-- A reference of a slot's value goes, whether it stands in its slot or in a record.
use Rattle.std.proofs.Common.{◌≡◌, ◌⊎◌, ℕ, ◌<◌, List, refl, arith, inl, inr}
use Rattle.limbo_types.specs.Types as ty
use Rattle.limbo_types.specs.Types.{Ty}
use Rattle.limbo_layout.specs.Adts.{Def}
use Rattle.core_code.specs.Code.{Drop}
use Rattle.core_code.specs.Terms.{count_of}
use Rattle.value_frames.specs.Frames.{AsReference, Boxed, form_of}
use Rattle.value_follows.proofs.Standing.{finds, code_here}
use Rattle.rows_dropping.specs.Rows.{DropsGo}
use Rattle.rows_dropping.proofs.Dropping.{references_drop}
use Rattle.rows_dropping.proofs.Letting.{boxed_drop}

-- where a value has a reference
has_form : (defs : List Def) (t : Ty) (n : ℕ) → n < count_of defs t → (form_of t ≡ AsReference) ⊎ (form_of t ≡ Boxed)
has_form defs ty.Nothing n l = absurd (omega (arith, l))
has_form defs ty.Byte n l = absurd (omega (arith, l))
has_form defs ty.Int n l = absurd (omega (arith, l))
has_form defs ty.Big n l = inr refl
has_form defs (ty.Tuple ts) n l = inr refl
has_form defs (ty.Adt a) n l = inr refl
has_form defs ty.Chars n l = inl refl
has_form defs ty.Nil n l = inl refl
has_form defs (ty.ArrayOf t) n l = inl refl
has_form defs (ty.ListOf t) n l = inl refl
has_form defs (ty.ChanOf t) n l = inl refl
has_form defs (ty.RefAdt a) n l = inl refl
has_form defs (ty.RefPick a j) n l = inl refl
has_form defs (ty.Module a) n l = inl refl

pub drops_go : DropsGo
drops_go m b r n k i x p q ready here =
    let s = ready.0.stands in
    let found = finds m s.is.function p.frame.pc s.is.known (Drop r n) s.goes (code_here m k i x p q ready.0 (Drop r n) here) in
    elim (has_form m.adts found.0 n found.2) [
      | inl form ↦ references_drop m b r n k i x p q ready found.0 found.1 form here
      | inr form ↦ boxed_drop m b r n k i x p q ready found.0 found.1 form here
    ]
