-- What references name, parts of values, and references to values (Limbo Language Reference, expressions).
use Rattle.std.specs.Prelude.{ℕ, ◌≡◌, List, Some}
use Rattle.limbo_types.specs.Types.{Ty, Tuple, Adt, RefAdt, RefPick}
use Rattle.limbo_layout.specs.Adts.{Def}
use Rattle.limbo_typed.specs.declared.operation.Operation.TheVariants as op
use Rattle.limbo_typed.specs.Typed.{Expr, Of, Node, Read, Part, Apply, Exprs, Place, At, Field, Target}
use Rattle.limbo_typed.specs.Fitting.{IsRefOf}
use Rattle.limbo_typed.specs.Sound.{type_of, IsSettled, AllSettled}
use Rattle.limbo_fields.specs.Fields.{Names}
use Rattle.limbo_places.specs.Places.{read, IsNoPlace, on_one}

-- `*reference`: the value of an adt that a `ref` of it, or of a variant of it, names.
pub data Dereferences : (reference : Expr) → Expr → Type 0 where
  target : (adt : ℕ) (reference : Expr) → IsRefOf adt (type_of reference) → Dereferences reference (read (Adt adt) (Target reference))

-- The values whose parts are named are tuples in which nothing is open, and those of adts.
abbrev pub HasParts : Ty → Type 0
HasParts (Tuple ts) = AllSettled ts
HasParts (Adt n) = Unit {0}
HasParts _ = ⊥

-- `base.name`, of a value in a place, of a value that is in none, and of what a `ref` names.
pub data Selects (defs : List Def) (name : List ℕ) : (base : Expr) → Expr → Type 0 where
  in_place : (of : Ty) (p : Place) (part : ℕ) (t : Ty) → HasParts of → Names defs name of part t → IsSettled t
      → Selects defs name (Of of (Read p)) (read t (Field p part))
  in_value : (of : Ty) (n : Node) (part : ℕ) (t : Ty) → HasParts of → IsNoPlace n → Names defs name of part t → IsSettled t
      → Selects defs name (Of of n) (Of t (Part (Of of n) part))
  in_target : (adt : ℕ) (reference : Expr) (part : ℕ) (t : Ty) → IsRefOf adt (type_of reference)
      → Names defs name (type_of reference) part t → IsSettled t
      → Selects defs name reference (read t (Field (At (Adt adt) (Target reference)) part))

-- The value is made as this variant of the adt, where it is written.
abbrev pub IsMadeAs : (adt variant : ℕ) → Node → Type 0
IsMadeAs adt variant n = (es : Exprs) × (n ≡ Apply (op.Adt adt (Some variant)) es)

-- `ref value`: a reference to the variant, where the value is made as one there, and else to the adt.
pub data Refers : (value : Expr) → Expr → Type 0 where
  variant : (adt v : ℕ) (n : Node) → IsMadeAs adt v n
      → Refers (Of (Adt adt) n) (Of (RefPick adt v) (on_one op.Ref (Of (Adt adt) n)))
  whole : (adt : ℕ) (n : Node) → ((v : ℕ) → IsMadeAs adt v n → ⊥)
      → Refers (Of (Adt adt) n) (Of (RefAdt adt) (on_one op.Ref (Of (Adt adt) n)))
