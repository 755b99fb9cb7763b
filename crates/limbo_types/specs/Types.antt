-- The types of Limbo (Limbo Language Reference, types).
use Rattle.std.specs.Prelude.{ℕ, List}

-- Chars is `string`, Nothing what a function without an answer gives, Nil the type of a `nil` of which nothing says yet what it
-- stands for. Adts, their variants and modules are named by numbers.
mutual
  pub data Ty : Type 0 where
    Byte : Ty
    Int : Ty
    Big : Ty
    Chars : Ty
    Nothing : Ty
    Nil : Ty
    ArrayOf : Ty → Ty
    ListOf : Ty → Ty
    ChanOf : Ty → Ty
    Tuple : Tys → Ty
    Adt : ℕ → Ty
    RefAdt : ℕ → Ty
    RefPick : (adt variant : ℕ) → Ty
    Module : ℕ → Ty

  pub data Tys : Type 0 where
    NoTys : Tys
    MoreTys : Ty → Tys → Tys

-- The type of a function.
pub record FnTy : Type 0 where
  pub args : List Ty
  pub answer : Ty
