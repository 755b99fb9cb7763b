-- The constants with which the variables of a module begin (Limbo Language Reference, declarations).
use Rattle.std.specs.Prelude.{◌≡◌, ◌<◌, ℕ, List, [], ◌∷◌, Option, None, Some, slice_get}
use Rattle.std.specs.List.{Contains}
use Rattle.limbo_tree.specs.Exprs as tree
use Rattle.limbo_tree.specs.Exprs.{Expr}
use Rattle.limbo_types.specs.Types.{Ty}
use Rattle.limbo_constants.specs.declared.constant.Constant as source
use Rattle.limbo_typed.specs.declared.module.Initial.{Initial}
use Rattle.limbo_entries.specs.Entries.{Entry, IsEntry}
use Rattle.limbo_typed.specs.Typed.{Var}
use Rattle.limbo_typed.specs.Fitting.{HasNil}
use Rattle.limbo_constant_values.specs.Values.{Comes, initial_value}
use Rattle.limbo_constant_values.specs.Initials.{HasInitial}
use Rattle.limbo_scope.specs.declared.meaning.Meaning.{Meaning}
use Rattle.limbo_scope.specs.declared.meaning.Meaning.TheVariants as meaning
use Rattle.limbo_meanings.specs.Meanings.{meaning_of}
use Rattle.limbo_outline.specs.Outline.{value_of_constant, type_of_constant, HasType}

-- The declaration of number k is a variable of the module, and its initial value comes to a constant: with that the variable begins.
pub record Begins (es : List Entry) (m : ℕ) (k : ℕ) (i : Initial) : Type 0 where
  pub entry : Entry
  pub there : IsEntry es k entry
  pub is : meaning_of es m k entry ≡ Some (meaning.Global i.global)
  pub constant : source.Constant
  pub initial : HasInitial es m k constant
  pub value : i.value ≡ value_of_constant constant

-- The numbers of their variables rise: each is less than all behind it.
abbrev pub Rises : List Initial → Type 0
Rises [] = Unit {0}
Rises (i ∷ initials) = ((j : Initial) → Contains initials j → i.global < j.global) × Rises initials

-- With these constants the variables of a module begin, and all others with zero or `nil`. They stand in the order of their variables.
pub record AreBeginnings (es : List Entry) (m : ℕ) (initials : List Initial) : Type 0 where
  pub only : (i : Initial) → Contains initials i → (k : ℕ) × Begins es m k i
  pub all : (k : ℕ) (i : Initial) → Begins es m k i → Contains initials i
  pub rises : Rises initials

-- ---- of which types

-- A variable of this type may begin as its declaration says: with nothing, with a constant of the very type, or with `nil` where values of
-- the type can be that.
pub data MayBegin (es : List Entry) (m : ℕ) (e : Entry) (t : Ty) : Type 0 where
  with_nothing : initial_value e.row.means ≡ None → MayBegin es m e t
  with_constant : (expr : Expr) (c : source.Constant) → initial_value e.row.means ≡ Some expr → Comes es m e.within None expr c
      → type_of_constant c ≡ t → MayBegin es m e t
  with_nil : initial_value e.row.means ≡ Some tree.Nil → HasNil t → MayBegin es m e t

-- The declaration of this number begins a variable of its type so, if it is one of the module.
abbrev pub BeginsSo : List Entry → (m : ℕ) → List Var → (k : ℕ) → Type 0
BeginsSo es m globals k =
    (n : ℕ) (e : Entry) (v : Var) → IsEntry es k e → meaning_of es m k e ≡ Some (meaning.Global n) → slice_get globals n ≡ Some v
    → MayBegin es m e v.ty

-- Each variable of the module does.
abbrev pub AllBeginSo : List Entry → (m : ℕ) → List Var → Type 0
AllBeginSo es m globals = (k : ℕ) → BeginsSo es m globals k

-- The declaration of this number is a variable of the module, and doesn't.
pub record BeginsOtherwise (es : List Entry) (m : ℕ) (k : ℕ) : Type 0 where
  pub entry : Entry
  pub there : IsEntry es k entry
  pub number : ℕ
  pub is : meaning_of es m k entry ≡ Some (meaning.Global number)
  pub ty : Ty
  pub typed : HasType es m entry ty
  pub otherwise : MayBegin es m entry ty → ⊥

-- ---- the first declarations

-- The same of the first declarations, so many of them.
pub record AreBeginningsTo (es : List Entry) (m : ℕ) (n : ℕ) (initials : List Initial) : Type 0 where
  pub only : (i : Initial) → Contains initials i → (k : ℕ) × (k < n) × Begins es m k i
  pub all : (k : ℕ) (i : Initial) → k < n → Begins es m k i → Contains initials i
  pub rises : Rises initials

-- the variable of the module that is meant
abbrev pub global_in : Option Meaning → Option ℕ
global_in (Some (meaning.Global n)) = Some n
global_in _ = None
