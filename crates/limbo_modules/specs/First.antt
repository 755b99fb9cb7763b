-- What a program's first module declares (Inferno's loader, and Draw).
use Rattle.std.specs.Prelude.{◌≡◌, ℕ, Bool, ◌&&◌, List, [], ◌∷◌, Option, Some, codes}
use Rattle.std.specs.List.{Contains}
use Rattle.limbo_types.specs.Types.{FnTy, Nothing, Chars, ListOf, RefAdt}
use Rattle.limbo_entries.specs.Entries.{Entry, IsEntry}
use Rattle.limbo_scope.specs.declared.meaning.Meaning.TheVariants as meaning
use Rattle.limbo_meanings.specs.Meanings.{meaning_of}
use Rattle.limbo_exports.specs.System.{is_same, is_module, is_adt, stands_in, IsFirst}
use Rattle.limbo_typed.specs.Typed.{Module, Declared}

-- The module that the built-in text of pictures declares: it is known by its text.
abbrev pub is_draw : Entry → Bool
is_draw e = is_module e.row.means && is_same e.row.path (codes "draw.m")

-- The adt `Context` of the module of this number.
abbrev pub is_draw_context : Option ℕ → Entry → Bool
is_draw_context draw e = is_adt e.row.means && stands_in draw e.within && is_same e.row.name (codes "Context")

-- Adt n is the built-in `Draw->Context`.
pub record IsDrawContext (es : List Entry) (m n : ℕ) : Type 0 where
  pub draw : ℕ
  pub first : IsFirst is_draw es draw
  pub number : ℕ
  pub context : IsFirst (is_draw_context (Some draw)) es number
  pub entry : Entry
  pub there : IsEntry es number entry
  pub means : meaning_of es m number entry ≡ Some (meaning.Adt n)

-- It takes a `ref` of adt n and a list of strings, and answers nothing.
abbrev pub first_init : ℕ → FnTy
first_init n = record { args = RefAdt n ∷ ListOf Chars ∷ []; answer = Nothing }

-- The module declares `init: fn(ctxt: ref Draw->Context, args: list of string)`.
pub record DeclaresInit (es : List Entry) (m : ℕ) (checked : Module) : Type 0 where
  pub adt : ℕ
  pub context : IsDrawContext es m adt
  pub declared : Declared
  pub there : Contains checked.declared declared
  pub named : declared.name ≡ codes "init"
  pub of : declared.of ≡ first_init adt
