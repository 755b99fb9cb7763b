-- What holds of the context that a source gives, by the table of its declarations.
use Rattle.std.specs.Prelude.{◌≡◌, ◌<◌, ℕ, List, Some, length}
use Rattle.limbo_declarations.specs.Rows.{Row}
use Rattle.limbo_entries.specs.Entries.{Entry, IsTable, AreOnce}
use Rattle.limbo_typed.specs.Typed.{Function, Module}
use Rattle.limbo_typed.specs.declared.module.Initial.{Initial}
use Rattle.limbo_typed.specs.Fitting.{IsConstant}
use Rattle.limbo_typed.specs.Sound.{Each, SoundInitial, SoundDeclaration, IsSound}
use Rattle.limbo_scope.specs.Scopes.{Scope}
use Rattle.limbo_context.specs.Context.{Context}
use Rattle.limbo_stated_sound.specs.limbo_stating.Functions.{Definition, AreFunctions}
use Rattle.limbo_stated_sound.specs.limbo_typed_sound.Describing.{IsThrough}
use Rattle.limbo_source_context.specs.SourceContext.{IsContext, AreOutermost}
use Rattle.limbo_source_context.specs.Beginning.{AreBeginnings, AllBeginSo}
use Rattle.limbo_stated_sound.specs.Named.{IsNamedThroughout, IsMadeOf, OwnerIn, IsReady}
use Rattle.limbo_stated_sound.specs.Proper.{IsProperBlock}
use Rattle.limbo_stated_sound.specs.Standing.{IsOutside}

-- What the lists of the context speak of is named in it.
abbrev pub ListsAreNamed : Type 0
ListsAreNamed =
    (top : List Row) (es : List Entry) (m : ℕ) (module_name : List ℕ) (c : Context) → IsTable top es → IsContext es m module_name c
    → IsNamedThroughout c

-- The adts of methods are there.
abbrev pub OwnersAreThere : Type 0
OwnersAreThere =
    (top : List Row) (es : List Entry) (m : ℕ) (module_name : List ℕ) (c : Context) → IsTable top es → IsContext es m module_name c
    → Each (λ f. OwnerIn c f.owner) c.functions

-- The adt of file descriptors, and the built-in module, are there.
abbrev pub FdIsThere : Type 0
FdIsThere =
    (top : List Row) (es : List Entry) (m n : ℕ) (module_name : List ℕ) (c : Context) → IsTable top es → IsContext es m module_name c
    → c.fd ≡ Some n → n < length c.adts

abbrev pub SystemIsThere : Type 0
SystemIsThere =
    (es : List Entry) (m n : ℕ) (module_name : List ℕ) (c : Context) → IsContext es m module_name c → c.system ≡ Some n
    → n < length c.interfaces

-- Around the functions names of imports and of exceptions are known, and no name is imported through a variable of a function.
abbrev pub NamesAreKnown : Type 0
NamesAreKnown =
    (es : List Entry) (m : ℕ) (module_name : List ℕ) (c : Context) (scopes : List Scope) → IsContext es m module_name c
    → AreOutermost es m scopes → IsOutside c scopes

-- What is imported through a variable of the module is a member of the module type that the variable has.
abbrev pub ImportsComeThrough : Type 0
ImportsComeThrough =
    (es : List Entry) (m : ℕ) (module_name : List ℕ) (c : Context) → AreOnce es → IsContext es m module_name c
    → Each (IsThrough c.globals) c.imports

-- Constants are of their types: numbers are in their ranges.
abbrev pub ConstantsHaveTypes : Type 0
ConstantsHaveTypes =
    (es : List Entry) (m : ℕ) (module_name : List ℕ) (c : Context) → IsContext es m module_name c
    → Each (λ v. IsConstant v.ty v.value) c.constants

-- With these constants variables of the module begin, and each is of its variable's type.
abbrev pub InitialsAreSound : Type 0
InitialsAreSound =
    (es : List Entry) (m : ℕ) (module_name : List ℕ) (c : Context) (initials : List Initial) (checked : Module) → AreOnce es
    → IsContext es m module_name c → AllBeginSo es m c.globals → AreBeginnings es m initials → checked.globals ≡ c.globals
    → Each (SoundInitial checked) initials

-- ---- the whole

-- The context of a source is ready for its functions, where each scope declares a name once.
abbrev pub ContextsAreReady : Type 0
ContextsAreReady =
    (top : List Row) (es : List Entry) (m : ℕ) (module_name : List ℕ) (c : Context) (scopes : List Scope) → IsTable top es → AreOnce es
    → IsContext es m module_name c → AreOutermost es m scopes → IsReady scopes c

-- A module that is made of all functions of a source, and of the constants with which its variables begin, is sound, where its
-- declarations are those of its functions.
abbrev pub SourcesAreSound : Type 0
SourcesAreSound =
    (top : List Row) (es : List Entry) (m : ℕ) (module_name : List ℕ) (c e : Context) (scopes : List Scope) (ds : List Definition)
    (gs : List Function) (checked : Module) → IsTable top es → AreOnce es → IsContext es m module_name c → AreOutermost es m scopes
    → AllBeginSo es m c.globals → AreBeginnings es m checked.initials → Each (λ d. IsProperBlock d.block) ds
    → AreFunctions module_name scopes c.functions ds c gs e → IsMadeOf checked e gs → Each (SoundDeclaration checked) checked.declared
    → IsSound checked
