-- What a source's bytes are: their tokens, their tree, the typed module that it is with the texts that it includes, and whether that is a
-- program of the part of the language that runs.
use Rattle.std.specs.Prelude.{◌≡◌, ◌≤◌, ℕ, List, Bool, true, false}
use Rattle.inf_ports.specs.Outside.{Told}
use Rattle.limbo_lexer.specs.declared.token.Kind.{Kind}
use Rattle.limbo_lexer.specs.Causes.{IsSource}
use Rattle.limbo_lexer.specs.Tokens.{HasTokenList}
use Rattle.limbo_tree.specs.Sources.{Source, IsTree, source_nesting}
use Rattle.limbo_typed.specs.Typed.{Module}
use Rattle.link_sign.specs.declared.found.Clash.{Clash}
use Rattle.declared_signs.specs.Declared.{AreToldApart, HasClash}
use Rattle.limbo_entries.specs.Entries.{Entry}
use Rattle.typed_part.specs.Part.{is_part, runs}
use Rattle.limbo_compiler.specs.Limits.{IsWithin}
use Rattle.source_modules.specs.Checked.{IsChecked, IsFirst}
use Rattle.inferno_top.specs.declared.cause.Aim.{Aim}
use Rattle.inferno_top.specs.declared.cause.Aim.TheVariants.{Run, Write}

-- the bytes spell a text, and these are its tokens
pub record HasTokens (source : List ℕ) (tokens : List Kind) : Type 0 where
  pub text : List ℕ
  pub spelled : IsSource source text
  pub cut : HasTokenList text tokens

-- the tokens of the bytes have this tree, which nests at most 256 deep
pub record HasTree (source : List ℕ) (tree : Source) : Type 0 where
  pub tokens : List Kind
  pub lexed : HasTokens source tokens
  pub parsed : IsTree false tokens tree
  pub shallow : source_nesting tree ≤ 256

-- The tree of the source at this path is this typed module, with the texts that it includes: names and types hold of it.
pub record IsSomeModule (told : Told) (path : List ℕ) (tree : Source) (checked : Module) : Type 0 where
  pub entries : List Entry
  pub implemented : ℕ
  pub is : IsChecked told path tree entries implemented checked

-- The same, as it has to be for what it's compiled for: to be run, it declares `init` as a first module has to.
abbrev pub IsModuleFor : Aim → Told → List ℕ → Source → Module → Type 0
IsModuleFor Run = IsFirst
IsModuleFor Write = IsSomeModule

-- whether a typed module is in the part of the language that the compiler takes, and has a function with which it begins, to be run
abbrev pub is_in : Aim → Module → Bool
is_in Run m = runs m
is_in Write m = is_part m

-- The bytes at this path are a checked source: they have tokens and a tree, and names and types hold of it and of the texts that it
-- includes, as the files tell them. It is this typed module, which is one for what it's compiled for. How large its frames and its code are
-- isn't asked.
pub record IsSourceFor (aim : Aim) (told : Told) (path source : List ℕ) (checked : Module) : Type 0 where
  pub tree : Source
  pub has : HasTree source tree
  pub sort : IsModuleFor aim told path tree checked

-- The typed module has an object: it is in the part of the language for that, and no frame, nor its variables, nor its code is too large.
pub record HasObject (aim : Aim) (m : Module) : Type 0 where
  pub part : is_in aim m ≡ true
  pub within : IsWithin m

-- The bytes that stand at this path are a source of this typed module, which has an object.
pub record IsCompilable (aim : Aim) (told : Told) (path source : List ℕ) (m : Module) : Type 0 where
  pub is : IsSourceFor aim told path source m
  pub has : HasObject aim m

-- They are a program: signatures tell the functions that the module declares apart.
pub record IsBuilt (aim : Aim) (told : Told) (path source : List ℕ) (m : Module) : Type 0 where
  pub compilable : IsCompilable aim told path source m
  pub apart : AreToldApart m

-- They are none, by this clash of its functions alone.
pub record IsClashing (aim : Aim) (told : Told) (path source : List ℕ) (m : Module) (c : Clash) : Type 0 where
  pub compilable : IsCompilable aim told path source m
  pub clash : HasClash m c
