-- Why a source is refused, by its bytes, tokens and tree, by the texts that it includes, by its names, types and statements, and by the
-- typed module that it is; the number of each refusal, and where it stands.
use Rattle.std.specs.Prelude.{◌≡◌, ◌≤◌, ◌<◌, ℕ, List, length, true, false}
use Rattle.inf_ports.specs.Outside.{Told}
use Rattle.inf_text.specs.declared.span.Span.{Span}
use Rattle.limbo_lexer.specs.declared.token.Kind.{Kind}
use Rattle.limbo_lexer.specs.declared.fault.LexFault.{LexFault}
use Rattle.limbo_lexer.specs.declared.fault.LexFault.TheVariants as lex
use Rattle.limbo_lexer.specs.Causes.{IsRefused}
use Rattle.limbo_lexer.specs.Refusals as lexing
use Rattle.limbo_tree.specs.Sources.{Source, IsTree, source_nesting}
use Rattle.limbo_parser.specs.declared.tree.ParseFault.{ParseFault}
use Rattle.limbo_parser.specs.declared.tree.ParseFault.TheVariants as parse
use Rattle.limbo_parser.specs.Refusals as parsing
use Rattle.limbo_typed.specs.Typed.{Module}
use Rattle.typed_lower.specs.Sizes as sizes
use Rattle.limbo_compiler.specs.Limits as limits
use Rattle.source_files.specs.Files.{Gives}
use Rattle.source_files.specs.Texts.{IsUnlexed, IsUnparsed}
use Rattle.source_names.specs.Included.{AreTold, AreTexts, IsIncluded}
use Rattle.source_modules.specs.Checked.{IsOther}
use Rattle.source_modules.specs.Failing.{Fails}
use Rattle.inferno_top.specs.Built.{HasTokens, HasTree, IsModuleFor, is_in}
use Rattle.inferno_top.specs.declared.cause.Aim.{Aim}
use Rattle.inferno_top.specs.declared.cause.Aim.TheVariants.{Run, Write}
use Rattle.inferno_top.specs.declared.cause.SourceFault.{SourceFault}
use Rattle.inferno_top.specs.declared.cause.SourceFault.TheVariants.{Lex, Parse, Unchecked, Unbuilt, NoInit}
use Rattle.inferno_top.specs.declared.cause.SourceFault.TheVariants.{FrameTooLarge, CodeTooLarge}

-- the number of a refusal
abbrev pub number_of : SourceFault → ℕ
number_of (Lex fault) = lexing.number_of fault
number_of (Parse fault span) = parsing.number_of fault
number_of (Unchecked number span) = number
number_of Unbuilt = 25
number_of NoInit = 45
number_of FrameTooLarge = 70
number_of CodeTooLarge = 71

-- a line and a column
pub record Place : Type 0 where
  pub line : ℕ
  pub col : ℕ

abbrev pub start : Place
start = record { line = 1; col = 1 }

abbrev pub at : Span → Place
at span = record { line = span.line; col = span.col }

abbrev pub lex_place : LexFault → Place
lex_place (lex.BadChar span) = at span
lex_place (lex.BadEscape span) = at span
lex_place (lex.NumberTooWide span) = at span
lex_place (lex.Unclosed span) = at span
lex_place _ = start

-- where a refusal stands: at line 1, column 1 where it has no place of its own
abbrev pub place_of : SourceFault → Place
place_of (Lex fault) = lex_place fault
place_of (Parse fault span) = at span
place_of (Unchecked number span) = at span
place_of _ = start

-- the tokens have no tree that nests up to 256 deep
abbrev pub HasNoTree : List Kind → Type 0
HasNoTree tokens = (tree : Source) → IsTree false tokens tree → source_nesting tree ≤ 256 → ⊥

-- the tokens have no tree, whatever its nesting
abbrev pub HasNoTreeAtAll : List Kind → Type 0
HasNoTreeAtAll tokens = (tree : Source) → IsTree false tokens tree → ⊥

-- a refusal of the grammar, and not want of memory
abbrev pub IsParseFault : List Kind → ParseFault → Type 0
IsParseFault tokens parse.NoMemory = ⊥
IsParseFault tokens (parse.Syntax token) = HasNoTreeAtAll tokens
IsParseFault tokens (parse.TooDeep token) = (256 < token) × (token ≤ length tokens)

-- a refusal of bytes and tokens, and not want of memory
abbrev pub IsLexFault : LexFault → Type 0
IsLexFault lex.NoMemory = ⊥
IsLexFault _ = Unit {0}

-- the typed module doesn't declare `init` as a first module has to, and is to be run
abbrev pub IsBeginless : Aim → Told → List ℕ → Source → Type 0
IsBeginless Run told path tree = (x : Module) × IsOther told path tree x
IsBeginless Write told path tree = ⊥

-- What a refusal of a tree says that is a typed module: it's to be run, and doesn't declare `init` as a first module has to; or it's a
-- module for what it's compiled for, but is outside of the part that runs; or it's in it, but a frame or its variables are too large, or
-- its code is, and then no frame and no variables are.
abbrev pub IsTreeFault : Aim → Told → List ℕ → Source → SourceFault → Type 0
IsTreeFault aim told path tree NoInit = IsBeginless aim told path tree
IsTreeFault aim told path tree Unbuilt = (x : Module) × IsModuleFor aim told path tree x × (is_in aim x ≡ false)
IsTreeFault aim told path tree FrameTooLarge =
    (x : Module) × IsModuleFor aim told path tree x × (is_in aim x ≡ true) × sizes.FrameTooLarge x
IsTreeFault aim told path tree CodeTooLarge =
    (x : Module) × IsModuleFor aim told path tree x × (is_in aim x ≡ true) × limits.CodeTooLarge x × (sizes.FrameTooLarge x → ⊥)
IsTreeFault aim told path tree _ = ⊥

-- What a refusal of the source's own bytes says of them. One of bytes and tokens says that they have no tokens, and why. One of the
-- grammar says that their tokens have no tree within the limit of nesting; a fault of syntax, that they have none at all; a fault of
-- depth, that more than 256 of the tokens stand before its place.
abbrev pub IsBytesFault : List ℕ → SourceFault → Type 0
IsBytesFault source (Lex fault) = IsLexFault fault × IsRefused source fault × ((tokens : List Kind) → HasTokens source tokens → ⊥)
IsBytesFault source (Parse fault span) =
    ((tokens : List Kind) × HasTokens source tokens)
    × ((tokens : List Kind) → HasTokens source tokens → HasNoTree tokens × IsParseFault tokens fault)
IsBytesFault source _ = ⊥

-- The same of what stands at the path of an included text.
abbrev pub IsTextFault : Told → List ℕ → SourceFault → Type 0
IsTextFault told text (Lex fault) = (bytes : List ℕ) × Gives told text bytes × IsUnlexed bytes fault
IsTextFault told text (Parse fault span) = (bytes : List ℕ) × Gives told text bytes × IsUnparsed bytes fault
IsTextFault told text _ = ⊥

-- Why the bytes at a path are refused, and the file that is told: the bytes themselves are no source; an included text is none; a
-- condition of includes, names, types or statements isn't met, where all included texts are some; or the typed module that the tree is
-- isn't what it must be.
pub data IsFault (aim : Aim) (told : Told) (path source : List ℕ) : (file : List ℕ) → SourceFault → Type 0 where
  of_bytes : (fault : SourceFault) → IsBytesFault source fault → IsFault aim told path source path fault
  of_text : (tree : Source) (text : List ℕ) (fault : SourceFault) → HasTree source tree → IsIncluded told path tree.tops text
      → IsTextFault told text fault → IsFault aim told path source text fault
  of_checking : (tree : Source) (file : List ℕ) (number : ℕ) (span : Span) → HasTree source tree
      → (AreTold told → AreTexts told path tree.tops) → Fails told path tree number
      → IsFault aim told path source file (Unchecked number span)
  of_tree : (tree : Source) (fault : SourceFault) → HasTree source tree → IsTreeFault aim told path tree fault
      → IsFault aim told path source path fault
