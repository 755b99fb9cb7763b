-- What reading a source answers, and why it is refused.
use Rattle.std.specs.Prelude.{ℕ, ◌≡◌, ◌⊎◌, Bool, not, List, Some, None, true, false, slice_get}
use Rattle.inf_ports.specs.Outside.{Told, Has, Lacks, Rose}
use Rattle.inf_text.specs.declared.span.Span.{Span}
use Rattle.limbo_lexer.specs.declared.token.Token.{Token}
use Rattle.limbo_lexer.specs.declared.fault.LexFault.{LexFault}
use Rattle.limbo_lexer.specs.declared.fault.LexFault.TheVariants as lex
use Rattle.limbo_parser.specs.declared.tree.ParseFault.{ParseFault}
use Rattle.limbo_parser.specs.declared.tree.ParseFault.TheVariants as parse
use Rattle.limbo_tree.specs.Sources.{Source}
use Rattle.limbo_typed.specs.Typed.{Module}
use Rattle.limbo_compiler.specs.declared.passes.CompileFault.{CompileFault}
use Rattle.limbo_compiler.specs.declared.passes.CompileFault.TheVariants as compile
use Rattle.source_files.specs.declared.fault.FilesFault.{FilesFault}
use Rattle.source_files.specs.declared.fault.FilesFault.TheVariants as files
use Rattle.source_names.specs.Included.{IsIncluded}
use Rattle.source_modules.specs.declared.fault.ModuleFault.{ModuleFault}
use Rattle.source_modules.specs.declared.fault.ModuleFault.TheVariants as checking
use Rattle.link_sign.specs.declared.found.Clash.{Clash}
use Rattle.inferno_top.specs.Built.{HasTree, IsBuilt, IsClashing}
use Rattle.inferno_top.specs.Faults.{IsBytesFault, IsFault, IsTreeFault}
use Rattle.inferno_top.specs.declared.cause.Cause.{Cause}
use Rattle.inferno_top.specs.declared.cause.Cause.TheVariants.{BadSource, Clashing, Host, NoMemory}
use Rattle.inferno_top.specs.declared.cause.Aim.{Aim}
use Rattle.inferno_top.specs.declared.cause.Aim.TheVariants.{Run, Write}
use Rattle.inferno_top.specs.declared.cause.SourceFault.{SourceFault}
use Rattle.inferno_top.specs.declared.cause.SourceFault.TheVariants.{Lex, Parse, Unchecked, FrameTooLarge, CodeTooLarge}
use Rattle.inferno_top.specs.declared.reading.ReadFault.{ReadFault}
use Rattle.inferno_top.specs.declared.reading.ReadFault.TheVariants as read

-- the file's bytes are a program, which is this typed module
pub record IsRead (aim : Aim) (told : Told) (path : List ℕ) (m : Module) : Type 0 where
  pub source : List ℕ
  pub stands : Has told path source
  pub built : IsBuilt aim told path source m

-- where the token with this number stands, or the first place where there is none
abbrev pub span_at : List Token → ℕ → Span
span_at tokens number = elim (slice_get tokens number) [ None ↦ record { line = 1; col = 1; len = 0 } | Some token ↦ token.span ]

-- a refusal of bytes and their text
abbrev pub unlexed : LexFault → ReadFault
unlexed lex.NoMemory = read.NoMemory
unlexed (lex.BadUtf8 at) = read.Refused (Lex (lex.BadUtf8 at))
unlexed (lex.BadChar span) = read.Refused (Lex (lex.BadChar span))
unlexed (lex.BadEscape span) = read.Refused (Lex (lex.BadEscape span))
unlexed (lex.NumberTooWide span) = read.Refused (Lex (lex.NumberTooWide span))
unlexed (lex.Unclosed span) = read.Refused (Lex (lex.Unclosed span))
unlexed lex.SourceTooLong = read.Refused (Lex lex.SourceTooLong)

-- a refusal of the compiler
abbrev pub uncompiled : CompileFault → ReadFault
uncompiled compile.NoMemory = read.NoMemory
uncompiled compile.FrameTooLarge = read.Refused FrameTooLarge
uncompiled compile.CodeTooLarge = read.Refused CodeTooLarge

-- a refusal of the grammar, at its token
abbrev pub unparsed : List Token → ParseFault → ReadFault
unparsed tokens parse.NoMemory = read.NoMemory
unparsed tokens (parse.Syntax token) = read.Refused (Parse (parse.Syntax token) (span_at tokens token))
unparsed tokens (parse.TooDeep token) = read.Refused (Parse (parse.TooDeep token) (span_at tokens token))

-- why bytes have no tree: a refusal, or want of memory
abbrev pub IsReadFault : List ℕ → ReadFault → Type 0
IsReadFault source read.NoMemory = Unit {0}
IsReadFault source (read.Refused fault) = IsBytesFault source fault

-- whether a module has to declare `init` as a first one does, and doesn't
abbrev pub lacks_init : Aim → (begins : Bool) → Bool
lacks_init Run begins = not begins
lacks_init Write begins = false

-- why a tree is no program: a refusal, or want of memory
abbrev pub IsTreeReadFault : Aim → Told → List ℕ → Source → ReadFault → Type 0
IsTreeReadFault aim told path tree read.NoMemory = Unit {0}
IsTreeReadFault aim told path tree (read.Refused fault) = IsTreeFault aim told path tree fault

-- a source stands at the path, whose tree is this one
pub record IsTreeAt (told : Told) (path : List ℕ) (tree : Source) : Type 0 where
  pub source : List ℕ
  pub stands : Has told path source
  pub has : HasTree source tree

-- the cause that is told of a source's fault, or want of memory for its name
abbrev pub IsFaultOf : List ℕ → ReadFault → Cause → Type 0
IsFaultOf path fault cause = (cause ≡ NoMemory) ⊎ ((f : SourceFault) × (fault ≡ read.Refused f) × (cause ≡ BadSource path f))

-- the cause that is told of included texts
abbrev pub cause_of_files : FilesFault → Cause
cause_of_files files.NoMemory = NoMemory
cause_of_files (files.Failed path) = Host path false
cause_of_files (files.Lex path fault) = BadSource path (Lex fault)
cause_of_files (files.Parse path fault span) = BadSource path (Parse fault span)

-- the cause that is told of names, types and statements
abbrev pub cause_of_checking : ModuleFault → Cause
cause_of_checking checking.NoMemory = NoMemory
cause_of_checking (checking.Refused number path span) = BadSource path (Unchecked number span)

-- the file's bytes have this fault, which is told of this file
pub record IsFaulty (aim : Aim) (told : Told) (path file : List ℕ) (fault : SourceFault) : Type 0 where
  pub source : List ℕ
  pub stands : Has told path source
  pub because : IsFault aim told path source file fault

-- the file's bytes are a source with this clash
pub record HasClashAt (aim : Aim) (told : Told) (path : List ℕ) (c : Clash) : Type 0 where
  pub source : List ℕ
  pub stands : Has told path source
  pub checked : Module
  pub clashing : IsClashing aim told path source checked c

-- this file is read for the source at the path: it is that source, or a text that it includes
pub data IsWanted (told : Told) (path : List ℕ) : List ℕ → Type 0 where
  itself : IsWanted told path path
  included : (source : List ℕ) (tree : Source) (text : List ℕ) → Has told path source → HasTree source tree
      → IsIncluded told path tree.tops text → IsWanted told path text

-- Why a tree at the path isn't checked, whatever its bytes are and whatever it's compiled for: a refusal of them, or a read of an included
-- text that failed.
abbrev pub IsUnchecked : Told → List ℕ → Source → ℕ → ℕ → Cause → Type 0
IsUnchecked told path tree before now (BadSource file fault) =
    (aim : Aim) (source : List ℕ) → HasTree source tree → IsFault aim told path source file fault
IsUnchecked told path tree before now (Host file false) = IsIncluded told path tree.tops file × Rose before now
IsUnchecked told path tree before now NoMemory = Unit {0}
IsUnchecked told path tree before now _ = ⊥

-- why a source at the path was not read
abbrev pub IsUnread : Aim → Told → List ℕ → ℕ → ℕ → Cause → Type 0
IsUnread aim told path before now (BadSource file fault) = IsFaulty aim told path file fault
IsUnread aim told path before now (Clashing c) = HasClashAt aim told path c
IsUnread aim told path before now (Host file true) = (file ≡ path) × Lacks told path
IsUnread aim told path before now (Host file false) = IsWanted told path file × Rose before now
IsUnread aim told path before now NoMemory = Unit {0}
IsUnread aim told path before now _ = ⊥
