-- What is read at a path.
use Rattle.std.specs.Prelude.{◌≡◌, ◌⊎◌, ℕ, List, true, false, codes, if◌then◌else◌}
use Rattle.inf_ports.specs.Outside.{Told, Has, Lacks, Rose}
use Rattle.limbo_tree.specs.Sources.{Source}
use Rattle.limbo_includes.specs.Includes.{is_same, is_built_in}
use Rattle.source_files.specs.Texts.{HasTree, IsUnlexed, IsUnparsed, IsTextFault}
use Rattle.source_files.specs.declared.built_in.TheConstants.{SYS, DRAW}
use Rattle.source_files.specs.declared.text.TextFault.{TextFault}
use Rattle.source_files.specs.declared.fault.FilesFault.{FilesFault}
use Rattle.source_files.specs.declared.fault.FilesFault.TheVariants as fault

-- the text of a built-in name
unfoldable pub text_of : List ℕ → List ℕ
text_of name = if is_same name (codes "sys.m") then SYS.now else DRAW.now

-- These bytes stand at a path: a built-in text under its name, and else what the files tell.
abbrev pub Gives : Told → List ℕ → List ℕ → Type 0
Gives told path bytes = ((is_built_in path ≡ true) × (bytes ≡ text_of path)) ⊎ ((is_built_in path ≡ false) × Has told path bytes)

-- No text stands at a path.
abbrev pub IsMissing : Told → List ℕ → Type 0
IsMissing told path = (is_built_in path ≡ false) × Lacks told path

-- What stands at a path spells this tree of an included text.
pub record IsSpelled (told : Told) (path : List ℕ) (tree : Source) : Type 0 where
  pub bytes : List ℕ
  pub stands : Gives told path bytes
  pub has : HasTree bytes tree

-- What stands at a path is no included text, and why; or a read failed; or memory ran out.
abbrev pub IsRefusal : Told → ℕ → ℕ → FilesFault → Type 0
IsRefusal told before now fault.NoMemory = Unit {0}
IsRefusal told before now (fault.Failed path) = Rose before now
IsRefusal told before now (fault.Lex path f) = (bytes : List ℕ) × Gives told path bytes × IsUnlexed bytes f
IsRefusal told before now (fault.Parse path f span) = (bytes : List ℕ) × Gives told path bytes × IsUnparsed bytes f

-- The refusal of the text at a path that has this fault.
abbrev pub IsRefusalOf : List ℕ → TextFault → FilesFault → Type 0
IsRefusalOf path f e =
    (told : Told) (bytes : List ℕ) (before now : ℕ) → Gives told path bytes → IsTextFault bytes f → IsRefusal told before now e

-- A refusal is of the text at a path of which this holds; want of memory is of none.
abbrev pub AtPath : (List ℕ → Type 0) → FilesFault → Type 0
AtPath P fault.NoMemory = Unit {0}
AtPath P (fault.Failed path) = P path
AtPath P (fault.Lex path f) = P path
AtPath P (fault.Parse path f span) = P path

-- The same of a refusal that is a text's own; a read that failed is of none.
abbrev pub AtText : (List ℕ → Type 0) → FilesFault → Type 0
AtText P fault.NoMemory = Unit {0}
AtText P (fault.Failed path) = Unit {0}
AtText P (fault.Lex path f) = P path
AtText P (fault.Parse path f span) = P path

-- What stands at a path is no included text, and why: a refusal that is kept while others are read.
abbrev pub IsBlamed : Told → FilesFault → Type 0
IsBlamed told fault.NoMemory = ⊥
IsBlamed told (fault.Failed path) = ⊥
IsBlamed told (fault.Lex path f) = (bytes : List ℕ) × Gives told path bytes × IsUnlexed bytes f
IsBlamed told (fault.Parse path f span) = (bytes : List ℕ) × Gives told path bytes × IsUnparsed bytes f
