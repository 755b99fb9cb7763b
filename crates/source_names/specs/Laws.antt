-- What holds of what a source declares, where files are told.
use Rattle.std.specs.Prelude.{◌≡◌, ◌⊎◌, ℕ, List}
use Rattle.inf_ports.specs.Outside.{Told}
use Rattle.limbo_lexer.specs.declared.fault.LexFault.{LexFault}
use Rattle.source_files.specs.limbo_parser.declared.tree.ParseFault.{ParseFault}
use Rattle.limbo_tree.specs.Sources.{Source}
use Rattle.limbo_entries.specs.Entries.{Entry}
use Rattle.source_files.specs.Files.{Gives}
use Rattle.source_files.specs.Texts.{IsUnlexed, IsUnparsed}
use Rattle.source_names.specs.Included.{AreTold, IsIncluded}
use Rattle.source_names.specs.Declares.{Declares, Fails}
use Rattle.source_names.specs.declared.refusal.Refusal.{Refusal}

-- A source declares one thing at most.
abbrev pub OneScope : Type 0
OneScope =
    (told : Told) (path : List ℕ) (tree : Source) (es fs : List Entry) (m n : ℕ) → AreTold told
    → Declares told path tree es m → Declares told path tree fs n → (es ≡ fs) × (m ≡ n)

-- What is refused declares nothing.
abbrev pub RefusedDeclaresNothing : Type 0
RefusedDeclaresNothing =
    (told : Told) (path : List ℕ) (tree : Source) (refusal : Refusal) (es : List Entry) (m : ℕ) → AreTold told
    → Fails told path tree refusal → Declares told path tree es m → ⊥

-- What stands at a path is no included text.
abbrev pub IsNoText : Told → List ℕ → Type 0
IsNoText told path =
    (bytes : List ℕ) × Gives told path bytes × (((f : LexFault) × IsUnlexed bytes f) ⊎ ((f : ParseFault) × IsUnparsed bytes f))

-- A source that includes what is no included text declares nothing.
abbrev pub NoTextDeclaresNothing : Type 0
NoTextDeclaresNothing =
    (told : Told) (path : List ℕ) (tree : Source) (text : List ℕ) (es : List Entry) (m : ℕ) → AreTold told
    → IsIncluded told path tree.tops text → IsNoText told text → Declares told path tree es m → ⊥
