-- What holds of typed modules of sources, where files are told.
use Rattle.std.specs.Prelude.{◌≡◌, ℕ, List, false}
use Rattle.inf_ports.specs.Outside.{Told}
use Rattle.limbo_lexer.specs.declared.token.Kind.{Kind}
use Rattle.limbo_tree.specs.Sources.{Source, IsTree}
use Rattle.limbo_entries.specs.Entries.{Entry}
use Rattle.limbo_typed.specs.Typed.{Module}
use Rattle.source_names.specs.Included.{AreTold}
use Rattle.source_modules.specs.Checked.{IsChecked}
use Rattle.source_modules.specs.Failing.{Fails}

-- A source is one typed module at most.
abbrev pub OneChecked : Type 0
OneChecked =
    (told : Told) (path : List ℕ) (tree : Source) (es fs : List Entry) (m n : ℕ) (x y : Module) → AreTold told
    → IsChecked told path tree es m x → IsChecked told path tree fs n y → (es ≡ fs) × (m ≡ n) × (x ≡ y)

-- What is refused is none, where its tree is one by the grammar.
abbrev pub FailsOrChecked : Type 0
FailsOrChecked =
    (told : Told) (path : List ℕ) (tree : Source) (number : ℕ) (es : List Entry) (m : ℕ) (x : Module) → AreTold told
    → (tokens : List Kind) → IsTree false tokens tree → Fails told path tree number → IsChecked told path tree es m x → ⊥
