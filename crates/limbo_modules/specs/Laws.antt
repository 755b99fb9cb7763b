-- What holds of typed modules of sources.
use Rattle.std.specs.Prelude.{◌≡◌, ℕ, List}
use Rattle.limbo_declarations.specs.Rows.{Row}
use Rattle.limbo_top.specs.Tops.{Placed}
use Rattle.limbo_entries.specs.Entries.{Entry, IsTable, AreOnce}
use Rattle.limbo_typed.specs.Typed.{Module}
use Rattle.limbo_source_context.specs.SourceContext.{HaveParams}
use Rattle.limbo_stmt_values.specs.limbo_stating.Reasons.{Reason}
use Rattle.limbo_modules.specs.Modules.{IsModule}
use Rattle.limbo_modules.specs.Failing.{FailsModule}

-- A source is one typed module at most, where each scope has each name once.
abbrev pub OneModule : Type 0
OneModule =
    (name : List ℕ) (tops : List Placed) (es : List Entry) (m : ℕ) (x y : Module) → AreOnce es
    → IsModule name tops es m x → IsModule name tops es m y → x ≡ y

-- What fails, by whatever reason, is none, where parameters are written as the grammar has them.
abbrev pub FailsOrModule : Type 0
FailsOrModule =
    (name : List ℕ) (tops : List Placed) (top : List Row) (es : List Entry) (m : ℕ) (k : Reason) (x : Module) → IsTable top es → AreOnce es
    → HaveParams es → FailsModule name tops es m k → IsModule name tops es m x → ⊥
