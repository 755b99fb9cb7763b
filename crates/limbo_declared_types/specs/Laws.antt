-- What holds of what declarations write.
use Rattle.std.specs.Prelude.{ℕ, List}
use Rattle.limbo_refusals.specs.Refusals.{Refusal}
use Rattle.limbo_entries.specs.Entries.{Entry}
use Rattle.limbo_context.specs.Context.{Context}
use Rattle.limbo_declared_types.specs.Permitted.{AllPermitted, IsForbiddenAt}

-- Where all is permitted, no declaration is forbidden.
abbrev pub ForbiddenOrAllPermitted : Type 0
ForbiddenOrAllPermitted =
    (es : List Entry) (m : ℕ) (c : Context) (k : ℕ) (r : Refusal) → AllPermitted es m c → IsForbiddenAt es m c k r → ⊥
