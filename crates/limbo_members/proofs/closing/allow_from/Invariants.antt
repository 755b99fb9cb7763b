use Rattle.std.proofs.Common.{◌≡◌, ◌≤◌, ◌<◌, ℕ, Some}
use Rattle.std.specs.Prelude.{slice_get}
use Rattle.limbo_layout.specs.Adts.{Def}
use Rattle.limbo_context.specs.View.{view_context}
use Rattle.limbo_members.specs.Standing.{IsAllowedIn}
use Rattle.limbo_members.proofs.closing.allow_from.Given as goal

abbrev pub invariant-loop-number : goal.invariant-loop-number
invariant-loop-number l =
    (a : ℕ) (d : Def) → l.first ≤ a → a < l.number → slice_get (view_context l.context).adts a ≡ Some d
    → IsAllowedIn (view_context l.context) d
