use Rattle.std.proofs.Common.{◌≡◌, List, ℕ, true, sym, subst, ◌∙◌}
use Rattle.limbo_types.specs.View.{view_ty}
use Rattle.limbo_layout.specs.Laying.{AllBelow}
use Rattle.limbo_layout.specs.View.{view_defs}
use Rattle.value_frames.specs.Frames.{names_at}
use Rattle.value_rooms.specs.Cut.{most}
use Rattle.value_rooms.specs.Names.{moved}
use Rattle.value_rooms.proofs.Naming.{told_below, told_exact}
use Rattle.value_rooms.proofs.rooms.Rooms.names_at.Goals as goal

pub returns-then-not-are_told-clause-too_large : goal.returns-then-not-are_told-clause-too_large
returns-then-not-are_told-clause-too_large c e h =
    let os = names_at (view_defs c.args.self.now) (view_ty c.args.t.now) in
    let at : c.deref.result.now ≡ moved 0 os = c.deref.ensures.value ∙ c.in_ok-names.ensures in
    let told : c.are_told.result ≡ true = c.are_told.ensures.1 (subst (λ (ns : List ℕ). AllBelow most ns) (sym at) (told_below os h)) in
    let not = c.if-not-are_told.true in
    absurd cc

pub returns-clause-names : goal.returns-clause-names
returns-clause-names c =
    let os = names_at (view_defs c.args.self.now) (view_ty c.args.t.now) in
    let at : c.deref.result.now ≡ moved 0 os = c.deref.ensures.value ∙ c.in_ok-names.ensures in
    let told : AllBelow most (moved 0 os) = subst (λ (ns : List ℕ). AllBelow most ns) at (c.are_told.ensures.0 c.if-not-are_told.false) in
    c.in_ok-names.ensures ∙ told_exact os told
