-- The list without items, where an operation gives it: one instruction stores a reference to nothing.
use Rattle.std.proofs.Common.{◌≡◌, ℕ, zero, suc, List, [], ◌∷◌, Some, None, refl, ap, ◌∙◌, arith}
use Rattle.std.specs.Prelude.{slice_get}
use Rattle.limbo_types.specs.Types as ty
use Rattle.limbo_types.specs.Types.{Ty}
use Rattle.limbo_typed.specs.Typed as typed
use Rattle.limbo_typed.specs.declared.operation.Operation.TheVariants as operation
use Rattle.limbo_meaning.specs.Trees.{Operate}
use Rattle.limbo_meaning.specs.Values.{Ref}
use Rattle.system_model.specs.Limits.{frames_limit}
use Rattle.core_code.specs.Code.{Give}
use Rattle.core_code.specs.Machine as code
use Rattle.core_typing.specs.Going.{got_by}
use Rattle.core_typing.specs.Held as held
use Rattle.core_typing.specs.Held.{Of}
use Rattle.value_words.specs.Stands.{a_name}
use Rattle.value_code.specs.Data.{nil_word}
use Rattle.value_follows.specs.Sides.{program}
use Rattle.value_follows.specs.Rows.{Base, InstrGoes}
use Rattle.value_follows.proofs.Standing.{finds, code_here}
use Rattle.value_follows.proofs.Slots.{uses}
use Rattle.value_follows.proofs.Single.{single}
use Rattle.value_follows.proofs.Jumps.{behind_it}
use Rattle.rows_moving.proofs.References.{nil_read, reference_stored}
use Rattle.rows_making.specs.Rows.{NoItemsGo}

no_name : (n k : ℕ) → slice_get (None ∷ []) k ≡ Some (Some n) → ⊥
no_name n zero e = absurd cc
no_name n (suc k) e = absurd cc

none_of : (m : typed.Module) (b : Base m) (item : Ty) (into : ℕ) (from : List ℕ)
    → InstrGoes m (Give (ty.ListOf item) (Operate operation.List) into from)
none_of m b item into from k i x p q ready here =
    single m b i p q k x ready (λ now w y r hold worlds.
    let is = r.stands.is in
    let it = Give (ty.ListOf item) (Operate operation.List) into from in
    let row = code_here m now i y p q r it here in
    let found = finds m is.function p.frame.pc is.known it r.stands.goes row in
    let live = got_by m.adts (ty.ListOf item) (Operate operation.List) in
    reference_stored m b now i w y p q r hold worlds it here into (uses m now i y [] p.frame q.frame is p.frame.pc it row).0 found.3
    refl nil_word refl None (nil_read m b now i w y p q r hold worlds it here) (ty.ListOf item) (Ref None) live refl
    (λ others to e. a_name to (ty.ListOf item) None None tt e tt) (λ j n e. absurd (no_name n j e))
    (behind_it m b now i w y p q r hold worlds it here 0 (suc p.frame.pc) (held.put is.known into (Of (ty.ListOf item) live)) (omega arith) refl)
    (ap (code.next frames_limit (program m) w p) here))

pub no_items_go : NoItemsGo
no_items_go m b t into from k i x p q ready here =
    let it = Give t (Operate operation.List) into from in
    let r = ready.0 in
    let found = finds m r.stands.is.function p.frame.pc r.stands.is.known it r.stands.goes (code_here m k i x p q r it here) in
    none_of m b found.2.0.0 into from k i x p q ready
    (here ∙ ap (λ (u : Ty). Some (Give u (Operate operation.List) into from)) found.2.0.1)
