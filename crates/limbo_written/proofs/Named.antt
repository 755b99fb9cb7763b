-- The names that the code's trees write are those that trees without their places write.
use Rattle.std.proofs.Common.{◌≡◌, ◌<◌, ◌∷◌, [], ℕ, zero, suc, List, Bool, length, get_or, map, refl, sym, ap, subst, ◌∙◌, arith}
use Rattle.inf_text.specs.declared.span.Span.{Span}
use Rattle.limbo_tree.specs.declared.name.Qual as code_qual
use Rattle.limbo_tree.specs.declared.types.TypeTree as code_type
use Rattle.limbo_tree.specs.Types as tree
use Rattle.limbo_tree.specs.View as view
use Rattle.limbo_tree.specs.View.{view_type, view_qual}
use Rattle.limbo_tree.proofs.Exprs.{view_type-Array, view_type-List, view_type-Chan, view_type-Ref, view_type-Named}
use Rattle.limbo_body_types.specs.Fails as fails
use Rattle.limbo_body_types.proofs.Composing.{of_parts}
use Rattle.limbo_written.specs.Written as written
use Rattle.limbo_written.specs.Written.{Writes, SomeWrites}

as_view : (t : code_type.TypeTree) (w : tree.Ty) (q : tree.Qual) (r : Bool) → view_type t ≡ w → Writes w q r → Writes (view_type t) q r
as_view t w q r e h = subst (λ (z : tree.Ty). Writes z q r) (sym e) h

in_some : (ts : List code_type.TypeTree) (i : ℕ) (p : code_type.TypeTree) (q : tree.Qual) (r : Bool) → i < length ts → get_or ts i p ≡ p
    → Writes (view_type p) q r → SomeWrites (view.tys_of (map view_type ts)) q r
in_some [] i p q r l e w = absurd (omega arith)
in_some (t ∷ ts) zero p q r l e w =
    written.the_first (view_type t) (view.tys_of (map view_type ts)) q r (subst (λ (z : code_type.TypeTree). Writes (view_type z) q r) (sym e) w)
in_some (t ∷ ts) (suc i) p q r l e w =
    written.a_later (view_type t) (view.tys_of (map view_type ts)) q r (in_some ts i p q r (omega arith) e w)

in_type : (t p : code_type.TypeTree) (q : tree.Qual) (r : Bool) → fails.IsPart t p → Writes (view_type p) q r → Writes (view_type t) q r
in_type t _ q r (fails.of_array e s i) w = as_view t _ q r (ap view_type i ∙ view_type-Array e s) (written.in_array (view_type e.value) q r w)
in_type t _ q r (fails.of_list e s i) w = as_view t _ q r (ap view_type i ∙ view_type-List e s) (written.in_list (view_type e.value) q r w)
in_type t _ q r (fails.of_chan e s i) w = as_view t _ q r (ap view_type i ∙ view_type-Chan e s) (written.in_chan (view_type e.value) q r w)
in_type t _ q r (fails.of_tuple parts s p i k) w =
    as_view t _ q r (sym (of_parts t parts.items parts s i refl))
    (written.in_tuple (view.tys_of (map view_type parts.items)) q r (in_some parts.items k.0 p q r k.1 k.2 w))

pub writes : (t : code_type.TypeTree) (q : code_qual.Qual) (r : Bool) (at : Span) → fails.Writes t q r at → Writes (view_type t) (view_qual q) r
writes _ _ _ _ (fails.a_name t q at i) = as_view t _ _ _ (ap view_type i ∙ view_type-Named q at) (written.alone (view_qual q))
writes _ _ _ _ (fails.a_ref t q at i) = as_view t _ _ _ (ap view_type i ∙ view_type-Ref q at) (written.behind_ref (view_qual q))
writes _ _ _ _ (fails.in_part t p q r at i w) = in_type t p (view_qual q) r i (writes p q r at w)
