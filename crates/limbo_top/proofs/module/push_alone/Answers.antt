use Rattle.std.proofs.Common.{◌≡◌, [], ◌∷◌, ◌++◌, List, Option, Some, None, option_map, refl, sym, ap, subst, ◌∙◌, rules}
use Rattle.std.proofs.lemmas.List.{map-append, append-nil}
use Rattle.limbo_tree.specs.View.{name_of}
use Rattle.limbo_declarations.specs.Rows.{Row}
use Rattle.limbo_declarations.specs.View.{rows_of, view_row}
use Rattle.limbo_top.specs.Tops.{Alone, of_adt, of_module, by_itself, row_of}
use Rattle.limbo_top.specs.View.{view_definition}
use Rattle.limbo_top.proofs.module.push_alone.Goals as goal

pub returns-in-Some : goal.returns-in-Some
returns-in-Some c = λ ds rest h. ([], sym (append-nil (rows_of c.args.rows.now.items)), of_adt (view_definition c.args.d) c.in-Some._function.text ds rest (ap name_of c.in-Some.is) h)

pub returns-then-has_function : goal.returns-then-has_function
returns-then-has_function c = λ ds rest h. ([], sym (append-nil (rows_of c.args.rows.now.items)), of_module (view_definition c.args.d) ds rest (ap name_of c.in-None.is) (c.has_function.ensures.yes c.if-has_function.true) h)

pub returns-in_ok-push-in-None : goal.returns-in_ok-push-in-None
returns-in_ok-push-in-None c =
    λ ds rest h.
    let e : rows_of c.push.new.self.items ≡ rows_of c.args.rows.now.items ++ (row_of (view_definition c.args.d) ∷ []) = ap rows_of c.in_ok-push-in-None.ensures.items ∙ map-append view_row c.args.rows.now.items _ in
    (row_of (view_definition c.args.d) ∷ [], e, by_itself (view_definition c.args.d) ds rest (ap name_of c.in-None.is) (c.has_function.ensures.no c.if-has_function.false) h)
