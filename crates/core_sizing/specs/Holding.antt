-- What may get references while it is evaluated, told by the typed trees. `may_hold` of `limbo_meaning` asks the same of the terms that
-- they stand for.
use Rattle.std.specs.Prelude.{List, Bool, true, false, ◌&&◌, ◌||◌}
use Rattle.limbo_types.specs.Types.{Ty}
use Rattle.limbo_layout.specs.Adts.{Def}
use Rattle.limbo_typed.specs.declared.print.Printed.{Printed}
use Rattle.limbo_typed.specs.declared.print.Printed.TheVariants as printed
use Rattle.limbo_typed.specs.Typed as typed
use Rattle.limbo_typed.specs.Typed.{Of, At}
use Rattle.limbo_meaning.specs.Evaluation.{refers, work_refers}
use Rattle.limbo_meaning.specs.Program.{operating}

abbrev pub is_absent : typed.Optional → Bool
is_absent typed.Absent = true
is_absent (typed.Present e) = false

-- A print without a file: another isn't in this part of the language.
abbrev pub is_print : Printed → (file : typed.Optional) → Bool
is_print printed.Fprint file = false
is_print _ file = is_absent file

module _ (defs : List Def) where
  abbrev mutual
    pub expr_holds : typed.Expr → Bool
    expr_holds (Of t n) = node_holds t n

    -- An initialiser and a channel are values of the heap; so are the cells of a list.
    pub node_holds : Ty → typed.Node → Bool
    node_holds t (typed.Read p) = place_holds p
    node_holds t (typed.Part e n) = expr_holds e
    node_holds t (typed.Apply o es) = work_refers defs t (operating o) || exprs_hold es
    node_holds t (typed.Lazy c l r) = expr_holds l || expr_holds r
    node_holds t (typed.Assign p e) = pattern_holds p || expr_holds e
    node_holds t (typed.Update o p e) = place_holds p || expr_holds e
    node_holds t (typed.Step o g p) = place_holds p
    node_holds t (typed.Copy a i e) = expr_holds a || (expr_holds i || expr_holds e)
    node_holds t (typed.Filled l is rest) = true
    node_holds t (typed.Channel size) = is_absent size
    node_holds t (typed.Call f es) = refers defs t || exprs_hold es
    node_holds t (typed.Print w m file ps es) = is_print w file && exprs_hold es
    node_holds t n = false

    pub exprs_hold : typed.Exprs → Bool
    exprs_hold typed.NoExprs = false
    exprs_hold (typed.MoreExprs e es) = expr_holds e || exprs_hold es

    -- A place that is read, and what leads to one.
    pub place_holds : typed.Place → Bool
    place_holds (At t p) = refers defs t || way_holds p

    pub way_holds : typed.PlaceNode → Bool
    way_holds (typed.Field (At t p) n) = way_holds p
    way_holds (typed.Element a i) = expr_holds a || expr_holds i
    way_holds (typed.Character (At t p) i) = way_holds p || expr_holds i
    way_holds (typed.Target e) = expr_holds e
    way_holds p = false

    -- the places that are written
    pub pattern_holds : typed.Pattern → Bool
    pattern_holds (typed.ToPlace (At t p)) = way_holds p
    pattern_holds typed.ToNothing = false
    pattern_holds (typed.ToParts ps) = patterns_hold ps

    pub patterns_hold : typed.Patterns → Bool
    patterns_hold typed.NoPatterns = false
    patterns_hold (typed.MorePatterns p ps) = pattern_holds p || patterns_hold ps
