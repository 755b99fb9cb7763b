-- The types of expressions where a body has come to (Limbo Language Reference, expressions): a case for each form of an expression. Parts
-- are typed from the left to the right, and each sees what those before it declare.
use Rattle.std.specs.Prelude.{◌≡◌, ◌≢◌, ℕ, ℤ, ◌+ℤ◌, pos, Bool, true, false, List, Option, None, Some}
use Rattle.inf_text.specs.Options.{◌>>=◌}
use Rattle.limbo_types.specs.Types.{Ty, Int, Nothing, Module}
use Rattle.limbo_tree.specs.declared.operators.AssignOp.TheVariants as assign
use Rattle.limbo_tree.specs.Exprs as tree
use Rattle.limbo_tree.specs.Types as written
use Rattle.limbo_typed.specs.declared.stmt.Constant.TheVariants as constant
use Rattle.limbo_typed.specs.declared.print.Printed.{Printed}
use Rattle.limbo_typed.specs.declared.print.Printed.TheVariants as printed
use Rattle.limbo_typed.specs.Typed.{Expr, Of, Exprs, NoExprs, MoreExprs, Optional, Absent, Present, Items, NoItems, MoreItems, Read, Place}
use Rattle.limbo_typed.specs.Typed.{Pattern, ToPlace, ToNothing, ToParts, Patterns, NoPatterns, MorePatterns}
use Rattle.limbo_typed.specs.Sound.{type_of, IsSettled}
use Rattle.limbo_defining.specs.limbo_context.Context.{Context, Body}
use Rattle.limbo_folding.specs.Folding.{value_of}
use Rattle.limbo_assigning.specs.Assigning.{Assigns, assignment}
use Rattle.limbo_value_forms.specs.limbo_places.Slices.{Slices}
use Rattle.limbo_value_forms.specs.limbo_channels.Loading.{Loads}
use Rattle.limbo_value_forms.specs.limbo_literals.Literals.{Fills, Sizes, Makes}
use Rattle.limbo_applying.specs.limbo_calls.Prints.{Prints, Output}
use Rattle.limbo_applying.specs.limbo_calls.Prints as output
use Rattle.limbo_applying.specs.limbo_things.Things.{Thing, AValue, AType, APrint, NameIs, MemberIs, PartIs}
use Rattle.limbo_applying.specs.Applying.{Applies}
use Rattle.limbo_written.specs.limbo_permits.Permits.{IsPermitted}
use Rattle.limbo_written.specs.Written.{MeansPermitted}
use Rattle.limbo_value_forms.specs.Forms.{one, values_in, copied, Forms}
use Rattle.limbo_defining.specs.Defining.{Defines}

-- a name, and what stands in or behind one
abbrev pub is_path : tree.Expr → Bool
is_path (tree.Name n) = true
is_path (tree.Arrow e n) = true
is_path (tree.Dot e n) = true
is_path _ = false

-- `nil`, and what stands in parentheses
abbrev pub is_pattern : tree.Expr → Bool
is_pattern tree.Nil = true
is_pattern (tree.Group es) = true
is_pattern _ = false

-- ---- prints

-- a literal text, and what stands behind it
abbrev pub literal_first : tree.Exprs → Option (List ℕ × tree.Exprs)
literal_first (tree.MoreExprs (tree.Chars text) es) = Some (text, es)
literal_first _ = None

abbrev pub behind_file : tree.Exprs → Option (List ℕ × tree.Exprs)
behind_file (tree.MoreExprs e es) = literal_first es >>= λ f. Some (f.0, tree.MoreExprs e f.1)
behind_file tree.NoExprs = None

-- The literal format of a print, the first argument or, behind the file, of `fprint` the second, and the other arguments.
abbrev pub format_in : Printed → tree.Exprs → Option (List ℕ × tree.Exprs)
format_in printed.Fprint es = behind_file es
format_in p es = literal_first es

-- What is printed to, and the values that the format takes: of `fprint` the first is the file.
abbrev pub OutputIs : Printed → (given : Exprs) → Output → (values : Exprs) → Type 0
OutputIs printed.Print xs o ys = (o ≡ output.Print) × (ys ≡ xs)
OutputIs printed.Sprint xs o ys = (o ≡ output.Sprint) × (ys ≡ xs)
OutputIs printed.Fprint (MoreExprs x xs) o ys = (o ≡ output.Fprint x) × (ys ≡ xs)
OutputIs printed.Fprint NoExprs o ys = ⊥

-- ---- the forms

mutual
  -- What an expression is where it may be a name, or stand behind one: a thing.
  pub data Denotes (c : Context) : Body → tree.Expr → Thing → Body → Type 0 where
    by_name : (b : Body) (n : List ℕ) (t : Thing) → NameIs c b n t → Denotes c b (tree.Name n) t b
    by_member : (b b' : Body) (e : tree.Expr) (n : List ℕ) (s t : Thing) → Denotes c b e s b' → MemberIs c n s t
        → Denotes c b (tree.Arrow e n) t b'
    by_part : (b b' : Body) (e : tree.Expr) (n : List ℕ) (s t : Thing) → Denotes c b e s b' → PartIs c n s t
        → Denotes c b (tree.Dot e n) t b'
    by_value : (b b' : Body) (e : tree.Expr) (x : Expr) → is_path e ≡ false → HasValue c b e x b' → Denotes c b e (AValue x) b'

  -- An expression that has a value: it is no call without an answer.
  pub data HasValue (c : Context) : Body → tree.Expr → Expr → Body → Type 0 where
    has_value : (b b' : Body) (e : tree.Expr) (x : Expr) → Types c b e x b' → type_of x ≢ Nothing → HasValue c b e x b'

  -- An expression is this typed tree, which may stand anywhere.
  pub data Types (c : Context) : Body → tree.Expr → Expr → Body → Type 0 where
    permitted : (b b' : Body) (e : tree.Expr) (x : Expr) → Has c b e x b' → IsPermitted c x → Types c b e x b'

  -- The same, whatever its type and its stores.
  pub data Has (c : Context) : Body → tree.Expr → Expr → Body → Type 0 where
    of_values : (b b' : Body) (e : tree.Expr) (es : tree.Exprs) (xs : Exprs) (z : Expr) → values_in e ≡ Some es
        → HaveValues c b es xs b' → Forms c e xs z → Has c b e z b'
    of_path : (b b' : Body) (e : tree.Expr) (x : Expr) → is_path e ≡ true → Denotes c b e (AValue x) b' → Has c b e x b'
    in_parentheses : (b b' : Body) (e : tree.Expr) (x : Expr) → Types c b e x b' → Has c b (tree.Group (one e)) x b'
    of_slice : (b b' b'' b''' : Body) (e : tree.Expr) (i j : tree.Part) (x z : Expr) (u v : Optional) → HasValue c b e x b'
        → MayHave c b' i u b'' → MayHave c b'' j v b''' → Slices x u v z → Has c b (tree.Slice e i j) z b'''
    of_length : (b b' : Body) (e : tree.Expr) (t : written.Ty) (u : Ty) (x z : Expr) → HasValue c b e x b'
        → MeansPermitted c b' t u → Sizes x u z → Has c b (tree.Sized e t) z b'
    of_channel : (b : Body) (t : written.Ty) (u : Ty) (z : Expr) → MeansPermitted c b t u → Makes u z
        → Has c b (tree.Channel tree.Absent t) z b
    of_items : (b b' b'' : Body) (n : tree.Part) (is : tree.Inits) (comma : Bool) (u last : Optional) (js : Items) (z : Expr)
        → MayHave c b n u b' → Fill c b' (pos 0) Absent is js last b'' → Fills u js last z → Has c b (tree.Filled n is comma) z b''
    of_load : (b b' : Body) (n : List ℕ) (e : tree.Expr) (i : ℕ) (x z : Expr) → NameIs c b n (AType (Module i)) → HasValue c b e x b'
        → Loads i x z → Has c b (tree.Load n e) z b'
    of_call : (b b' b'' : Body) (f : tree.Expr) (es : tree.Exprs) (t : Thing) (xs : Exprs) (z : Expr) → Denotes c b f t b'
        → HaveValues c b' es xs b'' → Applies c t xs z → Has c b (tree.Call f es) z b''
    of_print : (b b' b'' : Body) (f : tree.Expr) (es others : tree.Exprs) (p : Printed) (m : Expr) (text : List ℕ) (xs ys : Exprs)
        (o : Output) (z : Expr) → Denotes c b f (APrint p m) b' → format_in p es ≡ Some (text, others) → HaveValues c b' others xs b''
        → OutputIs p xs o ys → Prints c.fd o m text ys z → Has c b (tree.Call f es) z b''
    of_assignment : (b b' b'' : Body) (l r : tree.Expr) (p : Pattern) (y z : Expr) → copied l r ≡ None → IsPattern c b l p b'
        → p ≢ ToNothing → HasValue c b' r y b'' → Assigns p y z → Has c b (tree.Assign assign.Assign l r) z b''
    of_definition : (b b' b'' : Body) (l r : tree.Expr) (p : Pattern) (y : Expr) → HasValue c b r y b' → IsSettled (type_of y)
        → Defines b' l (type_of y) p b'' → Has c b (tree.Assign assign.Define l r) (assignment p y) b''

  pub data HaveValues (c : Context) : Body → tree.Exprs → Exprs → Body → Type 0 where
    no_values : (b : Body) → HaveValues c b tree.NoExprs NoExprs b
    values : (b b' b'' : Body) (e : tree.Expr) (es : tree.Exprs) (x : Expr) (xs : Exprs) → HasValue c b e x b'
        → HaveValues c b' es xs b'' → HaveValues c b (tree.MoreExprs e es) (MoreExprs x xs) b''

  pub data MayHave (c : Context) : Body → tree.Part → Optional → Body → Type 0 where
    no_part : (b : Body) → MayHave c b tree.Absent Absent b
    a_part : (b b' : Body) (e : tree.Expr) (x : Expr) → HasValue c b e x b' → MayHave c b (tree.Present e) (Present x) b'

  -- The items of an array, where the next one without an index has this index, and `* =>` gave this so far: an index is a constant int,
  -- and `*` stands once.
  pub data Fill (c : Context) : Body → (next : ℤ) → (rest : Optional) → tree.Inits → Items → (last : Optional) → Body → Type 0 where
    no_items : (b : Body) (n : ℤ) (rest : Optional) → Fill c b n rest tree.NoInits NoItems rest b
    next_item : (b b' b'' : Body) (n : ℤ) (rest last : Optional) (e : tree.Expr) (is : tree.Inits) (x : Expr) (js : Items)
        → HasValue c b e x b' → Fill c b' (n +ℤ pos 1) rest is js last b''
        → Fill c b n rest (tree.MoreInits (tree.Next e) is) (MoreItems n x js) last b''
    item_at : (b b' b'' b''' : Body) (n k : ℤ) (rest last : Optional) (i e : tree.Expr) (is : tree.Inits) (y x : Expr) (js : Items)
        → HasValue c b i y b' → type_of y ≡ Int → value_of y ≡ Some (constant.Number k) → HasValue c b' e x b''
        → Fill c b'' (k +ℤ pos 1) rest is js last b''' → Fill c b n rest (tree.MoreInits (tree.At i e) is) (MoreItems k x js) last b'''
    rest_of : (b b' b'' : Body) (n : ℤ) (last : Optional) (e : tree.Expr) (is : tree.Inits) (x : Expr) (js : Items)
        → HasValue c b e x b' → Fill c b' n (Present x) is js last b'' → Fill c b n Absent (tree.MoreInits (tree.Rest e) is) js last b''

  -- A left side as a pattern: a place, `nil`, or a tuple of such.
  pub data IsPattern (c : Context) : Body → tree.Expr → Pattern → Body → Type 0 where
    to_nothing : (b : Body) → IsPattern c b tree.Nil ToNothing b
    in_one : (b b' : Body) (e : tree.Expr) (p : Pattern) → IsPattern c b e p b' → IsPattern c b (tree.Group (one e)) p b'
    to_parts : (b b' : Body) (e f : tree.Expr) (es : tree.Exprs) (ps : Patterns)
        → ArePatterns c b (tree.MoreExprs e (tree.MoreExprs f es)) ps b'
        → IsPattern c b (tree.Group (tree.MoreExprs e (tree.MoreExprs f es))) (ToParts ps) b'
    to_place : (b b' : Body) (e : tree.Expr) (t : Ty) (p : Place) → is_pattern e ≡ false → HasValue c b e (Of t (Read p)) b'
        → IsPattern c b e (ToPlace p) b'

  pub data ArePatterns (c : Context) : Body → tree.Exprs → Patterns → Body → Type 0 where
    no_patterns : (b : Body) → ArePatterns c b tree.NoExprs NoPatterns b
    more_patterns : (b b' b'' : Body) (e : tree.Expr) (es : tree.Exprs) (p : Pattern) (ps : Patterns) → IsPattern c b e p b'
        → ArePatterns c b' es ps b'' → ArePatterns c b (tree.MoreExprs e es) (MorePatterns p ps) b''
