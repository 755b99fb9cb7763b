-- Why expressions have no typed tree (Limbo Language Reference, expressions): a part fails, or the parts don't fit.
use Rattle.std.specs.Prelude.{◌≡◌, ◌≢◌, ℕ, ℤ, ◌+ℤ◌, pos, Bool, true, false, List, Option, None, Some}
use Rattle.limbo_types.specs.Types.{Ty, Int, Chars, Nothing, Module}
use Rattle.limbo_tree.specs.declared.operators.AssignOp.{AssignOp}
use Rattle.limbo_tree.specs.declared.operators.AssignOp.TheVariants as assign
use Rattle.limbo_tree.specs.declared.operators.UnaryOp.TheVariants as before
use Rattle.limbo_tree.specs.Exprs as tree
use Rattle.limbo_tree.specs.Types as written
use Rattle.limbo_typed.specs.declared.stmt.Constant.TheVariants as constant
use Rattle.limbo_typed.specs.declared.print.Printed.{Printed}
use Rattle.limbo_typed.specs.Typed.{Expr, Exprs, Optional, Absent, Present, Items}
use Rattle.limbo_typed.specs.Typed.{Pattern, ToNothing}
use Rattle.limbo_typed.specs.Sound.{type_of, IsSettled}
use Rattle.limbo_scope.specs.declared.meaning.Meaning.{Meaning}
use Rattle.limbo_scope.specs.Scopes.{seen}
use Rattle.limbo_refusals.specs.Refusals as refusals
use Rattle.limbo_refusals.specs.Refusals.{Refusal, Clash, NoneIs}
use Rattle.limbo_defining.specs.limbo_context.Context.{Context, Body}
use Rattle.limbo_folding.specs.Folding.{value_of}
use Rattle.limbo_assigning.specs.limbo_operands.Operands.{IsPlace}
use Rattle.limbo_assigning.specs.Assigning.{Assigns, type_in}
use Rattle.limbo_value_forms.specs.limbo_places.Slices.{Slices, Hinders}
use Rattle.limbo_value_forms.specs.limbo_channels.Loading.{Loads}
use Rattle.limbo_value_forms.specs.limbo_literals.Literals.{Fills, Sizes}
use Rattle.limbo_value_forms.specs.limbo_literals.Refusing.{RefusesFill, NoLength}
use Rattle.limbo_applying.specs.limbo_calls.Prints.{Prints, Output}
use Rattle.limbo_applying.specs.limbo_calls.Refusing.{RefusesPrint}
use Rattle.limbo_applying.specs.limbo_things.Things.{Thing, AValue, AType, APrint, NameIs, MemberIs, PartIs, type_named}
use Rattle.limbo_applying.specs.Applying.{Applies}
use Rattle.limbo_applying.specs.Refusing.{RefusesApply}
use Rattle.limbo_causes.specs.Causes.{Cause, Twice, Unknown, NotConstant, Refused, nothing}
use Rattle.limbo_written.specs.limbo_permits.Permits.{Forbids}
use Rattle.limbo_written.specs.Written.{MeansPermitted, FailsAsType}
use Rattle.limbo_value_forms.specs.Forms.{one, itself, values_in, copied, Forms, RefusesForm}
use Rattle.limbo_defining.specs.Defining.{FailsDefine}
use Rattle.limbo_typing.specs.Typing.{is_path, is_pattern, format_in, OutputIs, Denotes, HasValue, Types, Has, HaveValues, MayHave, Fill}
use Rattle.limbo_typing.specs.Typing.{IsPattern}

-- a thing that doesn't fit, by the type that it names
abbrev pub unfit : Thing → Cause
unfit t = Refused (Clash (type_named t) (type_named t))

-- ---- places

-- what `op=` changes: no assignment, declaration or send is one
abbrev pub changed : AssignOp → (left : tree.Expr) → Option tree.Expr
changed assign.Assign l = None
changed assign.Define l = None
changed assign.Send l = None
changed o l = Some l

-- the part that `++`, `--` and `op=` change, which has to be a place
abbrev pub changed_in : tree.Expr → Option tree.Expr
changed_in (tree.Unary before.Increment e) = Some e
changed_in (tree.Unary before.Decrement e) = Some e
changed_in (tree.Postfix o e) = Some e
changed_in (tree.Assign o l r) = changed o l
changed_in _ = None

-- one expression in parentheses
abbrev pub is_enclosed : tree.Expr → Bool
is_enclosed (tree.Group (tree.MoreExprs e tree.NoExprs)) = true
is_enclosed _ = false

-- ---- things

-- A thing that is called without a literal format.
abbrev pub IsNoPrint : Thing → Type 0
IsNoPrint (APrint p m) = ⊥
IsNoPrint _ = Unit {0}

-- ---- names

-- A name is no thing where it stands: it isn't seen, or is seen and means nothing here.
pub data FailsName (c : Context) (b : Body) (n : List ℕ) : Cause → Type 0 where
  unseen : seen n b.scopes ≡ None → FailsName c b n Unknown
  no_thing : (m : Meaning) → seen n b.scopes ≡ Some m → NoneIs (NameIs c b n) → FailsName c b n nothing

-- It is no module's name.
pub data FailsModule (c : Context) (b : Body) (n : List ℕ) : Cause → Type 0 where
  no_name : (k : Cause) → FailsName c b n k → FailsModule c b n k
  no_module : (t : Thing) → NameIs c b n t → NoneIs (λ i. t ≡ AType (Module i)) → FailsModule c b n (unfit t)

-- ---- expressions

mutual
  -- It is no thing.
  pub data FailsThing (c : Context) : Body → tree.Expr → Cause → Type 0 where
    bad_name : (b : Body) (n : List ℕ) (k : Cause) → FailsName c b n k → FailsThing c b (tree.Name n) k
    before_member : (b : Body) (e : tree.Expr) (n : List ℕ) (k : Cause) → FailsThing c b e k → FailsThing c b (tree.Arrow e n) k
    no_member : (b b' : Body) (e : tree.Expr) (n : List ℕ) (s : Thing) → Denotes c b e s b' → NoneIs (MemberIs c n s)
        → FailsThing c b (tree.Arrow e n) (unfit s)
    before_part : (b : Body) (e : tree.Expr) (n : List ℕ) (k : Cause) → FailsThing c b e k → FailsThing c b (tree.Dot e n) k
    no_part_of : (b b' : Body) (e : tree.Expr) (n : List ℕ) (s : Thing) → Denotes c b e s b' → NoneIs (PartIs c n s)
        → FailsThing c b (tree.Dot e n) (unfit s)
    no_value : (b : Body) (e : tree.Expr) (k : Cause) → is_path e ≡ false → FailsValue c b e k → FailsThing c b e k

  -- It has no value.
  pub data FailsValue (c : Context) : Body → tree.Expr → Cause → Type 0 where
    untyped : (b : Body) (e : tree.Expr) (k : Cause) → Fails c b e k → FailsValue c b e k
    no_answer : (b b' : Body) (e : tree.Expr) (x : Expr) → Types c b e x b' → type_of x ≡ Nothing → FailsValue c b e nothing

  -- It is no typed tree that may stand there.
  pub data Fails (c : Context) : Body → tree.Expr → Cause → Type 0 where
    no_form : (b : Body) (e : tree.Expr) (k : Cause) → FailsForm c b e k → Fails c b e k
    not_permitted : (b b' : Body) (e : tree.Expr) (x : Expr) (r : Refusal) → Has c b e x b' → Forbids c x r → Fails c b e (Refused r)

  -- It is none at all.
  pub data FailsForm (c : Context) : Body → tree.Expr → Cause → Type 0 where
    a_value : (b : Body) (e : tree.Expr) (es : tree.Exprs) (k : Cause) → values_in e ≡ Some es → changed_in e ≡ None → FailsSome c b es k
        → FailsForm c b e k
    what_changes : (b : Body) (e l : tree.Expr) (k : Cause) → changed_in e ≡ Some l → FailsPlace c b l k → FailsForm c b e k
    changed_by : (b b' : Body) (e l : tree.Expr) (es : tree.Exprs) (x : Expr) (k : Cause) → changed_in e ≡ Some l
        → values_in e ≡ Some (tree.MoreExprs l es) → HasValue c b l x b' → FailsSome c b' es k → FailsForm c b e k
    refused_form : (b b' : Body) (e : tree.Expr) (es : tree.Exprs) (xs : Exprs) (r : Refusal) → values_in e ≡ Some es
        → HaveValues c b es xs b' → RefusesForm c e xs r → NoneIs (Forms c e xs) → FailsForm c b e (Refused r)
    bad_path : (b : Body) (e : tree.Expr) (k : Cause) → is_path e ≡ true → FailsThing c b e k → FailsForm c b e k
    path_to_none : (b b' : Body) (e : tree.Expr) (t : Thing) → is_path e ≡ true → Denotes c b e t b' → NoneIs (λ x. t ≡ AValue x)
        → FailsForm c b e (unfit t)
    inside : (b : Body) (e : tree.Expr) (k : Cause) → Fails c b e k → FailsForm c b (tree.Group (one e)) k
    empty : (b : Body) → FailsForm c b (tree.Group tree.NoExprs) nothing
    sliced : (b : Body) (e : tree.Expr) (i j : tree.Part) (k : Cause) → FailsValue c b e k → FailsForm c b (tree.Slice e i j) k
    from_index : (b b' : Body) (e : tree.Expr) (i j : tree.Part) (x : Expr) (k : Cause) → HasValue c b e x b' → FailsPart c b' i k
        → FailsForm c b (tree.Slice e i j) k
    to_index : (b b' b'' : Body) (e : tree.Expr) (i j : tree.Part) (x : Expr) (u : Optional) (k : Cause) → HasValue c b e x b'
        → MayHave c b' i u b'' → FailsPart c b'' j k → FailsForm c b (tree.Slice e i j) k
    no_slice : (b b' b'' b''' : Body) (e : tree.Expr) (i j : tree.Part) (x : Expr) (u v : Optional) (t : Ty) → HasValue c b e x b'
        → MayHave c b' i u b'' → MayHave c b'' j v b''' → Hinders x u v t → NoneIs (Slices x u v)
        → FailsForm c b (tree.Slice e i j) (Refused (Clash t Int))
    length : (b : Body) (e : tree.Expr) (t : written.Ty) (k : Cause) → FailsValue c b e k → FailsForm c b (tree.Sized e t) k
    item_type : (b b' : Body) (e : tree.Expr) (t : written.Ty) (x : Expr) (k : Cause) → HasValue c b e x b' → FailsAsType c b' t k
        → FailsForm c b (tree.Sized e t) k
    no_length : (b b' : Body) (e : tree.Expr) (t : written.Ty) (u : Ty) (x : Expr) (r : Refusal) → HasValue c b e x b'
        → MeansPermitted c b' t u → NoLength x r → NoneIs (Sizes x u) → FailsForm c b (tree.Sized e t) (Refused r)
    carried_type : (b : Body) (t : written.Ty) (k : Cause) → FailsAsType c b t k → FailsForm c b (tree.Channel tree.Absent t) k
    with_room : (b : Body) (e : tree.Expr) (t : written.Ty) → FailsForm c b (tree.Channel (tree.Present e) t) nothing
    array_length : (b : Body) (n : tree.Part) (is : tree.Inits) (comma : Bool) (k : Cause) → FailsPart c b n k
        → FailsForm c b (tree.Filled n is comma) k
    an_item : (b b' : Body) (n : tree.Part) (is : tree.Inits) (comma : Bool) (u : Optional) (k : Cause) → MayHave c b n u b'
        → FailsFill c b' (pos 0) Absent is k → FailsForm c b (tree.Filled n is comma) k
    no_array : (b b' b'' : Body) (n : tree.Part) (is : tree.Inits) (comma : Bool) (u last : Optional) (js : Items) (r : Refusal)
        → MayHave c b n u b' → Fill c b' (pos 0) Absent is js last b'' → RefusesFill u js last r → NoneIs (Fills u js last)
        → FailsForm c b (tree.Filled n is comma) (Refused r)
    bad_module : (b : Body) (n : List ℕ) (e : tree.Expr) (k : Cause) → FailsModule c b n k → FailsForm c b (tree.Load n e) k
    path_of_module : (b : Body) (n : List ℕ) (e : tree.Expr) (i : ℕ) (k : Cause) → NameIs c b n (AType (Module i)) → FailsValue c b e k
        → FailsForm c b (tree.Load n e) k
    no_load : (b b' : Body) (n : List ℕ) (e : tree.Expr) (i : ℕ) (x : Expr) (r : Refusal) → NameIs c b n (AType (Module i))
        → HasValue c b e x b' → r ≡ Clash (type_of x) Chars → NoneIs (Loads i x) → FailsForm c b (tree.Load n e) (Refused r)
    function : (b : Body) (f : tree.Expr) (es : tree.Exprs) (k : Cause) → FailsThing c b f k → FailsForm c b (tree.Call f es) k
    argument : (b b' : Body) (f : tree.Expr) (es : tree.Exprs) (t : Thing) (k : Cause) → Denotes c b f t b' → IsNoPrint t
        → FailsSome c b' es k → FailsForm c b (tree.Call f es) k
    not_applied : (b b' b'' : Body) (f : tree.Expr) (es : tree.Exprs) (t : Thing) (xs : Exprs) (r : Refusal) → Denotes c b f t b'
        → IsNoPrint t → HaveValues c b' es xs b'' → RefusesApply c t xs r → NoneIs (Applies c t xs)
        → FailsForm c b (tree.Call f es) (Refused r)
    no_format : (b b' : Body) (f : tree.Expr) (es : tree.Exprs) (p : Printed) (m : Expr) → Denotes c b f (APrint p m) b'
        → format_in p es ≡ None → FailsForm c b (tree.Call f es) (Refused refusals.BadFormat)
    printed_value : (b b' : Body) (f : tree.Expr) (es others : tree.Exprs) (p : Printed) (m : Expr) (text : List ℕ) (k : Cause)
        → Denotes c b f (APrint p m) b' → format_in p es ≡ Some (text, others) → FailsSome c b' others k
        → FailsForm c b (tree.Call f es) k
    no_print : (b b' b'' : Body) (f : tree.Expr) (es others : tree.Exprs) (p : Printed) (m : Expr) (text : List ℕ) (xs ys : Exprs)
        (o : Output) (r : Refusal) → Denotes c b f (APrint p m) b' → format_in p es ≡ Some (text, others) → HaveValues c b' others xs b''
        → OutputIs p xs o ys → RefusesPrint c.fd o text ys r → NoneIs (Prints c.fd o m text ys)
        → FailsForm c b (tree.Call f es) (Refused r)
    left_side : (b : Body) (l r : tree.Expr) (k : Cause) → copied l r ≡ None → FailsPattern c b l k
        → FailsForm c b (tree.Assign assign.Assign l r) k
    to_nil : (b b' : Body) (l r : tree.Expr) → copied l r ≡ None → IsPattern c b l ToNothing b'
        → FailsForm c b (tree.Assign assign.Assign l r) (Refused refusals.NotPlace)
    right_side : (b b' : Body) (l r : tree.Expr) (p : Pattern) (k : Cause) → copied l r ≡ None → IsPattern c b l p b'
        → FailsValue c b' r k → FailsForm c b (tree.Assign assign.Assign l r) k
    not_assigned : (b b' b'' : Body) (l r : tree.Expr) (p : Pattern) (y : Expr) → copied l r ≡ None → IsPattern c b l p b'
        → HasValue c b' r y b'' → NoneIs (Assigns p y)
        → FailsForm c b (tree.Assign assign.Assign l r) (Refused (Clash (type_in p) (type_of y)))
    defined_value : (b : Body) (l r : tree.Expr) (k : Cause) → FailsValue c b r k → FailsForm c b (tree.Assign assign.Define l r) k
    unsettled : (b b' : Body) (l r : tree.Expr) (y : Expr) → HasValue c b r y b' → (IsSettled (type_of y) → ⊥)
        → FailsForm c b (tree.Assign assign.Define l r) (Refused (itself y))
    not_defined : (b b' : Body) (l r : tree.Expr) (y : Expr) (k : Cause) → HasValue c b r y b' → FailsDefine b' l (type_of y) k
        → FailsForm c b (tree.Assign assign.Define l r) k

  -- One of several has no value.
  pub data FailsSome (c : Context) : Body → tree.Exprs → Cause → Type 0 where
    here : (b : Body) (e : tree.Expr) (es : tree.Exprs) (k : Cause) → FailsValue c b e k → FailsSome c b (tree.MoreExprs e es) k
    later : (b b' : Body) (e : tree.Expr) (es : tree.Exprs) (x : Expr) (k : Cause) → HasValue c b e x b' → FailsSome c b' es k
        → FailsSome c b (tree.MoreExprs e es) k

  pub data FailsPart (c : Context) : Body → tree.Part → Cause → Type 0 where
    there : (b : Body) (e : tree.Expr) (k : Cause) → FailsValue c b e k → FailsPart c b (tree.Present e) k

  -- One of an array's items fails: a value; an index that is no int, or not constant; a second `*`.
  pub data FailsFill (c : Context) : Body → (next : ℤ) → (rest : Optional) → tree.Inits → Cause → Type 0 where
    item : (b : Body) (n : ℤ) (rest : Optional) (e : tree.Expr) (is : tree.Inits) (k : Cause) → FailsValue c b e k
        → FailsFill c b n rest (tree.MoreInits (tree.Next e) is) k
    behind_item : (b b' : Body) (n : ℤ) (rest : Optional) (e : tree.Expr) (is : tree.Inits) (x : Expr) (k : Cause) → HasValue c b e x b'
        → FailsFill c b' (n +ℤ pos 1) rest is k → FailsFill c b n rest (tree.MoreInits (tree.Next e) is) k
    index : (b : Body) (n : ℤ) (rest : Optional) (i e : tree.Expr) (is : tree.Inits) (k : Cause) → FailsValue c b i k
        → FailsFill c b n rest (tree.MoreInits (tree.At i e) is) k
    no_int : (b b' : Body) (n : ℤ) (rest : Optional) (i e : tree.Expr) (is : tree.Inits) (y : Expr) → HasValue c b i y b'
        → type_of y ≢ Int → FailsFill c b n rest (tree.MoreInits (tree.At i e) is) (Refused (Clash (type_of y) Int))
    not_constant : (b b' : Body) (n : ℤ) (rest : Optional) (i e : tree.Expr) (is : tree.Inits) (y : Expr) → HasValue c b i y b'
        → NoneIs (λ m. value_of y ≡ Some (constant.Number m)) → FailsFill c b n rest (tree.MoreInits (tree.At i e) is) NotConstant
    indexed : (b b' : Body) (n m : ℤ) (rest : Optional) (i e : tree.Expr) (is : tree.Inits) (y : Expr) (k : Cause) → HasValue c b i y b'
        → value_of y ≡ Some (constant.Number m) → FailsValue c b' e k → FailsFill c b n rest (tree.MoreInits (tree.At i e) is) k
    behind_indexed : (b b' b'' : Body) (n m : ℤ) (rest : Optional) (i e : tree.Expr) (is : tree.Inits) (y x : Expr) (k : Cause)
        → HasValue c b i y b' → value_of y ≡ Some (constant.Number m) → HasValue c b' e x b'' → FailsFill c b'' (m +ℤ pos 1) rest is k
        → FailsFill c b n rest (tree.MoreInits (tree.At i e) is) k
    second : (b : Body) (n : ℤ) (y : Expr) (e : tree.Expr) (is : tree.Inits)
        → FailsFill c b n (Present y) (tree.MoreInits (tree.Rest e) is) Twice
    all_others : (b : Body) (n : ℤ) (e : tree.Expr) (is : tree.Inits) (k : Cause) → FailsValue c b e k
        → FailsFill c b n Absent (tree.MoreInits (tree.Rest e) is) k
    behind_others : (b b' : Body) (n : ℤ) (e : tree.Expr) (is : tree.Inits) (x : Expr) (k : Cause) → HasValue c b e x b'
        → FailsFill c b' n (Present x) is k → FailsFill c b n Absent (tree.MoreInits (tree.Rest e) is) k

  -- What stands where a place is asked for has no value. The name of something else than a value, such as a function or a type, is no
  -- place.
  pub data FailsPlace (c : Context) : Body → tree.Expr → Cause → Type 0 where
    enclosed : (b : Body) (e : tree.Expr) (k : Cause) → FailsPlace c b e k → FailsPlace c b (tree.Group (one e)) k
    names_none : (b b' : Body) (e : tree.Expr) (t : Thing) → is_path e ≡ true → Denotes c b e t b' → NoneIs (λ x. t ≡ AValue x)
        → FailsPlace c b e (Refused refusals.NotPlace)
    names_nothing : (b : Body) (e : tree.Expr) (k : Cause) → is_path e ≡ true → FailsThing c b e k → FailsPlace c b e k
    named_value : (b b' : Body) (e : tree.Expr) (x : Expr) (k : Cause) → is_path e ≡ true → Denotes c b e (AValue x) b'
        → FailsValue c b e k → FailsPlace c b e k
    unnamed : (b : Body) (e : tree.Expr) (k : Cause) → is_path e ≡ false → is_enclosed e ≡ false → FailsValue c b e k
        → FailsPlace c b e k

  -- A left side is no pattern: it has no value, or is no place.
  pub data FailsPattern (c : Context) : Body → tree.Expr → Cause → Type 0 where
    in_it : (b : Body) (e : tree.Expr) (k : Cause) → FailsPattern c b e k → FailsPattern c b (tree.Group (one e)) k
    a_pattern : (b : Body) (e f : tree.Expr) (es : tree.Exprs) (k : Cause) → FailsPatterns c b (tree.MoreExprs e (tree.MoreExprs f es)) k
        → FailsPattern c b (tree.Group (tree.MoreExprs e (tree.MoreExprs f es))) k
    no_left : (b : Body) (e : tree.Expr) (k : Cause) → is_pattern e ≡ false → FailsPlace c b e k → FailsPattern c b e k
    no_place : (b b' : Body) (e : tree.Expr) (x : Expr) → is_pattern e ≡ false → HasValue c b e x b' → (IsPlace x → ⊥)
        → FailsPattern c b e (Refused refusals.NotPlace)
    no_pattern : (b : Body) → FailsPattern c b (tree.Group tree.NoExprs) nothing

  pub data FailsPatterns (c : Context) : Body → tree.Exprs → Cause → Type 0 where
    first_pattern : (b : Body) (e : tree.Expr) (es : tree.Exprs) (k : Cause) → FailsPattern c b e k
        → FailsPatterns c b (tree.MoreExprs e es) k
    later_pattern : (b b' : Body) (e : tree.Expr) (es : tree.Exprs) (p : Pattern) (k : Cause) → IsPattern c b e p b'
        → FailsPatterns c b' es k → FailsPatterns c b (tree.MoreExprs e es) k
