-- What the parts of an expression are, by its form.
use Rattle.std.proofs.Common.{◌≡◌, refl, sym, ◌∙◌, subst, ℕ, ℤ, ◌+ℤ◌, pos, Bool, true, false, List, None, Some, ap}
use Rattle.std.specs.Prelude.{◌≢◌}
use Rattle.std.proofs.lemmas.Bool.{false≢true}
use Rattle.std.proofs.lemmas.Option.{none-some, same_Some}
use Rattle.limbo_types.specs.Types.{Ty, Int, Nothing, Module}
use Rattle.limbo_tree.specs.declared.operators.AssignOp.{AssignOp}
use Rattle.limbo_tree.specs.declared.operators.AssignOp.TheVariants as assign
use Rattle.limbo_tree.specs.declared.operators.UnaryOp.TheVariants as before
use Rattle.limbo_tree.specs.Exprs as tree
use Rattle.limbo_tree.specs.Types as written
use Rattle.limbo_typed.specs.declared.stmt.Constant.TheVariants as constant
use Rattle.limbo_typed.specs.declared.print.Printed.{Printed}
use Rattle.limbo_typed.specs.Typed.{Expr, Of, Exprs, NoExprs, MoreExprs, Optional, Absent, Present, Items, NoItems, MoreItems, Read, Place}
use Rattle.limbo_typed.specs.Typed.{Pattern, ToPlace, ToNothing, ToParts, Patterns, NoPatterns, MorePatterns}
use Rattle.limbo_typed.specs.Sound.{type_of, IsSettled}
use Rattle.limbo_defining.specs.limbo_context.Context.{Context, Body}
use Rattle.limbo_folding.specs.Folding.{value_of}
use Rattle.limbo_assigning.specs.Assigning.{Assigns, assignment}
use Rattle.limbo_value_forms.specs.limbo_places.Slices.{Slices}
use Rattle.limbo_value_forms.specs.limbo_channels.Loading.{Loads}
use Rattle.limbo_value_forms.specs.limbo_literals.Literals.{Fills, Sizes, Makes}
use Rattle.limbo_applying.specs.limbo_calls.Prints.{Prints, Output}
use Rattle.limbo_applying.specs.limbo_things.Things.{Thing, AValue, AType, APrint, NameIs, MemberIs, PartIs}
use Rattle.limbo_applying.specs.Applying.{Applies}
use Rattle.limbo_written.specs.limbo_permits.Permits.{IsPermitted}
use Rattle.limbo_written.specs.Written.{MeansPermitted}
use Rattle.limbo_value_forms.specs.Forms.{one, values_in, given_by, copied, Forms}
use Rattle.limbo_defining.specs.Defining.{Defines}
use Rattle.limbo_typing.specs.Typing as typing
use Rattle.limbo_typing.specs.Typing.{is_path, is_pattern, format_in, OutputIs, Denotes, HasValue, Types, Has, HaveValues, MayHave, Fill}
use Rattle.limbo_typing.specs.Typing.{IsPattern, ArePatterns}
use Rattle.limbo_typing.specs.Failing.{changed, changed_in}

no_path : false ≡ true → ⊥
no_path e = false≢true e

-- ---- the parts of each form

-- `base[from:to]`
pub record SliceOf (c : Context) (b : Body) (e : tree.Expr) (i j : tree.Part) (z : Expr) (d : Body) : Type 0 where
  pub base : Expr
  pub from : Optional
  pub to : Optional
  pub b1 : Body
  pub b2 : Body
  pub has_base : HasValue c b e base b1
  pub has_from : MayHave c b1 i from b2
  pub has_to : MayHave c b2 j to d
  pub slices : Slices base from to z

-- `array[length] of t`
pub record LengthOf (c : Context) (b : Body) (e : tree.Expr) (t : written.Ty) (z : Expr) (d : Body) : Type 0 where
  pub ty : Ty
  pub length : Expr
  pub has : HasValue c b e length d
  pub means : MeansPermitted c d t ty
  pub sizes : Sizes length ty z

-- `array[length] of { items }`
pub record ItemsOf (c : Context) (b : Body) (n : tree.Part) (is : tree.Inits) (z : Expr) (d : Body) : Type 0 where
  pub length : Optional
  pub items : Items
  pub last : Optional
  pub b1 : Body
  pub has : MayHave c b n length b1
  pub fill : Fill c b1 (pos 0) Absent is items last d
  pub fills : Fills length items last z

-- `load name path`
pub record LoadOf (c : Context) (b : Body) (n : List ℕ) (e : tree.Expr) (z : Expr) (d : Body) : Type 0 where
  pub interface : ℕ
  pub path : Expr
  pub named : NameIs c b n (AType (Module interface))
  pub has : HasValue c b e path d
  pub loads : Loads interface path z

-- `function(arguments)`, and a print
pub record CallOf (c : Context) (b : Body) (f : tree.Expr) (es : tree.Exprs) (z : Expr) (d : Body) : Type 0 where
  pub thing : Thing
  pub values : Exprs
  pub b1 : Body
  pub denotes : Denotes c b f thing b1
  pub have : HaveValues c b1 es values d
  pub applies : Applies c thing values z

pub record PrintOf (c : Context) (b : Body) (f : tree.Expr) (es : tree.Exprs) (z : Expr) (d : Body) : Type 0 where
  pub which : Printed
  pub instance : Expr
  pub text : List ℕ
  pub others : tree.Exprs
  pub values : Exprs
  pub printed : Exprs
  pub output : Output
  pub b1 : Body
  pub denotes : Denotes c b f (APrint which instance) b1
  pub format : format_in which es ≡ Some (text, others)
  pub have : HaveValues c b1 others values d
  pub is : OutputIs which values output printed
  pub prints : Prints c.fd output instance text printed z

pub data Called (c : Context) (b : Body) (f : tree.Expr) (es : tree.Exprs) (z : Expr) (d : Body) : Type 0 where
  a_call : CallOf c b f es z d → Called c b f es z d
  a_print : PrintOf c b f es z d → Called c b f es z d

-- `left = right`
pub record AssignmentOf (c : Context) (b : Body) (l r : tree.Expr) (z : Expr) (d : Body) : Type 0 where
  pub pattern : Pattern
  pub value : Expr
  pub b1 : Body
  pub left : IsPattern c b l pattern b1
  pub somewhere : pattern ≢ ToNothing
  pub right : HasValue c b1 r value d
  pub assigns : Assigns pattern value z

-- `left := right`
pub record DefinitionOf (c : Context) (b : Body) (l r : tree.Expr) (z : Expr) (d : Body) : Type 0 where
  pub pattern : Pattern
  pub value : Expr
  pub b1 : Body
  pub right : HasValue c b r value b1
  pub settled : IsSettled (type_of value)
  pub defines : Defines b1 l (type_of value) pattern d
  pub gives : z ≡ assignment pattern value

-- an item with an index, and those behind it
pub record ItemAt (c : Context) (b : Body) (i e : tree.Expr) (is : tree.Inits) (rest : Optional) (ks : Items) (last : Optional) (d : Body)
    : Type 0 where
  pub index : ℤ
  pub at : Expr
  pub item : Expr
  pub items : Items
  pub b1 : Body
  pub b2 : Body
  pub has_index : HasValue c b i at b1
  pub is_int : type_of at ≡ Int
  pub is_number : value_of at ≡ Some (constant.Number index)
  pub has_item : HasValue c b1 e item b2
  pub others : Fill c b2 (index +ℤ pos 1) rest is items last d
  pub gives : ks ≡ MoreItems index item items

-- ---- each form has these parts

path_has_none : (e : tree.Expr) (es : tree.Exprs) → is_path e ≡ true → values_in e ≡ Some es → ⊥
path_has_none (tree.Name n) es p q = none-some es q
path_has_none (tree.Arrow e n) es p q = none-some es q
path_has_none (tree.Dot e n) es p q = none-some es q
path_has_none _ es p q = no_path p

-- what is changed is the first of the values
changed_first : (o : AssignOp) (l r m : tree.Expr) → changed o l ≡ Some m → given_by o l r ≡ Some (tree.MoreExprs m (one r))
changed_first assign.Assign l r m q = absurd (none-some m q)
changed_first assign.Define l r m q = absurd (none-some m q)
changed_first assign.Send l r m q = absurd (none-some m q)
changed_first _ l r m q = ap (λ (v : tree.Expr). Some (tree.MoreExprs v (one r))) (same_Some l m q)

only_changed : (l m : tree.Expr) → Some l ≡ Some m → Some (one l) ≡ Some (one m)
only_changed l m q = ap (λ (v : tree.Expr). Some (one v)) (same_Some l m q)

pub changed_values : (e m : tree.Expr) → changed_in e ≡ Some m → (es : tree.Exprs) × (values_in e ≡ Some (tree.MoreExprs m es))
changed_values (tree.Unary before.Increment e) m q = (tree.NoExprs, only_changed e m q)
changed_values (tree.Unary before.Decrement e) m q = (tree.NoExprs, only_changed e m q)
changed_values (tree.Unary o e) m q = absurd (none-some m q)
changed_values (tree.Postfix o e) m q = (tree.NoExprs, only_changed e m q)
changed_values (tree.Assign o l r) m q = (one r, changed_first o l r m q)
changed_values _ m q = absurd (none-some m q)

module _ (c : Context) where
  pub values_of : (b b' : Body) (e : tree.Expr) (es : tree.Exprs) (z : Expr) → values_in e ≡ Some es → Has c b e z b'
      → (xs : Exprs) × HaveValues c b es xs b' × Forms c e xs z
  values_of _ _ _ es _ q (typing.of_values b b' e fs xs w r h f) =
      (xs, subst (λ (v : tree.Exprs). HaveValues c b v xs b') (same_Some fs es (sym r ∙ q)) h, f)
  values_of _ _ _ es _ q (typing.of_path b b' e x p d) = absurd (path_has_none e es p q)
  values_of _ _ _ es _ q (typing.in_parentheses b b' e x h) = absurd (none-some es q)
  values_of _ _ _ es _ q (typing.of_slice b b' b'' d e i j x w u v h f g s) = absurd (none-some es q)
  values_of _ _ _ es _ q (typing.of_length b b' e t u x w h m s) = absurd (none-some es q)
  values_of _ _ _ es _ q (typing.of_channel b t u w m s) = absurd (none-some es q)
  values_of _ _ _ es _ q (typing.of_items b b' b'' n is comma u last js w h f s) = absurd (none-some es q)
  values_of _ _ _ es _ q (typing.of_load b b' n e i x w m h s) = absurd (none-some es q)
  values_of _ _ _ es _ q (typing.of_call b b' b'' f fs t xs w d h s) = absurd (none-some es q)
  values_of _ _ _ es _ q (typing.of_print b b' b'' f fs others p m text xs ys o w d e h i s) = absurd (none-some es q)
  values_of _ _ _ es _ q (typing.of_assignment b b' b'' l r p y w n i m h s) = absurd (none-some es (sym n ∙ q))
  values_of _ _ _ es _ q (typing.of_definition b b' b'' l r p y h i s) = absurd (none-some es q)

  pub path_of : (b b' : Body) (e : tree.Expr) (z : Expr) → is_path e ≡ true → Has c b e z b' → Denotes c b e (AValue z) b'
  path_of _ _ _ _ q (typing.of_values b b' e fs xs w r h f) = absurd (path_has_none e fs q r)
  path_of _ _ _ _ q (typing.of_path b b' e x p d) = d
  path_of _ _ _ _ q (typing.in_parentheses b b' e x h) = absurd (no_path q)
  path_of _ _ _ _ q (typing.of_slice b b' b'' d e i j x w u v h f g s) = absurd (no_path q)
  path_of _ _ _ _ q (typing.of_length b b' e t u x w h m s) = absurd (no_path q)
  path_of _ _ _ _ q (typing.of_channel b t u w m s) = absurd (no_path q)
  path_of _ _ _ _ q (typing.of_items b b' b'' n is comma u last js w h f s) = absurd (no_path q)
  path_of _ _ _ _ q (typing.of_load b b' n e i x w m h s) = absurd (no_path q)
  path_of _ _ _ _ q (typing.of_call b b' b'' f fs t xs w d h s) = absurd (no_path q)
  path_of _ _ _ _ q (typing.of_print b b' b'' f fs others p m text xs ys o w d e h i s) = absurd (no_path q)
  path_of _ _ _ _ q (typing.of_assignment b b' b'' l r p y w n i m h s) = absurd (no_path q)
  path_of _ _ _ _ q (typing.of_definition b b' b'' l r p y h i s) = absurd (no_path q)

  pub parenthesised : (b b' : Body) (e : tree.Expr) (z : Expr) → Has c b (tree.Group (one e)) z b' → Types c b e z b'
  parenthesised _ _ _ _ (typing.of_values b b' e fs xs w r h f) = absurd (none-some fs r)
  parenthesised _ _ _ _ (typing.of_path b b' e x p d) = absurd (no_path p)
  parenthesised _ _ _ _ (typing.in_parentheses b b' e x h) = h

  pub nothing_in : (b b' : Body) (z : Expr) → Has c b (tree.Group tree.NoExprs) z b' → ⊥
  nothing_in _ _ _ (typing.of_values b b' e fs xs w r h f) = none-some fs r
  nothing_in _ _ _ (typing.of_path b b' e x p d) = no_path p

  pub slice_of : (b b' : Body) (e : tree.Expr) (i j : tree.Part) (z : Expr) → Has c b (tree.Slice e i j) z b' → SliceOf c b e i j z b'
  slice_of _ _ _ _ _ _ (typing.of_values b b' e fs xs w r h f) = absurd (none-some fs r)
  slice_of _ _ _ _ _ _ (typing.of_path b b' e x p d) = absurd (no_path p)
  slice_of _ _ _ _ _ _ (typing.of_slice b b' b'' d e i j x w u v h f g s) = record {
    base = x;
    from = u;
    to = v;
    b1 = b';
    b2 = b'';
    has_base = h;
    has_from = f;
    has_to = g;
    slices = s;
  }

  pub length_of : (b b' : Body) (e : tree.Expr) (t : written.Ty) (z : Expr) → Has c b (tree.Sized e t) z b' → LengthOf c b e t z b'
  length_of _ _ _ _ _ (typing.of_values b b' e fs xs w r h f) = absurd (none-some fs r)
  length_of _ _ _ _ _ (typing.of_path b b' e x p d) = absurd (no_path p)
  length_of _ _ _ _ _ (typing.of_length b b' e t u x w h m s) = record { ty = u; length = x; has = h; means = m; sizes = s }

  pub channel_of : (b b' : Body) (t : written.Ty) (z : Expr) → Has c b (tree.Channel tree.Absent t) z b'
      → (u : Ty) × (b ≡ b') × MeansPermitted c b t u × Makes u z
  channel_of _ _ _ _ (typing.of_values b b' e fs xs w r h f) = absurd (none-some fs r)
  channel_of _ _ _ _ (typing.of_path b b' e x p d) = absurd (no_path p)
  channel_of _ _ _ _ (typing.of_channel b t u w m s) = (u, refl, m, s)

  pub no_room : (b b' : Body) (e : tree.Expr) (t : written.Ty) (z : Expr) → Has c b (tree.Channel (tree.Present e) t) z b' → ⊥
  no_room _ _ _ _ _ (typing.of_values b b' e fs xs w r h f) = none-some fs r
  no_room _ _ _ _ _ (typing.of_path b b' e x p d) = no_path p

  pub items_of : (b b' : Body) (n : tree.Part) (is : tree.Inits) (comma : Bool) (z : Expr) → Has c b (tree.Filled n is comma) z b'
      → ItemsOf c b n is z b'
  items_of _ _ _ _ _ _ (typing.of_values b b' e fs xs w r h f) = absurd (none-some fs r)
  items_of _ _ _ _ _ _ (typing.of_path b b' e x p d) = absurd (no_path p)
  items_of _ _ _ _ _ _ (typing.of_items b b' b'' n is comma u last js w h f s) =
      record { length = u; items = js; last = last; b1 = b'; has = h; fill = f; fills = s }

  pub load_of : (b b' : Body) (n : List ℕ) (e : tree.Expr) (z : Expr) → Has c b (tree.Load n e) z b' → LoadOf c b n e z b'
  load_of _ _ _ _ _ (typing.of_values b b' e fs xs w r h f) = absurd (none-some fs r)
  load_of _ _ _ _ _ (typing.of_path b b' e x p d) = absurd (no_path p)
  load_of _ _ _ _ _ (typing.of_load b b' n e i x w m h s) = record { interface = i; path = x; named = m; has = h; loads = s }

  pub call_of : (b b' : Body) (f : tree.Expr) (es : tree.Exprs) (z : Expr) → Has c b (tree.Call f es) z b' → Called c b f es z b'
  call_of _ _ _ _ _ (typing.of_values b b' e fs xs w r h f) = absurd (none-some fs r)
  call_of _ _ _ _ _ (typing.of_path b b' e x p d) = absurd (no_path p)
  call_of _ _ _ _ _ (typing.of_call b b' b'' f es t xs w d h s) =
      a_call record { thing = t; values = xs; b1 = b'; denotes = d; have = h; applies = s }
  call_of _ _ _ _ _ (typing.of_print b b' b'' f es others p m text xs ys o w d e h i s) = a_print record {
    which = p;
    instance = m;
    text = text;
    others = others;
    values = xs;
    printed = ys;
    output = o;
    b1 = b';
    denotes = d;
    format = e;
    have = h;
    is = i;
    prints = s;
  }

  pub assignment_of : (b b' : Body) (l r : tree.Expr) (z : Expr) → copied l r ≡ None → Has c b (tree.Assign assign.Assign l r) z b'
      → AssignmentOf c b l r z b'
  assignment_of _ _ _ _ _ n (typing.of_values b b' e fs xs w r h f) = absurd (none-some fs (sym n ∙ r))
  assignment_of _ _ _ _ _ n (typing.of_path b b' e x p d) = absurd (no_path p)
  assignment_of _ _ _ _ _ n (typing.of_assignment b b' b'' l r p y w m i k h s) =
      record { pattern = p; value = y; b1 = b'; left = i; somewhere = k; right = h; assigns = s }

  pub definition_of : (b b' : Body) (l r : tree.Expr) (z : Expr) → Has c b (tree.Assign assign.Define l r) z b' → DefinitionOf c b l r z b'
  definition_of _ _ _ _ _ (typing.of_values b b' e fs xs w r h f) = absurd (none-some fs r)
  definition_of _ _ _ _ _ (typing.of_path b b' e x p d) = absurd (no_path p)
  definition_of _ _ _ _ _ (typing.of_definition b b' b'' l r p y h i s) =
      record { pattern = p; value = y; b1 = b'; right = h; settled = i; defines = s; gives = refl }

  -- ---- values, and what is permitted

  pub typed_value : (b b' : Body) (e : tree.Expr) (x : Expr) → HasValue c b e x b' → Types c b e x b'
  typed_value _ _ _ _ (typing.has_value b b' e x t n) = t

  pub answers : (b b' : Body) (e : tree.Expr) (x : Expr) → HasValue c b e x b' → type_of x ≢ Nothing
  answers _ _ _ _ (typing.has_value b b' e x t n) = n

  pub has_form : (b b' : Body) (e : tree.Expr) (x : Expr) → Types c b e x b' → Has c b e x b'
  has_form _ _ _ _ (typing.permitted b b' e x h p) = h

  pub is_permitted : (b b' : Body) (e : tree.Expr) (x : Expr) → Types c b e x b' → IsPermitted c x
  is_permitted _ _ _ _ (typing.permitted b b' e x h p) = p

  -- ---- things

  pub name_of : (b b' : Body) (n : List ℕ) (t : Thing) → Denotes c b (tree.Name n) t b' → NameIs c b n t × (b ≡ b')
  name_of _ _ _ _ (typing.by_name b n t h) = (h, refl)
  name_of _ _ _ _ (typing.by_value b b' e x p h) = absurd (no_path (sym p))

  pub member_of : (b b' : Body) (e : tree.Expr) (n : List ℕ) (t : Thing) → Denotes c b (tree.Arrow e n) t b'
      → (s : Thing) × Denotes c b e s b' × MemberIs c n s t
  member_of _ _ _ _ _ (typing.by_member b b' e n s t d h) = (s, d, h)
  member_of _ _ _ _ _ (typing.by_value b b' e x p h) = absurd (no_path (sym p))

  pub part_of : (b b' : Body) (e : tree.Expr) (n : List ℕ) (t : Thing) → Denotes c b (tree.Dot e n) t b'
      → (s : Thing) × Denotes c b e s b' × PartIs c n s t
  part_of _ _ _ _ _ (typing.by_part b b' e n s t d h) = (s, d, h)
  part_of _ _ _ _ _ (typing.by_value b b' e x p h) = absurd (no_path (sym p))

  pub value_in : (b b' : Body) (e : tree.Expr) (t : Thing) → is_path e ≡ false → Denotes c b e t b'
      → (x : Expr) × (t ≡ AValue x) × HasValue c b e x b'
  value_in _ _ _ _ q (typing.by_name b n t h) = absurd (no_path (sym q))
  value_in _ _ _ _ q (typing.by_member b b' e n s t d h) = absurd (no_path (sym q))
  value_in _ _ _ _ q (typing.by_part b b' e n s t d h) = absurd (no_path (sym q))
  value_in _ _ _ _ q (typing.by_value b b' e x p h) = (x, refl, h)

  -- ---- several values, and a part that may be absent

  pub no_more_values : (b b' : Body) (xs : Exprs) → HaveValues c b tree.NoExprs xs b' → (xs ≡ NoExprs) × (b ≡ b')
  no_more_values _ _ _ (typing.no_values b) = (refl, refl)

  pub more_values : (b b' : Body) (e : tree.Expr) (es : tree.Exprs) (zs : Exprs) → HaveValues c b (tree.MoreExprs e es) zs b'
      → (b1 : Body) × (x : Expr) × (xs : Exprs) × (zs ≡ MoreExprs x xs) × HasValue c b e x b1 × HaveValues c b1 es xs b'
  more_values _ _ _ _ _ (typing.values b b' b'' e es x xs h hs) = (b', x, xs, refl, h, hs)

  pub absent_part : (b b' : Body) (u : Optional) → MayHave c b tree.Absent u b' → (u ≡ Absent) × (b ≡ b')
  absent_part _ _ _ (typing.no_part b) = (refl, refl)

  pub present_part : (b b' : Body) (e : tree.Expr) (u : Optional) → MayHave c b (tree.Present e) u b'
      → (x : Expr) × (u ≡ Present x) × HasValue c b e x b'
  present_part _ _ _ _ (typing.a_part b b' e x h) = (x, refl, h)

  -- ---- items

  pub no_more_items : (b b' : Body) (n : ℤ) (rest last : Optional) (js : Items) → Fill c b n rest tree.NoInits js last b'
      → (js ≡ NoItems) × (last ≡ rest) × (b ≡ b')
  no_more_items _ _ _ _ _ _ (typing.no_items b n rest) = (refl, refl, refl)

  pub next_in : (b b' : Body) (n : ℤ) (rest last : Optional) (e : tree.Expr) (is : tree.Inits) (ks : Items)
      → Fill c b n rest (tree.MoreInits (tree.Next e) is) ks last b'
      → (b1 : Body) × (x : Expr) × (js : Items) × (ks ≡ MoreItems n x js) × HasValue c b e x b1
      × Fill c b1 (n +ℤ pos 1) rest is js last b'
  next_in _ _ _ _ _ _ _ _ (typing.next_item b b' b'' n rest last e is x js h f) = (b', x, js, refl, h, f)

  pub at_in : (b b' : Body) (n : ℤ) (rest last : Optional) (i e : tree.Expr) (is : tree.Inits) (ks : Items)
      → Fill c b n rest (tree.MoreInits (tree.At i e) is) ks last b' → ItemAt c b i e is rest ks last b'
  at_in _ _ _ _ _ _ _ _ _ (typing.item_at b b' b'' d n k rest last i e is y x js h t v g f) = record {
    index = k;
    at = y;
    item = x;
    items = js;
    b1 = b';
    b2 = b'';
    has_index = h;
    is_int = t;
    is_number = v;
    has_item = g;
    others = f;
    gives = refl;
  }

  pub rest_in : (b b' : Body) (n : ℤ) (rest last : Optional) (e : tree.Expr) (is : tree.Inits) (js : Items)
      → Fill c b n rest (tree.MoreInits (tree.Rest e) is) js last b'
      → (b1 : Body) × (x : Expr) × (rest ≡ Absent) × HasValue c b e x b1 × Fill c b1 n (Present x) is js last b'
  rest_in _ _ _ _ _ _ _ _ (typing.rest_of b b' b'' n last e is x js h f) = (b', x, refl, h, f)

  -- ---- patterns

  pub nowhere : (b b' : Body) (p : Pattern) → IsPattern c b tree.Nil p b' → (p ≡ ToNothing) × (b ≡ b')
  nowhere _ _ _ (typing.to_nothing b) = (refl, refl)
  nowhere _ _ _ (typing.to_place b b' e t p q h) = absurd (no_path (sym q))

  pub pattern_in : (b b' : Body) (e : tree.Expr) (p : Pattern) → IsPattern c b (tree.Group (one e)) p b' → IsPattern c b e p b'
  pattern_in _ _ _ _ (typing.in_one b b' e p h) = h
  pattern_in _ _ _ _ (typing.to_place b b' e t p q h) = absurd (no_path (sym q))

  pub no_pattern_in : (b b' : Body) (p : Pattern) → IsPattern c b (tree.Group tree.NoExprs) p b' → ⊥
  no_pattern_in _ _ _ (typing.to_place b b' e t p q h) = no_path (sym q)

  pub patterns_in : (b b' : Body) (e f : tree.Expr) (es : tree.Exprs) (p : Pattern)
      → IsPattern c b (tree.Group (tree.MoreExprs e (tree.MoreExprs f es))) p b'
      → (ps : Patterns) × (p ≡ ToParts ps) × ArePatterns c b (tree.MoreExprs e (tree.MoreExprs f es)) ps b'
  patterns_in _ _ _ _ _ _ (typing.to_parts b b' e f es ps h) = (ps, refl, h)
  patterns_in _ _ _ _ _ _ (typing.to_place b b' e t p q h) = absurd (no_path (sym q))

  pub place_in : (b b' : Body) (e : tree.Expr) (z : Pattern) → is_pattern e ≡ false → IsPattern c b e z b'
      → (t : Ty) × (p : Place) × (z ≡ ToPlace p) × HasValue c b e (Of t (Read p)) b'
  place_in _ _ _ _ r (typing.to_nothing b) = absurd (no_path (sym r))
  place_in _ _ _ _ r (typing.in_one b b' e p h) = absurd (no_path (sym r))
  place_in _ _ _ _ r (typing.to_parts b b' e f es ps h) = absurd (no_path (sym r))
  place_in _ _ _ _ r (typing.to_place b b' e t p q h) = (t, p, refl, h)

  pub no_more_patterns : (b b' : Body) (ps : Patterns) → ArePatterns c b tree.NoExprs ps b' → (ps ≡ NoPatterns) × (b ≡ b')
  no_more_patterns _ _ _ (typing.no_patterns b) = (refl, refl)

  pub more_patterns : (b b' : Body) (e : tree.Expr) (es : tree.Exprs) (qs : Patterns) → ArePatterns c b (tree.MoreExprs e es) qs b'
      → (b1 : Body) × (p : Pattern) × (ps : Patterns) × (qs ≡ MorePatterns p ps) × IsPattern c b e p b1 × ArePatterns c b1 es ps b'
  more_patterns _ _ _ _ _ (typing.more_patterns b b' b'' e es p ps h hs) = (b', p, ps, refl, h, hs)
