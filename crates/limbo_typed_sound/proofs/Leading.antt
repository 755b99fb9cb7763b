-- Bodies are changed by what `:=` declares alone: what holds from a body to what it is behind such a declaration, holds behind expressions.
use Rattle.std.proofs.Common.{ℤ, ◌+ℤ◌, pos}
use Rattle.limbo_types.specs.Types.{Ty}
use Rattle.limbo_tree.specs.Exprs as tree
use Rattle.limbo_typed.specs.Typed.{Expr, Of, Exprs, Optional, Absent, Present, Items, Read, Pattern, Patterns}
use Rattle.limbo_typed.specs.Sound.{type_of, IsSettled}
use Rattle.limbo_typing.specs.limbo_things.Things.{Thing, AValue, APrint}
use Rattle.limbo_context.specs.Context.{Context, Body}
use Rattle.limbo_permits.specs.Permits.{Permits}
use Rattle.limbo_defining.specs.Defining.{Defines}
use Rattle.limbo_typing.specs.Typing as typing
use Rattle.limbo_typing.specs.Typing.{Denotes, HasValue, Types, Has, HaveValues, MayHave, Fill, IsPattern, ArePatterns}

-- the type of a value is permitted
pub value_permitted : (c : Context) (b : Body) (e : tree.Expr) (x : Expr) (d : Body) → HasValue c b e x d → Permits c (type_of x)
value_permitted c _ _ _ _ (typing.has_value b d e x h n) = go b e x d h
  where
    go : (b : Body) (e : tree.Expr) (x : Expr) (d : Body) → Types c b e x d → Permits c (type_of x)
    go _ _ _ _ (typing.permitted b d e x h p) = p.type

module _ (c : Context) (Leads : Body → Body → Type 0) (stays : (b : Body) → Leads b b)
    (goes_on : (b d e : Body) → Leads b d → Leads d e → Leads b e)
    (defines : (b d : Body) (e : tree.Expr) (t : Ty) (p : Pattern) → Permits c t → IsSettled t → Defines b e t p d → Leads b d) where
  mutual
    pub of_thing : (b : Body) (e : tree.Expr) (t : Thing) (d : Body) → Denotes c b e t d → Leads b d
    of_thing _ _ _ _ (typing.by_name b n t m) = stays b
    of_thing _ _ _ _ (typing.by_member b d e n s t h m) = of_thing b e s d h
    of_thing _ _ _ _ (typing.by_part b d e n s t h m) = of_thing b e s d h
    of_thing _ _ _ _ (typing.by_value b d e x q h) = of_value b e x d h

    pub of_value : (b : Body) (e : tree.Expr) (x : Expr) (d : Body) → HasValue c b e x d → Leads b d
    of_value _ _ _ _ (typing.has_value b d e x h n) = of_typed b e x d h

    pub of_typed : (b : Body) (e : tree.Expr) (x : Expr) (d : Body) → Types c b e x d → Leads b d
    of_typed _ _ _ _ (typing.permitted b d e x h p) = of_expr b e x d h

    of_expr : (b : Body) (e : tree.Expr) (z : Expr) (d : Body) → Has c b e z d → Leads b d
    of_expr _ _ _ _ (typing.of_values b d e es xs z q h f) = of_values b es xs d h
    of_expr _ _ _ _ (typing.of_path b d e x q h) = of_thing b e (AValue x) d h
    of_expr _ _ _ _ (typing.in_parentheses b d e x h) = of_typed b e x d h
    of_expr _ _ _ _ (typing.of_slice b b1 b2 d e i j x z u v h f g s) =
        goes_on b b1 d (of_value b e x b1 h) (goes_on b1 b2 d (of_maybe b1 i u b2 f) (of_maybe b2 j v d g))
    of_expr _ _ _ _ (typing.of_length b d e t u x z h m s) = of_value b e x d h
    of_expr _ _ _ _ (typing.of_channel b t u z m s) = stays b
    of_expr _ _ _ _ (typing.of_items b b1 d n is comma u last js z h f s) =
        goes_on b b1 d (of_maybe b n u b1 h) (of_items b1 (pos 0) Absent is js last d f)
    of_expr _ _ _ _ (typing.of_load b d n e i x z m h s) = of_value b e x d h
    of_expr _ _ _ _ (typing.of_call b b1 d f es t xs z h s r) = goes_on b b1 d (of_thing b f t b1 h) (of_values b1 es xs d s)
    of_expr _ _ _ _ (typing.of_print b b1 d f es others p m text xs ys o z h e s i r) =
        goes_on b b1 d (of_thing b f (APrint p m) b1 h) (of_values b1 others xs d s)
    of_expr _ _ _ _ (typing.of_assignment b b1 d l r p y z n i m h s) = goes_on b b1 d (of_pattern b l p b1 i) (of_value b1 r y d h)
    of_expr _ _ _ _ (typing.of_definition b b1 d l r p y h i s) =
        goes_on b b1 d (of_value b r y b1 h) (defines b1 d l (type_of y) p (value_permitted c b r y b1 h) i s)

    pub of_values : (b : Body) (es : tree.Exprs) (xs : Exprs) (d : Body) → HaveValues c b es xs d → Leads b d
    of_values _ _ _ _ (typing.no_values b) = stays b
    of_values _ _ _ _ (typing.values b b1 d e es x xs h s) = goes_on b b1 d (of_value b e x b1 h) (of_values b1 es xs d s)

    pub of_maybe : (b : Body) (n : tree.Part) (u : Optional) (d : Body) → MayHave c b n u d → Leads b d
    of_maybe _ _ _ _ (typing.no_part b) = stays b
    of_maybe _ _ _ _ (typing.a_part b d e x h) = of_value b e x d h

    pub of_items : (b : Body) (n : ℤ) (rest : Optional) (is : tree.Inits) (js : Items) (last : Optional) (d : Body)
        → Fill c b n rest is js last d → Leads b d
    of_items _ _ _ _ _ _ _ (typing.no_items b n rest) = stays b
    of_items _ _ _ _ _ _ _ (typing.next_item b b1 d n rest last e is x js h f) =
        goes_on b b1 d (of_value b e x b1 h) (of_items b1 (n +ℤ pos 1) rest is js last d f)
    of_items _ _ _ _ _ _ _ (typing.item_at b b1 b2 d n k rest last i e is y x js h t v s f) =
        goes_on b b1 d (of_value b i y b1 h)
        (goes_on b1 b2 d (of_value b1 e x b2 s) (of_items b2 (k +ℤ pos 1) rest is js last d f))
    of_items _ _ _ _ _ _ _ (typing.rest_of b b1 d n last e is x js h f) =
        goes_on b b1 d (of_value b e x b1 h) (of_items b1 n (Present x) is js last d f)

    pub of_pattern : (b : Body) (e : tree.Expr) (p : Pattern) (d : Body) → IsPattern c b e p d → Leads b d
    of_pattern _ _ _ _ (typing.to_nothing b) = stays b
    of_pattern _ _ _ _ (typing.in_one b d e p h) = of_pattern b e p d h
    of_pattern _ _ _ _ (typing.to_parts b d e f es ps h) = of_patterns b (tree.MoreExprs e (tree.MoreExprs f es)) ps d h
    of_pattern _ _ _ _ (typing.to_place b d e t p q h) = of_value b e (Of t (Read p)) d h

    pub of_patterns : (b : Body) (es : tree.Exprs) (ps : Patterns) (d : Body) → ArePatterns c b es ps d → Leads b d
    of_patterns _ _ _ _ (typing.no_patterns b) = stays b
    of_patterns _ _ _ _ (typing.more_patterns b b1 d e es p ps h s) =
        goes_on b b1 d (of_pattern b e p b1 h) (of_patterns b1 es ps d s)
