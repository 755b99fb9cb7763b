-- What holds of each permitted expression's node, and of nodes that store nothing, holds of each node in a typed tree.
use Rattle.std.proofs.Common.{ℤ, ◌+ℤ◌, pos, List, sym, subst}
use Rattle.limbo_types.specs.Types.{Ty, Tys}
use Rattle.limbo_layout.specs.Adts.{Def}
use Rattle.limbo_tree.specs.Exprs as tree
use Rattle.limbo_typed.specs.declared.print.Printed.{Printed}
use Rattle.limbo_typed.specs.declared.print.Printed.TheVariants as printed
use Rattle.limbo_typed.specs.Typed.{Expr, Of, Node, Exprs, NoExprs, MoreExprs, Optional, Absent, Present, Items, Read, Place}
use Rattle.limbo_typed.specs.Typed.{Pattern, Patterns, Assign, Update, Step}
use Rattle.limbo_typed.specs.Sound.{type_of}
use Rattle.limbo_refusals.specs.Refusals as refusals
use Rattle.limbo_refusals.specs.Refusals.{Refusal}
use Rattle.limbo_stores.specs.Stores as stores
use Rattle.limbo_stores.specs.Stores.{StoresInto, Closes, RefusesStore}
use Rattle.limbo_calls.specs.Prints.{Output}
use Rattle.limbo_things.specs.Things.{Thing, AValue, APrint}
use Rattle.limbo_permits.specs.Permits.{node_of}
use Rattle.limbo_context.specs.Context.{Context, Body}
use Rattle.limbo_defining.specs.Defining as defining
use Rattle.limbo_defining.specs.Defining.{Defines, DefineEach}
use Rattle.limbo_typing.specs.Typing as typing
use Rattle.limbo_typing.specs.Typing.{OutputIs, Denotes, HasValue, Types, Has, HaveValues, MayHave, Fill, IsPattern, ArePatterns}
use Rattle.limbo_typed_stores.specs.Nodes.{AllNodes, InNode, InEach, InOptional, InItems, InPattern, InPatterns, InThing}
use Rattle.limbo_typed_stores.specs.Stored.{IsAllowed}
use Rattle.limbo_typed_stores.proofs.Settled.{StoresNothing, whole, inner}
use Rattle.limbo_typed_stores.proofs.Named.{in_name, in_member, in_part}
use Rattle.limbo_typed_stores.proofs.Built as built
use Rattle.limbo_typed_stores.proofs.Built.{InOutput}

-- ---- nodes that store nothing

into_none : (n : Node) → StoresNothing n → (p : Place) → StoresInto n p → ⊥
into_none (Assign q e) h p s = h
into_none (Update o q e) h p s = h
into_none (Step o g q) h p s = h
into_none _ h p s = s

closes_none : (defs : List Def) (n : Node) → StoresNothing n → Closes defs n → ⊥
closes_none defs _ h (stores.by_place n p s c) = into_none n h p s
closes_none defs _ h (stores.by_copy a i e c) = h
closes_none defs _ h (stores.by_send l e c) = h

pub allowed : (c : Context) (n : Node) → StoresNothing n → IsAllowed c n
allowed c n h = go
  where
    go : (r : Refusal) → RefusesStore c.adts c.fd n r → ⊥
    go refusals.NotPlace s = into_none n h s.place s.stores
    go refusals.CyclicStore s = closes_none c.adts n h s
    go _ s = s

-- ---- whole trees

module _ (c : Context) (P : Node → Type 0) (of_allowed : (n : Node) → IsAllowed c n → P n) where
  plain : (n : Node) → StoresNothing n → P n
  plain n h = of_allowed n (allowed c n h)

  in_output : (which : Printed) (xs : Exprs) (o : Output) (ys : Exprs) → OutputIs which xs o ys → InEach P xs
      → InOutput P plain o × InEach P ys
  in_output printed.Print xs o ys m h =
      (subst (λ (z : Output). InOutput P plain z) (sym m.0) tt, subst (λ (z : Exprs). InEach P z) (sym m.1) h)
  in_output printed.Sprint xs o ys m h =
      (subst (λ (z : Output). InOutput P plain z) (sym m.0) tt, subst (λ (z : Exprs). InEach P z) (sym m.1) h)
  in_output printed.Fprint (MoreExprs x xs) o ys m h =
      (subst (λ (z : Output). InOutput P plain z) (sym m.0) h.0, subst (λ (z : Exprs). InEach P z) (sym m.1) h.1)
  in_output printed.Fprint NoExprs o ys m h = absurd m

  mutual
    defined : (b : Body) (e : tree.Expr) (t : Ty) (p : Pattern) (d : Body) → Defines b e t p d → InPattern P p
    defined _ _ _ _ _ (defining.name b n t m) = tt
    defined _ _ _ _ _ (defining.parts b d e f es ts ps m) = each_defined b (tree.MoreExprs e (tree.MoreExprs f es)) ts ps d m

    each_defined : (b : Body) (es : tree.Exprs) (ts : Tys) (ps : Patterns) (d : Body) → DefineEach b es ts ps d → InPatterns P ps
    each_defined _ _ _ _ _ (defining.no_more b) = tt
    each_defined _ _ _ _ _ (defining.DefineEach.nowhere b d t es ts ps m) = (tt, each_defined b es ts ps d m)
    each_defined _ _ _ _ _ (defining.DefineEach.and_more b b1 d e t p es ts ps m n) =
        (defined b e t p b1 m, each_defined b1 es ts ps d n)

  mutual
    pub in_thing : (b : Body) (e : tree.Expr) (t : Thing) (d : Body) → Denotes c b e t d → InThing P t
    in_thing _ _ _ _ (typing.by_name b n t m) = in_name P plain c b n t m
    in_thing _ _ _ _ (typing.by_member b d e n s t h m) = in_member P plain c n s t m (in_thing b e s d h)
    in_thing _ _ _ _ (typing.by_part b d e n s t h m) = in_part P plain c n s t m (in_thing b e s d h)
    in_thing _ _ _ _ (typing.by_value b d e x q h) = in_value b e x d h

    pub in_value : (b : Body) (e : tree.Expr) (x : Expr) (d : Body) → HasValue c b e x d → AllNodes P x
    in_value _ _ _ _ (typing.has_value b d e x h n) = in_typed b e x d h

    pub in_typed : (b : Body) (e : tree.Expr) (x : Expr) (d : Body) → Types c b e x d → AllNodes P x
    in_typed _ _ _ _ (typing.permitted b d e x h p) = whole P x (of_allowed (node_of x) p.store) (within b e x d h)

    within : (b : Body) (e : tree.Expr) (z : Expr) (d : Body) → Has c b e z d → InNode P (node_of z)
    within _ _ _ _ (typing.of_values b d e es xs z q h f) = built.forms P plain c e xs z f (in_values b es xs d h)
    within _ _ _ _ (typing.of_path b d e x q h) = inner P x (in_thing b e (AValue x) d h)
    within _ _ _ _ (typing.in_parentheses b d e x h) = inner P x (in_typed b e x d h)
    within _ _ _ _ (typing.of_slice b b1 b2 d e i j x z u v h f g s) =
        built.slices P plain x u v z s (in_value b e x b1 h) (in_part_of b1 i u b2 f) (in_part_of b2 j v d g)
    within _ _ _ _ (typing.of_length b d e t u x z h m s) = built.sizes P plain x u z s (in_value b e x d h)
    within _ _ _ _ (typing.of_channel b t u z m s) = built.makes P plain u z s
    within _ _ _ _ (typing.of_items b b1 d n is comma u last js z h f s) =
        let g = in_items b1 (pos 0) Absent is js last d f tt in
        built.fills P plain u js last z s (in_part_of b n u b1 h) g.0 g.1
    within _ _ _ _ (typing.of_load b d n e i x z m h s) = built.loads P plain i x z s (in_value b e x d h)
    within _ _ _ _ (typing.of_call b b1 d f es t xs z h s r) =
        built.applies P plain c t xs z r (in_thing b f t b1 h) (in_values b1 es xs d s)
    within _ _ _ _ (typing.of_print b b1 d f es others p m text xs ys o z h e s i r) =
        let g = in_output p xs o ys i (in_values b1 others xs d s) in
        built.prints_one P plain c.fd o m text ys z r g.0 (in_thing b f (APrint p m) b1 h) g.1
    within _ _ _ _ (typing.of_assignment b b1 d l r p y z n i m h s) =
        built.assigns P plain p y z s (in_pattern b l p b1 i) (in_value b1 r y d h)
    within _ _ _ _ (typing.of_definition b b1 d l r p y h i s) = (defined b1 l (type_of y) p d s, in_value b r y b1 h)

    in_values : (b : Body) (es : tree.Exprs) (xs : Exprs) (d : Body) → HaveValues c b es xs d → InEach P xs
    in_values _ _ _ _ (typing.no_values b) = tt
    in_values _ _ _ _ (typing.values b b1 d e es x xs h s) = (in_value b e x b1 h, in_values b1 es xs d s)

    in_part_of : (b : Body) (n : tree.Part) (u : Optional) (d : Body) → MayHave c b n u d → InOptional P u
    in_part_of _ _ _ _ (typing.no_part b) = tt
    in_part_of _ _ _ _ (typing.a_part b d e x h) = in_value b e x d h

    in_items : (b : Body) (n : ℤ) (rest : Optional) (is : tree.Inits) (js : Items) (last : Optional) (d : Body)
        → Fill c b n rest is js last d → InOptional P rest → InItems P js × InOptional P last
    in_items _ _ _ _ _ _ _ (typing.no_items b n rest) k = (tt, k)
    in_items _ _ _ _ _ _ _ (typing.next_item b b1 d n rest last e is x js h f) k =
        let g = in_items b1 (n +ℤ pos 1) rest is js last d f k in ((in_value b e x b1 h, g.0), g.1)
    in_items _ _ _ _ _ _ _ (typing.item_at b b1 b2 d n m rest last i e is y x js h t v s f) k =
        let g = in_items b2 (m +ℤ pos 1) rest is js last d f k in ((in_value b1 e x b2 s, g.0), g.1)
    in_items _ _ _ _ _ _ _ (typing.rest_of b b1 d n last e is x js h f) k =
        in_items b1 n (Present x) is js last d f (in_value b e x b1 h)

    pub in_pattern : (b : Body) (e : tree.Expr) (p : Pattern) (d : Body) → IsPattern c b e p d → InPattern P p
    in_pattern _ _ _ _ (typing.to_nothing b) = tt
    in_pattern _ _ _ _ (typing.in_one b d e p h) = in_pattern b e p d h
    in_pattern _ _ _ _ (typing.to_parts b d e f es ps h) = in_patterns b (tree.MoreExprs e (tree.MoreExprs f es)) ps d h
    in_pattern _ _ _ _ (typing.to_place b d e t p q h) = inner P (Of t (Read p)) (in_value b e (Of t (Read p)) d h)

    in_patterns : (b : Body) (es : tree.Exprs) (ps : Patterns) (d : Body) → ArePatterns c b es ps d → InPatterns P ps
    in_patterns _ _ _ _ (typing.no_patterns b) = tt
    in_patterns _ _ _ _ (typing.more_patterns b b1 d e es p ps h s) = (in_pattern b e p b1 h, in_patterns b1 es ps d s)
