-- What an expression is comes ready: sound, or open with parts that are ready.
use Rattle.std.proofs.Common.{◌≡◌, ℕ, ℤ, ◌+ℤ◌, pos, List, length, Option, None, Some, refl, sym, subst, inl}
use Rattle.inf_text.specs.Options.{◌>>=◌}
use Rattle.limbo_types.specs.Types.{Ty}
use Rattle.limbo_tree.specs.declared.operators.AssignOp.{AssignOp}
use Rattle.limbo_tree.specs.declared.operators.AssignOp.TheVariants as assign
use Rattle.limbo_tree.specs.Exprs as tree
use Rattle.limbo_typed.specs.declared.print.Printed.{Printed}
use Rattle.limbo_typed.specs.declared.print.Printed.TheVariants as printed
use Rattle.limbo_typed.specs.Typed.{Expr, Of, Exprs, NoExprs, MoreExprs, Optional, Absent, Present, Items, Read, Module, Var}
use Rattle.limbo_typed.specs.Typed.{Pattern, ToPlace, ToNothing, ToParts, Patterns}
use Rattle.limbo_typed.specs.Sound.{type_of, IsSettled, SoundExpr, SoundPattern}
use Rattle.limbo_calls.specs.Prints.{Output}
use Rattle.limbo_typing.specs.limbo_things.Things.{Thing, AValue, APrint}
use Rattle.limbo_assigning.specs.Assigning.{assignment}
use Rattle.limbo_context.specs.Context.{Context, Body}
use Rattle.limbo_permits.specs.Permits.{Permits}
use Rattle.limbo_defining.specs.Defining.{Defines}
use Rattle.limbo_typing.specs.limbo_value_forms.Forms.{values_in, copied, given_by, tupled}
use Rattle.limbo_typing.specs.Typing as typing
use Rattle.limbo_typing.specs.Typing.{literal_first, behind_file, format_in, OutputIs}
use Rattle.limbo_typing.specs.Typing.{Denotes, HasValue, Types, Has, HaveValues, MayHave, Fill, IsPattern, ArePatterns}
use Rattle.limbo_typed_sound.specs.Describing.{Begins, HasTypes, Describes, IsWell}
use Rattle.limbo_typed_sound.specs.Proper.{Throughout, ThroughoutPart, ThroughoutAll, ThroughoutInits, IsInRange}
use Rattle.limbo_typed_sound.proofs.Ready.{HasNames, Ready, ReadyEach, ReadyItems, ReadyMaybe, sound, is_named, sound_place}
use Rattle.limbo_typed_sound.proofs.More.{more_names, means_settled}
use Rattle.limbo_typed_sound.proofs.Patterns.{ReadyPattern, ReadyPatterns, place_named}
use Rattle.limbo_typed_sound.proofs.Built as built
use Rattle.limbo_typed_sound.proofs.Built.{ReadyThing, ReadyOutput}
use Rattle.limbo_typed_sound.proofs.Named.{of_name, of_member, of_part}
use Rattle.limbo_typed_sound.proofs.Leading as leading
use Rattle.limbo_typed_sound.proofs.Leading.{value_permitted}
use Rattle.limbo_typed_sound.proofs.Bodies.{defines_grows, before, defines_well, permitted_named, defined}

-- ---- the parts of a source

module _ (P : tree.Expr → Type 0) where
  pub itself : (e : tree.Expr) → Throughout P e → P e
  itself (tree.Assign o l r) h = h.0
  itself (tree.Load n e) h = h.0
  itself (tree.Binary o l r) h = h.0
  itself (tree.Unary o e) h = h.0
  itself (tree.Bytes e) h = h.0
  itself (tree.Filled n is comma) h = h.0
  itself (tree.Sized e t) h = h.0
  itself (tree.Channel n t) h = h
  itself (tree.Listed es) h = h.0
  itself (tree.Call f es) h = h.0
  itself (tree.Index e i) h = h.0
  itself (tree.Slice e i j) h = h.0
  itself (tree.Dot e n) h = h.0
  itself (tree.Arrow e n) h = h.0
  itself (tree.Postfix o e) h = h.0
  itself (tree.Number v wide) h = h
  itself (tree.Chars s) h = h
  itself (tree.Name n) h = h
  itself tree.Nil h = h
  itself (tree.Group es) h = h.0

  some_of : (xs es : tree.Exprs) → Some xs ≡ Some es → ThroughoutAll P xs → ThroughoutAll P es
  some_of xs es q h = let p : xs ≡ es = cc in subst (ThroughoutAll P) p h

  of_copied : (l r : tree.Expr) (es : tree.Exprs) → copied l r ≡ Some es → Throughout P l → Throughout P r → ThroughoutAll P es
  of_copied (tree.Slice a (tree.Present i) tree.Absent) r es q h k = some_of _ es q (h.1, (h.2, (k, tt)))
  of_copied _ r es q h k = absurd cc

  of_given : (o : AssignOp) (l r : tree.Expr) (es : tree.Exprs) → given_by o l r ≡ Some es → Throughout P l → Throughout P r
      → ThroughoutAll P es
  of_given assign.Assign l r es q h k = of_copied l r es q h k
  of_given assign.Define l r es q h k = absurd cc
  of_given _ l r es q h k = some_of _ es q (h, (k, tt))

  of_tupled : (xs es : tree.Exprs) → tupled xs ≡ Some es → ThroughoutAll P xs → ThroughoutAll P es
  of_tupled (tree.MoreExprs e (tree.MoreExprs f xs)) es q h = some_of _ es q h
  of_tupled _ es q h = absurd cc

  pub values_within : (e : tree.Expr) (es : tree.Exprs) → values_in e ≡ Some es → Throughout P e → ThroughoutAll P es
  values_within (tree.Number v wide) es q h = some_of _ es q tt
  values_within (tree.Chars s) es q h = some_of _ es q tt
  values_within tree.Nil es q h = some_of _ es q tt
  values_within (tree.Group xs) es q h = of_tupled xs es q h.1
  values_within (tree.Listed xs) es q h = some_of _ es q h.1
  values_within (tree.Binary o l r) es q h = some_of _ es q (h.1, (h.2, tt))
  values_within (tree.Unary o e) es q h = some_of _ es q (h.1, tt)
  values_within (tree.Postfix o e) es q h = some_of _ es q (h.1, tt)
  values_within (tree.Bytes e) es q h = some_of _ es q (h.1, tt)
  values_within (tree.Index e i) es q h = some_of _ es q (h.1, (h.2, tt))
  values_within (tree.Assign o l r) es q h = of_given o l r es q h.1 h.2
  values_within _ es q h = absurd cc

  abbrev InFormat : Option (List ℕ × tree.Exprs) → Type 0
  InFormat None = Unit {0}
  InFormat (Some f) = ThroughoutAll P f.1

  of_literal : (es : tree.Exprs) → ThroughoutAll P es → InFormat (literal_first es)
  of_literal (tree.MoreExprs (tree.Chars s) es) h = h.1
  of_literal (tree.MoreExprs _ es) h = tt
  of_literal tree.NoExprs h = tt

  of_file : (es : tree.Exprs) → ThroughoutAll P es → InFormat (behind_file es)
  of_file (tree.MoreExprs e es) h = go (literal_first es) (of_literal es h.1)
    where
      go : (o : Option (List ℕ × tree.Exprs)) → InFormat o → InFormat (o >>= λ f. Some (f.0, tree.MoreExprs e f.1))
      go None k = tt
      go (Some f) k = (h.0, k)
  of_file tree.NoExprs h = tt

  of_format : (p : Printed) (es : tree.Exprs) → ThroughoutAll P es → InFormat (format_in p es)
  of_format printed.Fprint es h = of_file es h
  of_format printed.Print es h = of_literal es h
  of_format printed.Sprint es h = of_literal es h

  pub format_within : (p : Printed) (es : tree.Exprs) (f : List ℕ × tree.Exprs) → format_in p es ≡ Some f → ThroughoutAll P es
      → ThroughoutAll P f.1
  format_within p es f q h = subst InFormat q (of_format p es h)

-- ---- whole trees

module _ (m : Module) (vs : List Var) (c : Context) (types : HasTypes m) (describes : Describes m c) where
  abbrev Is : Thing → Type 0
  Is t = ReadyThing m vs c types describes t

  abbrev Proper : tree.Expr → Type 0
  Proper e = Throughout IsInRange e

  -- From a body to the one behind: it stays well, and variables that begin with those behind begin with those before.
  abbrev Leads : Body → Body → Type 0
  Leads b d = (IsWell m c b → IsWell m c d) × (Begins d.variables vs → Begins b.variables vs)

  leads_on : (b d e : Body) → Leads b d → Leads d e → Leads b e
  leads_on b d e h k = (λ w. k.0 (h.0 w), λ g. h.1 (k.1 g))

  defines : (b d : Body) (e : tree.Expr) (t : Ty) (p : Pattern) → Permits c t → IsSettled t → Defines b e t p d → Leads b d
  defines b d e t p k s h =
      (λ w. defines_well m c b d e t p h (permitted_named m c describes t k s) w, λ g. before b d vs (defines_grows b d e t p h) g)

  stays_so : (b : Body) → Leads b b
  stays_so b = (λ w. w, λ g. g)

  by_value : (b : Body) (e : tree.Expr) (x : Expr) (d : Body) → HasValue c b e x d → Leads b d
  by_value = leading.of_value c Leads stays_so leads_on defines

  by_thing : (b : Body) (e : tree.Expr) (t : Thing) (d : Body) → Denotes c b e t d → Leads b d
  by_thing = leading.of_thing c Leads stays_so leads_on defines

  by_values : (b : Body) (es : tree.Exprs) (xs : Exprs) (d : Body) → HaveValues c b es xs d → Leads b d
  by_values = leading.of_values c Leads stays_so leads_on defines

  by_maybe : (b : Body) (n : tree.Part) (u : Optional) (d : Body) → MayHave c b n u d → Leads b d
  by_maybe = leading.of_maybe c Leads stays_so leads_on defines

  by_items : (b : Body) (n : ℤ) (rest : Optional) (is : tree.Inits) (js : Items) (last : Optional) (d : Body) → Fill c b n rest is js last d
      → Leads b d
  by_items = leading.of_items c Leads stays_so leads_on defines

  by_pattern : (b : Body) (e : tree.Expr) (p : Pattern) (d : Body) → IsPattern c b e p d → Leads b d
  by_pattern = leading.of_pattern c Leads stays_so leads_on defines

  by_patterns : (b : Body) (es : tree.Exprs) (ps : Patterns) (d : Body) → ArePatterns c b es ps d → Leads b d
  by_patterns = leading.of_patterns c Leads stays_so leads_on defines

  in_output : (which : Printed) (xs : Exprs) (o : Output) (ys : Exprs) → OutputIs which xs o ys → ReadyEach m vs xs
      → ReadyOutput m vs c types describes o × ReadyEach m vs ys
  in_output printed.Print xs o ys k h =
      (subst (λ (z : Output). ReadyOutput m vs c types describes z) (sym k.0) tt, subst (λ (z : Exprs). ReadyEach m vs z) (sym k.1) h)
  in_output printed.Sprint xs o ys k h =
      (subst (λ (z : Output). ReadyOutput m vs c types describes z) (sym k.0) tt, subst (λ (z : Exprs). ReadyEach m vs z) (sym k.1) h)
  in_output printed.Fprint (MoreExprs x xs) o ys k h =
      (subst (λ (z : Output). ReadyOutput m vs c types describes z) (sym k.0) h.0, subst (λ (z : Exprs). ReadyEach m vs z) (sym k.1) h.1)
  in_output printed.Fprint NoExprs o ys k h = absurd k

  definition : (p : Pattern) (y : Expr) → SoundExpr m vs y → SoundPattern m vs p (type_of y) → Ready m vs (assignment p y)
  definition (ToPlace q) y b d = inl (place_named m vs q d.0, (b, d, d.1))
  definition ToNothing y b d = inl (is_named m vs y b, (b, d, inl refl))
  definition (ToParts ps) y b d = inl (is_named m vs y b, (b, d, inl refl))

  mutual
    pub in_thing : (b : Body) (e : tree.Expr) (t : Thing) (d : Body) → Denotes c b e t d → IsWell m c b → Proper e
        → Begins d.variables vs → Is t
    in_thing _ _ _ _ (typing.by_name b n t k) w p g = of_name m vs c types describes b w g n t k
    in_thing _ _ _ _ (typing.by_member b d e n s t h k) w p g = of_member m vs c types describes n s t k (in_thing b e s d h w p.1 g)
    in_thing _ _ _ _ (typing.by_part b d e n s t h k) w p g =
        of_part m vs c types describes n s t k (in_thing b e s d h w p.1 g)
    in_thing _ _ _ _ (typing.by_value b d e x q h) w p g = in_value b e x d h w p g

    pub in_value : (b : Body) (e : tree.Expr) (x : Expr) (d : Body) → HasValue c b e x d → IsWell m c b → Proper e
        → Begins d.variables vs → Ready m vs x
    in_value _ _ _ _ (typing.has_value b d e x h n) w p g = in_typed b e x d h w p g

    pub in_typed : (b : Body) (e : tree.Expr) (x : Expr) (d : Body) → Types c b e x d → IsWell m c b → Proper e
        → Begins d.variables vs → Ready m vs x
    in_typed _ _ _ _ (typing.permitted b d e x h k) w p g =
        within b e x d h w p g
        (more_names c.adts m.adts describes.adts (length c.modules) (length m.interfaces) describes.modules (type_of x)
        k.type.allowed.names)

    within : (b : Body) (e : tree.Expr) (z : Expr) (d : Body) → Has c b e z d → IsWell m c b → Proper e → Begins d.variables vs
        → HasNames m (type_of z) → Ready m vs z
    within _ _ _ _ (typing.of_values b d e es xs z q h f) w p g n =
        built.forms m vs c types describes e xs z f (itself IsInRange e p)
        (in_values b es xs d h w (values_within IsInRange e es q p) g) n
    within _ _ _ _ (typing.of_path b d e x q h) w p g n = in_thing b e (AValue x) d h w p g
    within _ _ _ _ (typing.in_parentheses b d e x h) w p g n = in_typed b e x d h w p.1.0 g
    within _ _ _ _ (typing.of_slice b b1 b2 d e i j x z u v h f k s) w p g n =
        let w1 = (by_value b e x b1 h).0 w in
        let w2 = (by_maybe b1 i u b2 f).0 w1 in
        let g2 = (by_maybe b2 j v d k).1 g in
        let g1 = (by_maybe b1 i u b2 f).1 g2 in
        built.slices m vs c types describes x u v z s (in_value b e x b1 h w p.1 g1) (in_maybe b1 i u b2 f w1 p.2 g2)
        (in_maybe b2 j v d k w2 p.3 g)
    within _ _ _ _ (typing.of_length b d e t u x z h k s) w p g n =
        built.sizes m vs c types describes x u z s (in_value b e x d h w p.1 g) (means_settled c describes.types d t u k.means) n
    within _ _ _ _ (typing.of_channel b t u z k s) w p g n =
        built.makes m vs c types describes u z s (means_settled c describes.types b t u k.means) n
    within _ _ _ _ (typing.of_items b b1 d l is comma u last js z h f s) w p g n =
        let w1 = (by_maybe b l u b1 h).0 w in
        let g1 = (by_items b1 (pos 0) Absent is js last d f).1 g in
        let k = in_items b1 (pos 0) Absent is js last d f w1 p.2 g tt in
        built.fills m vs c types describes u js last z s (in_maybe b l u b1 h w p.1 g1) k.0 k.1 n
    within _ _ _ _ (typing.of_load b d k e i x z q h s) w p g n = built.loads m vs c types describes i x z s (in_value b e x d h w p.1 g) n
    within _ _ _ _ (typing.of_call b b1 d f es t xs z h s r) w p g n =
        let w1 = (by_thing b f t b1 h).0 w in
        let g1 = (by_values b1 es xs d s).1 g in
        built.applies m vs c types describes t xs z r (in_thing b f t b1 h w p.1 g1) (in_values b1 es xs d s w1 p.2 g)
    within _ _ _ _ (typing.of_print b b1 d f es others which i text xs ys o z h e s q r) w p g n =
        let w1 = (by_thing b f (APrint which i) b1 h).0 w in
        let g1 = (by_values b1 others xs d s).1 g in
        let t = in_thing b f (APrint which i) b1 h w p.1 g1 in
        let k = in_output which xs o ys q (in_values b1 others xs d s w1 (format_within IsInRange which es (text, others) e p.2) g) in
        built.prints_one m vs c types describes o i text ys z r k.0 t.0 t.1 k.1
    within _ _ _ _ (typing.of_assignment b b1 d l r q y z k i j h s) w p g n =
        let w1 = (by_pattern b l q b1 i).0 w in
        let g1 = (by_value b1 r y d h).1 g in
        built.assigns m vs c types describes q y z s (in_pattern b l q b1 i w p.1 g1) (in_value b1 r y d h w1 p.2 g)
    within _ _ _ _ (typing.of_definition b b1 d l r q y h i s) w p g n =
        let k = permitted_named m c describes (type_of y) (value_permitted c b r y b1 h) i in
        let g1 = before b1 d vs (defines_grows b1 d l (type_of y) q s) g in
        definition q y (sound m vs y (in_value b r y b1 h w p.2 g1) i) (defined m vs b1 d l (type_of y) q s k g)

    in_values : (b : Body) (es : tree.Exprs) (xs : Exprs) (d : Body) → HaveValues c b es xs d → IsWell m c b
        → ThroughoutAll IsInRange es → Begins d.variables vs → ReadyEach m vs xs
    in_values _ _ _ _ (typing.no_values b) w p g = tt
    in_values _ _ _ _ (typing.values b b1 d e es x xs h s) w p g =
        (in_value b e x b1 h w p.0 ((by_values b1 es xs d s).1 g), in_values b1 es xs d s ((by_value b e x b1 h).0 w) p.1 g)

    in_maybe : (b : Body) (n : tree.Part) (u : Optional) (d : Body) → MayHave c b n u d → IsWell m c b → ThroughoutPart IsInRange n
        → Begins d.variables vs → ReadyMaybe m vs u
    in_maybe _ _ _ _ (typing.no_part b) w p g = tt
    in_maybe _ _ _ _ (typing.a_part b d e x h) w p g = in_value b e x d h w p g

    in_items : (b : Body) (n : ℤ) (rest : Optional) (is : tree.Inits) (js : Items) (last : Optional) (d : Body)
        → Fill c b n rest is js last d → IsWell m c b → ThroughoutInits IsInRange is → Begins d.variables vs → ReadyMaybe m vs rest
        → ReadyItems m vs js × ReadyMaybe m vs last
    in_items _ _ _ _ _ _ _ (typing.no_items b n rest) w p g k = (tt, k)
    in_items _ _ _ _ _ _ _ (typing.next_item b b1 d n rest last e is x js h f) w p g k =
        let a = in_items b1 (n +ℤ pos 1) rest is js last d f ((by_value b e x b1 h).0 w) p.1 g k in
        ((in_value b e x b1 h w p.0 ((by_items b1 (n +ℤ pos 1) rest is js last d f).1 g), a.0), a.1)
    in_items _ _ _ _ _ _ _ (typing.item_at b b1 b2 d n l rest last i e is y x js h t v s f) w p g k =
        let w1 = (by_value b i y b1 h).0 w in
        let a = in_items b2 (l +ℤ pos 1) rest is js last d f ((by_value b1 e x b2 s).0 w1) p.1 g k in
        ((in_value b1 e x b2 s w1 p.0.1 ((by_items b2 (l +ℤ pos 1) rest is js last d f).1 g), a.0), a.1)
    in_items _ _ _ _ _ _ _ (typing.rest_of b b1 d n last e is x js h f) w p g k =
        in_items b1 n (Present x) is js last d f ((by_value b e x b1 h).0 w) p.1 g
        (in_value b e x b1 h w p.0 ((by_items b1 n (Present x) is js last d f).1 g))

    pub in_pattern : (b : Body) (e : tree.Expr) (q : Pattern) (d : Body) → IsPattern c b e q d → IsWell m c b → Proper e
        → Begins d.variables vs → ReadyPattern m vs q
    in_pattern _ _ _ _ (typing.to_nothing b) w p g = tt
    in_pattern _ _ _ _ (typing.in_one b d e q h) w p g = in_pattern b e q d h w p.1.0 g
    in_pattern _ _ _ _ (typing.to_parts b d e f es qs h) w p g = in_patterns b (tree.MoreExprs e (tree.MoreExprs f es)) qs d h w p.1 g
    in_pattern _ _ _ _ (typing.to_place b d e t q k h) w p g = (sound_place m vs t q (in_value b e (Of t (Read q)) d h w p g)).1.0

    in_patterns : (b : Body) (es : tree.Exprs) (qs : Patterns) (d : Body) → ArePatterns c b es qs d → IsWell m c b
        → ThroughoutAll IsInRange es → Begins d.variables vs → ReadyPatterns m vs qs
    in_patterns _ _ _ _ (typing.no_patterns b) w p g = tt
    in_patterns _ _ _ _ (typing.more_patterns b b1 d e es q qs h s) w p g =
        (in_pattern b e q b1 h w p.0 ((by_patterns b1 es qs d s).1 g), in_patterns b1 es qs d s ((by_pattern b e q b1 h).0 w) p.1 g)
