-- An expression is one typed tree at most, and leaves one body.
use Rattle.std.proofs.Common.{◌≡◌, sym, ap, ◌∙◌, subst, ℕ, ℤ, ◌+ℤ◌, pos, List, Option, Some}
use Rattle.std.proofs.lemmas.Option.{same_Some}
use Rattle.limbo_types.specs.Types.{Ty, ChanOf, Module}
use Rattle.limbo_tree.specs.Exprs as tree
use Rattle.limbo_tree.specs.Types as written
use Rattle.limbo_typed.specs.declared.stmt.Constant.TheVariants as constant
use Rattle.limbo_typed.specs.declared.print.Printed.{Printed}
use Rattle.limbo_typed.specs.declared.print.Printed.TheVariants as printed
use Rattle.limbo_typed.specs.Typed.{Expr, Of, Exprs, NoExprs, MoreExprs, Optional, Absent, Present, Items, MoreItems, Read, Place}
use Rattle.limbo_typed.specs.Typed.{Pattern, ToPlace, ToParts, Patterns, MorePatterns, Channel}
use Rattle.limbo_typed.specs.Sound.{type_of}
use Rattle.limbo_defining.specs.limbo_context.Context.{Context, Body}
use Rattle.limbo_folding.specs.Folding.{value_of}
use Rattle.limbo_assigning.specs.Assigning.{Assigns, assignment}
use Rattle.limbo_value_forms.specs.limbo_places.Slices.{Slices}
use Rattle.limbo_value_forms.proofs.limbo_places_lemmas.Slices.{sliced_once}
use Rattle.limbo_value_forms.specs.limbo_channels.Loading.{Loads}
use Rattle.limbo_value_forms.proofs.limbo_channels_lemmas.Channels.{loads_once}
use Rattle.limbo_value_forms.specs.limbo_literals.Literals.{Fills, Sizes, Makes}
use Rattle.limbo_value_forms.proofs.limbo_literals_lemmas.Literals as literals
use Rattle.limbo_applying.specs.limbo_calls.Prints.{Prints, Output}
use Rattle.limbo_applying.proofs.limbo_calls_lemmas.Prints.{one_print}
use Rattle.limbo_applying.specs.limbo_things.Things.{Thing, AValue, AType, APrint, MemberIs, PartIs}
use Rattle.limbo_applying.proofs.limbo_things_lemmas.Choices as things
use Rattle.limbo_applying.specs.Applying.{Applies}
use Rattle.limbo_applying.proofs.Once.{applied_once}
use Rattle.limbo_written.specs.Written.{MeansPermitted}
use Rattle.limbo_written.proofs.Once.{one_written}
use Rattle.limbo_value_forms.specs.Forms.{Forms}
use Rattle.limbo_defining.specs.Defining.{Defines}
use Rattle.limbo_defining.proofs.Unique as defining
use Rattle.limbo_typing.specs.Typing as typing
use Rattle.limbo_typing.specs.Typing.{OutputIs, Denotes, HasValue, Types, Has, HaveValues, MayHave, Fill, IsPattern, ArePatterns}
use Rattle.limbo_typing.proofs.Forms as form
use Rattle.limbo_typing.proofs.Lower.{OneBelow, one_name, one_member}
use Rattle.limbo_typing.proofs.Forms.{ItemAt, SliceOf, LengthOf, ItemsOf, LoadOf, AssignmentOf, DefinitionOf}
use Rattle.limbo_typing.proofs.Called.{no_print, call_with, print_with}

-- ---- of equal parts

pub one_number : (y z : Expr) (k m : ℤ) → y ≡ z → value_of y ≡ Some (constant.Number k) → value_of z ≡ Some (constant.Number m) → k ≡ m
one_number y z k m e p q =
    let s : constant.Number k ≡ constant.Number m = same_Some (constant.Number k) (constant.Number m) (sym p ∙ ap value_of e ∙ q) in cc

value_same : (x y : Expr) → AValue x ≡ AValue y → x ≡ y
value_same x y e = cc

place_same : (t u : Ty) (p q : Place) → Of t (Read p) ≡ Of u (Read q) → p ≡ q
place_same t u p q e = cc

pub one_output : (p : Printed) (xs : Exprs) (o o' : Output) (ys ys' : Exprs) → OutputIs p xs o ys → OutputIs p xs o' ys'
    → (o ≡ o') × (ys ≡ ys')
one_output printed.Print xs o o' ys ys' h k = (h.0 ∙ sym k.0, h.1 ∙ sym k.1)
one_output printed.Sprint xs o o' ys ys' h k = (h.0 ∙ sym k.0, h.1 ∙ sym k.1)
one_output printed.Fprint (MoreExprs x xs) o o' ys ys' h k = (h.0 ∙ sym k.0, h.1 ∙ sym k.1)
one_output printed.Fprint NoExprs o o' ys ys' h k = absurd h

same_slice : (x y : Expr) (u u' v v' : Optional) (z w : Expr) → x ≡ y → u ≡ u' → v ≡ v' → Slices x u v z → Slices y u' v' w → z ≡ w
same_slice x y u u' v v' z w p q r h k =
    let a = subst (λ (i : Expr). Slices i u v z) p h in
    let b = subst (λ (i : Optional). Slices y i v z) q a in
    sliced_once y u' v' z w (subst (λ (i : Optional). Slices y u' i z) r b) k

same_size : (x y : Expr) (t u : Ty) (z w : Expr) → x ≡ y → t ≡ u → Sizes x t z → Sizes y u w → z ≡ w
same_size x y t u z w p q h k =
    let a = subst (λ (i : Expr). Sizes i t z) p h in literals.one_size y u z w (subst (λ (i : Ty). Sizes y i z) q a) k

same_channel : (t u : Ty) (z w : Expr) → t ≡ u → Makes t z → Makes u w → z ≡ w
same_channel t u z w p h k = h ∙ ap (λ i. Of (ChanOf i) (Channel Absent)) p ∙ sym k

same_items : (u u' : Optional) (is js : Items) (v v' : Optional) (z w : Expr) → u ≡ u' → is ≡ js → v ≡ v' → Fills u is v z
    → Fills u' js v' w → z ≡ w
same_items u u' is js v v' z w p q r h k =
    let a = subst (λ (i : Optional). Fills i is v z) p h in
    let b = subst (λ (i : Items). Fills u' i v z) q a in
    literals.one_fill u' js v' z w (subst (λ (i : Optional). Fills u' js i z) r b) k

same_load : (i j : ℕ) (x y z w : Expr) → AType (Module i) ≡ AType (Module j) → x ≡ y → Loads i x z → Loads j y w → z ≡ w
same_load i j x y z w p q h k =
    let e : i ≡ j = cc in
    let a = subst (λ (n : ℕ). Loads n x z) e h in
    loads_once j y z w (subst (λ (v : Expr). Loads j v z) q a) k

same_assigned : OneBelow → (p q : Pattern) (x y z w : Expr) → p ≡ q → x ≡ y → Assigns p x z → Assigns q y w → z ≡ w
same_assigned below p q x y z w e f h k =
    let a = subst (λ (i : Pattern). Assigns i x z) e h in below.assigned q y z w (subst (λ (v : Expr). Assigns q v z) f a) k

same_print : (fd : Option ℕ) (o o' : Output) (m : Expr) (t t' : List ℕ) (xs ys : Exprs) (z w : Expr) → o ≡ o' → t ≡ t' → xs ≡ ys
    → Prints fd o m t xs z → Prints fd o' m t' ys w → z ≡ w
same_print fd o o' m t t' xs ys z w p q r h k =
    let a = subst (λ (i : Output). Prints fd i m t xs z) p h in
    let b = subst (λ (i : List ℕ). Prints fd o' m i xs z) q a in
    one_print fd o' m t' ys z w (subst (λ (i : Exprs). Prints fd o' m t' i z) r b) k

same_pattern : (p q : Pattern) (x y z : Expr) → p ≡ q → x ≡ y → z ≡ assignment q y → assignment p x ≡ z
same_pattern p q x y z e f g = ap (λ i. assignment i x) e ∙ ap (assignment q) f ∙ sym g

module _ (c : Context) where
  same_form : OneBelow → (e : tree.Expr) (xs ys : Exprs) (z w : Expr) → xs ≡ ys → Forms c e xs z → Forms c e ys w → z ≡ w
  same_form below e xs ys z w p h k = below.form c e ys z w (subst (λ (i : Exprs). Forms c e i z) p h) k

  same_applied : (t : Thing) (xs ys : Exprs) (z w : Expr) → xs ≡ ys → Applies c t xs z → Applies c t ys w → z ≡ w
  same_applied t xs ys z w p h k = applied_once c t ys z w (subst (λ (i : Exprs). Applies c t i z) p h) k

  same_definition : (b b' d d' : Body) (l : tree.Expr) (x y : Expr) (p q : Pattern) → b ≡ b' → x ≡ y → Defines b l (type_of x) p d
      → Defines b' l (type_of y) q d' → (p ≡ q) × (d ≡ d')
  same_definition b b' d d' l x y p q e f h k =
      let a = subst (λ (i : Body). Defines i l (type_of x) p d) e h in
      defining.one b' l (type_of y) p q d d' (subst (λ (v : Expr). Defines b' l (type_of v) p d) f a) k

  -- ---- in equal bodies

  pub value_at : (b b1 d : Body) (e : tree.Expr) (x : Expr) → b ≡ b1 → HasValue c b1 e x d → HasValue c b e x d
  value_at b b1 d e x q h = subst (λ (z : Body). HasValue c z e x d) (sym q) h

  pub row_at : (b b1 d : Body) (es : tree.Exprs) (xs : Exprs) → b ≡ b1 → HaveValues c b1 es xs d → HaveValues c b es xs d
  row_at b b1 d es xs q h = subst (λ (z : Body). HaveValues c z es xs d) (sym q) h

  pub part_at : (b b1 d : Body) (n : tree.Part) (u : Optional) → b ≡ b1 → MayHave c b1 n u d → MayHave c b n u d
  part_at b b1 d n u q h = subst (λ (z : Body). MayHave c z n u d) (sym q) h

  pub type_at : (b b1 : Body) (t : written.Ty) (u : Ty) → b ≡ b1 → MeansPermitted c b1 t u → MeansPermitted c b t u
  type_at b b1 t u q h = subst (λ (z : Body). MeansPermitted c z t u) (sym q) h

  pub patterns_at : (b b1 d : Body) (es : tree.Exprs) (ps : Patterns) → b ≡ b1 → ArePatterns c b1 es ps d → ArePatterns c b es ps d
  patterns_at b b1 d es ps q h = subst (λ (z : Body). ArePatterns c z es ps d) (sym q) h

  module _ (is : tree.Inits) (js : Items) (last : Optional) (d : Body) where
    pub items_at : (b b1 : Body) (n : ℤ) (rest : Optional) → b ≡ b1 → Fill c b1 n rest is js last d → Fill c b n rest is js last d
    items_at b b1 n rest q h = subst (λ (z : Body). Fill c z n rest is js last d) (sym q) h

    pub from_at : (b b1 : Body) (n m : ℤ) (rest : Optional) → b ≡ b1 → n ≡ m → Fill c b1 (m +ℤ pos 1) rest is js last d
        → Fill c b (n +ℤ pos 1) rest is js last d
    from_at b b1 n m rest q p h =
        items_at b b1 (n +ℤ pos 1) rest q (subst (λ (z : ℤ). Fill c b1 (z +ℤ pos 1) rest is js last d) (sym p) h)

    pub behind_at : (b b1 : Body) (n : ℤ) (x y : Expr) → b ≡ b1 → x ≡ y → Fill c b1 n (Present y) is js last d
        → Fill c b n (Present x) is js last d
    behind_at b b1 n x y q p h =
        items_at b b1 n (Present x) q (subst (λ (z : Expr). Fill c b1 n (Present z) is js last d) (sym p) h)

-- ---- each is one

module _ (below : OneBelow) (c : Context) where
  mutual
    pub one_thing : (b b' : Body) (e : tree.Expr) (s : Thing) → Denotes c b e s b' → (d : Body) (t : Thing) → Denotes c b e t d
        → (s ≡ t) × (b' ≡ d)
    one_thing _ _ _ _ (typing.by_name b n s h) d t k = let g = form.name_of c b d n t k in (one_name c b n s t h g.0, g.1)
    one_thing _ _ _ _ (typing.by_member b b' e n r s f h) d t k =
        let g = form.member_of c b d e n t k in
        let p = one_thing b b' e r f d g.0 g.1 in
        (one_member c n g.0 s t (subst (λ (z : Thing). MemberIs c n z s) p.0 h) g.2, p.1)
    one_thing _ _ _ _ (typing.by_part b b' e n r s f h) d t k =
        let g = form.part_of c b d e n t k in
        let p = one_thing b b' e r f d g.0 g.1 in
        (things.one_part c n g.0 s t (subst (λ (z : Thing). PartIs c n z s) p.0 h) g.2, p.1)
    one_thing _ _ _ _ (typing.by_value b b' e x q h) d t k =
        let g = form.value_in c b d e t q k in
        let p = one_value b b' e x h d g.0 g.2 in
        (ap AValue p.0 ∙ sym g.1, p.1)

    pub one_value : (b b' : Body) (e : tree.Expr) (x : Expr) → HasValue c b e x b' → (d : Body) (y : Expr) → HasValue c b e y d
        → (x ≡ y) × (b' ≡ d)
    one_value _ _ _ _ (typing.has_value b b' e x h n) d y k = one_typed b b' e x h d y (form.typed_value c b d e y k)

    pub one_typed : (b b' : Body) (e : tree.Expr) (x : Expr) → Types c b e x b' → (d : Body) (y : Expr) → Types c b e y d
        → (x ≡ y) × (b' ≡ d)
    one_typed _ _ _ _ (typing.permitted b b' e x h n) d y k = one_had b b' e x h d y (form.has_form c b d e y k)

    pub one_had : (b b' : Body) (e : tree.Expr) (x : Expr) → Has c b e x b' → (d : Body) (y : Expr) → Has c b e y d
        → (x ≡ y) × (b' ≡ d)
    one_had _ _ _ _ (typing.of_values b b' e es xs z q h f) d w k =
        let g = form.values_of c b d e es w q k in
        let p = one_row b b' es xs h d g.0 g.1 in
        (same_form c below e xs g.0 z w p.0 f g.2, p.1)
    one_had _ _ _ _ (typing.of_path b b' e x q h) d w k =
        let p = one_thing b b' e (AValue x) h d (AValue w) (form.path_of c b d e w q k) in (value_same x w p.0, p.1)
    one_had _ _ _ _ (typing.in_parentheses b b' e x h) d w k = one_typed b b' e x h d w (form.parenthesised c b d e w k)
    one_had _ _ _ _ (typing.of_slice b b1 b2 b' e i j x z u v h f s r) d w k =
        let g = form.slice_of c b d e i j w k in
        let p = one_value b b1 e x h g.b1 g.base g.has_base in
        let q = one_part b1 b2 i u f g.b2 g.from (part_at c b1 g.b1 g.b2 i g.from p.1 g.has_from) in
        let l = one_part b2 b' j v s d g.to (part_at c b2 g.b2 d j g.to q.1 g.has_to) in
        (same_slice x g.base u g.from v g.to z w p.0 q.0 l.0 r g.slices, l.1)
    one_had _ _ _ _ (typing.of_length b b' e t u x z h m s) d w k =
        let g = form.length_of c b d e t w k in
        let p = one_value b b' e x h d g.length g.has in
        let q = one_written c b' t u g.ty m (type_at c b' d t g.ty p.1 g.means) in
        (same_size x g.length u g.ty z w p.0 q s g.sizes, p.1)
    one_had _ _ _ _ (typing.of_channel b t u z m s) d w k =
        let g = form.channel_of c b d t w k in (same_channel u g.0 z w (one_written c b t u g.0 m g.2) s g.3, g.1)
    one_had _ _ _ _ (typing.of_items b b1 b' n is comma u last js z h f s) d w k =
        let g = form.items_of c b d n is comma w k in
        let p = one_part b b1 n u h g.b1 g.length g.has in
        let q =
        one_fill b1 b' (pos 0) Absent is js last f d g.items g.last
        (items_at c is g.items g.last d b1 g.b1 (pos 0) Absent p.1 g.fill) in
        (same_items u g.length js g.items last g.last z w p.0 q.0 q.1 s g.fills, q.2)
    one_had _ _ _ _ (typing.of_load b b' n e i x z m h s) d w k =
        let g = form.load_of c b d n e w k in
        let p = one_value b b' e x h d g.path g.has in
        let q = one_name c b n (AType (Module i)) (AType (Module g.interface)) m g.named in
        (same_load i g.interface x g.path z w q p.0 s g.loads, p.1)
    one_had _ _ _ _ (typing.of_call b b1 b' f es t xs z h s r) d w k =
        let g =
        call_with c b f es w d b1 t (λ o v l. one_thing b b1 f t h o v l) (no_print c t xs z r) (form.call_of c b d f es w k) in
        let p = one_row b1 b' es xs s d g.0 g.1 in
        (same_applied c t xs g.0 z w p.0 r g.2, p.1)
    one_had _ _ _ _ (typing.of_print b b1 b' f es others p m text xs ys o z h e s i r) d w k =
        let g =
        print_with c b f es w d b1 p m (λ v t l. one_thing b b1 f (APrint p m) h v t l) (form.call_of c b d f es w k) in
        let a = same_Some (text, others) (g.text, g.others) (sym e ∙ g.format) in
        let l =
        one_row b1 b' others xs s d g.values
        (subst (λ (v : tree.Exprs). HaveValues c b1 v g.values d) (sym (ap (λ v. v.1) a)) g.have) in
        let q =
        one_output p xs o g.output ys g.printed i (subst (λ (v : Exprs). OutputIs p v g.output g.printed) (sym l.0) g.is) in
        (same_print c.fd o g.output m text g.text ys g.printed z w q.0 (ap (λ v. v.0) a) q.1 r g.prints, l.1)
    one_had _ _ _ _ (typing.of_assignment b b1 b' l r p y z n i m h s) d w k =
        let g = form.assignment_of c b d l r w n k in
        let q = one_pattern b b1 l p i g.b1 g.pattern g.left in
        let a = one_value b1 b' r y h d g.value (value_at c b1 g.b1 d r g.value q.1 g.right) in
        (same_assigned below p g.pattern y g.value z w q.0 a.0 s g.assigns, a.1)
    one_had _ _ _ _ (typing.of_definition b b1 b' l r p y h i s) d w k =
        let g = form.definition_of c b d l r w k in
        let q = one_value b b1 r y h g.b1 g.value g.right in
        let a = same_definition c b1 g.b1 b' d l y g.value p g.pattern q.1 q.0 s g.defines in
        (same_pattern p g.pattern y g.value w a.0 q.0 g.gives, a.1)

    pub one_row : (b b' : Body) (es : tree.Exprs) (xs : Exprs) → HaveValues c b es xs b' → (d : Body) (ys : Exprs)
        → HaveValues c b es ys d → (xs ≡ ys) × (b' ≡ d)
    one_row _ _ _ _ (typing.no_values b) d ys k = let g = form.no_more_values c b d ys k in (sym g.0, g.1)
    one_row _ _ _ _ (typing.values b b1 b' e es x xs h s) d zs k =
        let g = form.more_values c b d e es zs k in
        let p = one_value b b1 e x h g.0 g.1 g.4 in
        let q = one_row b1 b' es xs s d g.2 (row_at c b1 g.0 d es g.2 p.1 g.5) in
        (ap (λ v. MoreExprs v xs) p.0 ∙ ap (MoreExprs g.1) q.0 ∙ sym g.3, q.1)

    pub one_part : (b b' : Body) (n : tree.Part) (u : Optional) → MayHave c b n u b' → (d : Body) (v : Optional)
        → MayHave c b n v d → (u ≡ v) × (b' ≡ d)
    one_part _ _ _ _ (typing.no_part b) d v k = let g = form.absent_part c b d v k in (sym g.0, g.1)
    one_part _ _ _ _ (typing.a_part b b' e x h) d v k =
        let g = form.present_part c b d e v k in
        let p = one_value b b' e x h d g.0 g.2 in
        (ap Present p.0 ∙ sym g.1, p.1)

    pub one_fill : (b b' : Body) (n : ℤ) (rest : Optional) (is : tree.Inits) (js : Items) (last : Optional)
        → Fill c b n rest is js last b' → (d : Body) (ks : Items) (end : Optional) → Fill c b n rest is ks end d
        → (js ≡ ks) × (last ≡ end) × (b' ≡ d)
    one_fill _ _ _ _ _ _ _ (typing.no_items b n rest) d ks end k =
        let g = form.no_more_items c b d n rest end ks k in (sym g.0, sym g.1, g.2)
    one_fill _ _ _ _ _ _ _ (typing.next_item b b1 b' n rest last e is x js h f) d ks end k =
        let g = form.next_in c b d n rest end e is ks k in
        let p = one_value b b1 e x h g.0 g.1 g.4 in
        let q =
        one_fill b1 b' (n +ℤ pos 1) rest is js last f d g.2 end (items_at c is g.2 end d b1 g.0 (n +ℤ pos 1) rest p.1 g.5) in
        (ap (λ v. MoreItems n v js) p.0 ∙ ap (MoreItems n g.1) q.0 ∙ sym g.3, q.1, q.2)
    one_fill _ _ _ _ _ _ _ (typing.item_at b b1 b2 b' n m rest last i e is y x js h t v s f) d ks end k =
        let g = form.at_in c b d n rest end i e is ks k in
        let p = one_value b b1 i y h g.b1 g.at g.has_index in
        let o = one_number y g.at m g.index p.0 v g.is_number in
        let l = one_value b1 b2 e x s g.b2 g.item (value_at c b1 g.b1 g.b2 e g.item p.1 g.has_item) in
        let q =
        one_fill b2 b' (m +ℤ pos 1) rest is js last f d g.items end
        (from_at c is g.items end d b2 g.b2 m g.index rest l.1 o g.others) in
        (ap (λ z. MoreItems z x js) o ∙ ap (λ z. MoreItems g.index z js) l.0 ∙ ap (MoreItems g.index g.item) q.0 ∙ sym g.gives, q.1, q.2)
    one_fill _ _ _ _ _ _ _ (typing.rest_of b b1 b' n last e is x js h f) d ks end k =
        let g = form.rest_in c b d n Absent end e is ks k in
        let p = one_value b b1 e x h g.0 g.1 g.3 in
        one_fill b1 b' n (Present x) is js last f d ks end (behind_at c is ks end d b1 g.0 n x g.1 p.1 p.0 g.4)

    pub one_pattern : (b b' : Body) (e : tree.Expr) (p : Pattern) → IsPattern c b e p b' → (d : Body) (q : Pattern)
        → IsPattern c b e q d → (p ≡ q) × (b' ≡ d)
    one_pattern _ _ _ _ (typing.to_nothing b) d q k = let g = form.nowhere c b d q k in (sym g.0, g.1)
    one_pattern _ _ _ _ (typing.in_one b b' e p h) d q k = one_pattern b b' e p h d q (form.pattern_in c b d e q k)
    one_pattern _ _ _ _ (typing.to_parts b b' e f es ps h) d q k =
        let g = form.patterns_in c b d e f es q k in
        let p = one_patterns b b' (tree.MoreExprs e (tree.MoreExprs f es)) ps h d g.0 g.2 in
        (ap ToParts p.0 ∙ sym g.1, p.1)
    one_pattern _ _ _ _ (typing.to_place b b' e t p n h) d q k =
        let g = form.place_in c b d e q n k in
        let o = one_value b b' e (Of t (Read p)) h d (Of g.0 (Read g.1)) g.3 in
        (ap ToPlace (place_same t g.0 p g.1 o.0) ∙ sym g.2, o.1)

    pub one_patterns : (b b' : Body) (es : tree.Exprs) (ps : Patterns) → ArePatterns c b es ps b' → (d : Body) (qs : Patterns)
        → ArePatterns c b es qs d → (ps ≡ qs) × (b' ≡ d)
    one_patterns _ _ _ _ (typing.no_patterns b) d qs k = let g = form.no_more_patterns c b d qs k in (sym g.0, g.1)
    one_patterns _ _ _ _ (typing.more_patterns b b1 b' e es p ps h s) d qs k =
        let g = form.more_patterns c b d e es qs k in
        let o = one_pattern b b1 e p h g.0 g.1 g.4 in
        let q = one_patterns b1 b' es ps s d g.2 (patterns_at c b1 g.0 d es g.2 o.1 g.5) in
        (ap (λ v. MorePatterns v ps) o.0 ∙ ap (MorePatterns g.1) q.0 ∙ sym g.3, q.1)
